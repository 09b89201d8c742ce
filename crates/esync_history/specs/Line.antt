-- Numbers that stand in a queue, each of them at most once.
use Rattle.std.specs.Prelude.{◌≡◌, ℕ, suc, ◌<◌, ◌≤◌, Bool, true, false, List, [], ◌∷◌, ◌++◌, length, slice_index_or, if◌then◌else◌}
use Rattle.esync_base.specs.Listed.{is_in, NoTwice}

-- the queue with the number at its back, or as it is if the number is queued already
abbrev pub put_last : List ℕ → ℕ → List ℕ
put_last ns k = if is_in k ns then ns else ns ++ k ∷ []

-- Numbers in a queue, oldest first, all of them below `room`.
pub record Line : Type 0 where
  pub room : ℕ
  pub numbers : List ℕ

-- how many flags are raised
abbrev pub raised : List Bool → ℕ
raised [] = 0
raised (true ∷ fs) = suc (raised fs)
raised (false ∷ fs) = raised fs

-- A queue with a flag for each number, and with room for all of them.
pub record IsLine (numbers : List ℕ) (flags : List Bool) (capacity : ℕ) : Type 0 where
  pub below : (k : ℕ) → is_in k numbers ≡ true → k < length flags
  pub distinct : NoTwice numbers
  pub flagged : (k : ℕ) → k < length flags → slice_index_or flags k false ≡ is_in k numbers
  pub count : raised flags ≡ length numbers
  pub room : length flags ≤ capacity
