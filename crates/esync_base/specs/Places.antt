-- How the items of a ring lie in its row of places.
use Rattle.std.specs.Prelude.{◌≡◌, ◌↔◌, ℕ, zero, suc, ◌-◌, ◌<◌, ◌≤◌, List, ◌++◌, Option, None, IsSome, Bool, IsTrue, length, take, drop, slice_set, slice_index_or}
use Rattle.esync_base.specs.Rows.{items_of, row_of}
use Rattle.esync_base.specs.Ring.{next, slot}

-- the row as it is read from place f on, round to the place before it
abbrev pub read_from : {A : Type 0} → ℕ → List A → List A
read_from f row = drop f row ++ take f row

-- the items in a row of n places, which stand one behind the other from start on
abbrev pub items_from : {A : Type 0} → ℕ → List (Option A) → List A
items_from start row = items_of (read_from start row)

-- the items stand from start on, one behind the other, up to the place before end, and the other places are empty
pub record IsRing {A : Type 0} (n : ℕ) (row : List (Option A)) (start end : ℕ) (full : Bool) : Type 0 where
  pub laid : read_from start row ≡ row_of n (items_from start row)
  pub places : length row ≡ n
  pub fits : length (items_from start row) ≤ n
  pub first : start ≤ n - 1
  pub last : end ≡ slot n start (length (items_from start row))
  pub filled : IsTrue full ↔ ((length (items_from start row) ≡ n) × (0 < n))

-- the row after what stands at place i has gone to place j, which was empty
abbrev pub moved : {A : Type 0} → List (Option A) → ℕ → ℕ → List (Option A)
moved row i j = slice_set (slice_set row i None) j (slice_index_or row i None)

-- the row after the k items behind an empty place have gone one place towards it
abbrev pub closed : {A : Type 0} → ℕ → List (Option A) → ℕ → ℕ → List (Option A)
closed n row gap zero = row
closed n row gap (suc k) = closed n (moved row (next n gap) gap) (next n gap) k

-- the k places behind place i each hold an item
abbrev pub HoldsBehind : {A : Type 0} → ℕ → List (Option A) → ℕ → ℕ → Type 0
HoldsBehind n row i k = (j : ℕ) → j < k → IsSome (slice_index_or row (slot n i (suc j)) None)
