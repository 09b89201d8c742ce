-- A row of l bytes whose first ones count.
use Rattle.std.specs.Prelude.{◌≡◌, ℕ, ◌-◌, List, ◌++◌, take, length}
use Rattle.std.proofs.Math.ListN.{replicate}

-- the bytes, and behind them zeros up to l
abbrev pub padded : ℕ → List ℕ → List ℕ
padded l bytes = bytes ++ replicate (l - length bytes) 0

-- the first len bytes of the row count, and the rest are zeros
pub record IsPadded (l : ℕ) (row : List ℕ) (len : ℕ) : Type 0 where
  pub shape : row ≡ padded l (take len row)
  pub count : len ≡ length (take len row)
