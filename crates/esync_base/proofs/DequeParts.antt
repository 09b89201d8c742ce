-- The places of a ring fit in memory where it does.
use Rattle.std.proofs.Common.{ℕ, refl}
use denote.Param.{layout, param, number}
use denote.RattleType.{RattleType}
use denote.Struct.Declared.{shape}
use Rattle.esync_base.proofs.Parts.{Fits, part_fits}
use Rattle.esync_rows.specs.contracts.row.Row.{the_row as places_row}
use Rattle.esync_base.specs.contracts.deque.Deque.{the_row}
use Rattle.esync_base.specs.contracts.deque.Deque.TheInside.{the_type}

module _ (T N : RattleType) where
  places : Fits (the_row T N) → Fits (places_row T N)
  places = part_fits (shape (the_type T N)) (layout (places_row T N)) _ 3 refl

-- as the methods name them
pub places_fit : (T : RattleType) (N : ℕ) → Fits (the_row (param 0 T) (param 1 (number N))) → Fits (places_row (param 0 T) (param 1 (number N)))
places_fit T N = places (param 0 T) (param 1 (number N))
