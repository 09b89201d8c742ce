-- The places of a queue fit in memory where it does.
use Rattle.std.proofs.Common.{ℕ, refl}
use denote.Param.{layout, param, number}
use denote.RattleType.{RattleType}
use denote.Struct.Declared.{shape}
use Rattle.esync_base.proofs.Parts.{Fits, part_fits}
use Rattle.esync_rows.specs.contracts.row.Row.{the_row as places_row}
use Rattle.esync_priority.specs.declared.prio.Kind.{Ghosts}
use Rattle.esync_priority.specs.contracts.prio.PrioQueue.{the_row}
use Rattle.esync_priority.specs.contracts.prio.PrioQueue.TheInside.{the_type}

module _ (T K N : RattleType) (kind : Ghosts K.Denot T.Denot) where
  places : Fits (the_row T K N kind) → Fits (places_row T N)
  places = part_fits (shape (the_type T K N kind)) (layout (places_row T N)) _ 1 refl

-- as the methods name them
pub places_fit : (T K : RattleType) (N : ℕ) (kind : Ghosts K.Denot T.Denot) → Fits (the_row (param 0 T) (param 1 K) (param 2 (number N)) kind) → Fits (places_row (param 0 T) (param 2 (number N)))
places_fit T K N kind = places (param 0 T) (param 1 K) (param 2 (number N)) kind
