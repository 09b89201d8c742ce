-- A place may be shared where its item may. Assumes nothing.
use Rattle.std.proofs.Common.{ℕ, Option, Some, None}
use base.Fml.{Lft}
use base.Shift.{Keyless}
use denote.RattleType.{RattleType}
use denote.Param.Send.{IsSync}
use Rattle.esync_rows.specs.contracts.place.Place.{the_row}

module _ (T : RattleType) (y : IsSync T) where
  shown : (d : Option T.Denot) (b o : ℕ) (κ : Lft) → Keyless ((the_row T).shr_at d b o κ)
  shown (Some x) b o κ = ((y.shared x b _ κ, tt), λ q. tt)
  shown None b o κ = tt

pub sync : (T : RattleType) → IsSync T → IsSync (the_row T)
sync T y = record { shared = λ d b o κ. shown T y d b o κ }
