-- A place may be sent where its item may. Assumes nothing.
use Rattle.std.proofs.Common.{List, Option, Some, None}
use mir.Val.{Val}
use base.Shift.{Keyless}
use denote.RattleType.{RattleType}
use denote.Param.Send.{IsSend}
use Rattle.esync_rows.specs.Place.{place_owns}
use Rattle.esync_rows.specs.contracts.place.Place.{the_row}
use Rattle.esync_rows.specs.contracts.place.Place.TheInside as inside

module _ (T : RattleType) (s : IsSend T) where
  holds : (d : Option T.Denot) (vs : List Val) → Keyless (place_owns (λ x. (inside.the_row T).own_val (record { item = x }) vs) d)
  holds (Some x) vs = λ vss. (tt, (s.owned x vss.0, tt))
  holds None vs = tt

pub send : (T : RattleType) → IsSend T → IsSend (the_row T)
send T s = record { owned = λ d vs. ((λ _. tt), holds T s d vs); leaving = λ k d w. tt }
