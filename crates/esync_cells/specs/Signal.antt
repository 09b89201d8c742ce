-- A signal: an optional value, and the registered waker.
use Rattle.std.specs.Prelude.{List, Option, Some, None, refl}
use Rattle.std.specs.Coded.{Coded, code_by, coded×, coded_list, coded_option}
use Rattle.esync_base.specs.declared.waitqueue.Poll.{Poll}
use Rattle.esync_base.specs.declared.waitqueue.Poll.TheVariants.{Pending, Ready}

pub record Signaling (T W : Type 0) : Type 0 where
  pub value : Option T
  -- the registered waker, at most one
  pub waiter : List W

abbrev pub signaling_code : {T W : Type 0} → Coded T → Coded W → Coded (Signaling T W)
signaling_code {T} {W} t w =
    code_by (Option T × List W) (coded× (coded_option t) (coded_list w)) (λ s. (s.value, s.waiter)) (λ p. record { value = p.0; waiter = p.1 }) (λ _. refl)

-- what a wait answers
abbrev pub waited : {T : Type 0} → Option T → Poll T
waited None = Pending
waited (Some x) = Ready x

-- the waker of a wait is registered if there is no value
abbrev pub waiter_where_empty : {T W : Type 0} → Option T → W → Option W
waiter_where_empty None w = Some w
waiter_where_empty (Some x) w = None
