-- What a signal allows for each request (`Polls`) and each call (`Calls`), by its value, and which wakers it hands out.
use Rattle.std.specs.Prelude.{◌≡◌, Bool, List, Option, Some, None, is_some}
use Rattle.esync_machine.specs.declared.primitive.Answer.{Answer}
use Rattle.esync_machine.specs.declared.primitive.Answer.TheVariants.{Done, Pending, Gives}
use Rattle.esync_machine.specs.Rules.{Rules, asked_rules}
use Rattle.esync_machine.specs.Wakings.{Wakings, Handed, nothing, registers, hands_out}
use Rattle.esync_cells.specs.declared.signal.machine.Wait.{Wait}
use Rattle.esync_cells.specs.declared.signal.machine.SignalCall.{SignalCall}
use Rattle.esync_cells.specs.declared.signal.machine.SignalCall.TheVariants.{Signal, Reset, TryTake, Signaled}
use Rattle.esync_cells.specs.declared.signal.machine.SignalHeard.{SignalHeard}
use Rattle.esync_cells.specs.declared.signal.machine.SignalHeard.TheVariants.{Waited, Taken, Signaled as IsSignaled}

abbrev pub Polls : {T : Type 0} → Option T → Wait → Answer (SignalHeard T) → Option T → Option Wait → Type 0
Polls None h a o2 p = (a ≡ Pending) × (o2 ≡ None) × (p ≡ Some h)
Polls (Some x) h a o2 p = (a ≡ Gives (Waited x)) × (o2 ≡ None) × (p ≡ None)

abbrev pub Calls : {T : Type 0} → Option T → SignalCall T → Answer (SignalHeard T) → Option T → Type 0
Calls o (Signal x) a o2 = (a ≡ Done) × (o2 ≡ Some x)
Calls o Reset a o2 = (a ≡ Done) × (o2 ≡ None)
Calls o TryTake a o2 = (a ≡ Gives (Taken o)) × (o2 ≡ None)
Calls o Signaled a o2 = (a ≡ Gives (IsSignaled (is_some o))) × (o2 ≡ o)

-- the object is an optional value
abbrev pub signal_rules : (T : Type 0) → Rules Wait Wait (SignalCall T) (SignalHeard T)
signal_rules T = asked_rules Polls Calls

-- a wait without a value registers its waker, and a new value hands out the registered one
module _ {T W : Type 0} (eq : W → W → Bool) where
  abbrev pub poll_hands : Option T → List W → W → Handed (List W) W
  poll_hands None waiter w = registers eq waiter w
  poll_hands (Some x) waiter w = nothing waiter

  abbrev pub call_hands : List W → SignalCall T → Handed (List W) W
  call_hands waiter (Signal x) = hands_out waiter
  call_hands waiter Reset = nothing waiter
  call_hands waiter TryTake = nothing waiter
  call_hands waiter Signaled = nothing waiter

  -- at most one waker is registered
  abbrev pub signal_wakings : Wakings (Option T) Wait (SignalCall T) (SignalHeard T) W
  signal_wakings = record {
    Registered = List W;
    polls = λ o waiter h w a p. poll_hands o waiter w;
    ends = λ o waiter h. nothing waiter;
    calls = λ o waiter call p a. call_hands waiter call;
  }
