-- What is owed to a wait, and the laws that the signal's steps keep.
use Rattle.std.specs.Prelude.{◌≡◌, Bool, Option, Some, None, refl}
use Rattle.esync_base.specs.Registration.{IsAmong}
use Rattle.esync_machine.specs.Rules.{IsIdle, IdleIsPending}
use Rattle.esync_cells.specs.Signal.{Signaling}
use Rattle.esync_cells.specs.SignalRules.{signal_rules}
use Rattle.esync_cells.specs.declared.signal.machine.Wait.{Wait}

-- there is no value, and the waker is registered for one
abbrev pub OwesWait : {T W : Type 0} → (W → W → Bool) → Signaling T W → W → Type 0
OwesWait eq s w = (s.value ≡ None) × IsAmong eq w s.waiter

pub signal_idle : {T : Type 0} (o : Option T) (h : Wait) → o ≡ None → IsIdle (signal_rules T) o h
signal_idle None h e = (refl, refl, refl)
signal_idle (Some x) h e = cc

pub signal_pending : {T : Type 0} → IdleIsPending (signal_rules T)
signal_pending None h a o2 p i k = k
signal_pending (Some x) h a o2 p i k = (let f = i.0 in absurd cc)
