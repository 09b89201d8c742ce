-- What a reader may conclude of the words of a run.
use Rattle.std.specs.Prelude.{ℕ}
use Rattle.esync_machine.specs.Runs.{Meaning, IsReady, IsDue}

-- a request that is ready is due
pub ready_is_due : {Command Reply Waker : Type 0} (M : Meaning Command Reply Waker) (o : M.Object) (r : ℕ) → IsReady M o r → IsDue M o r
ready_is_due M o r ready c w a = ready c w a o
