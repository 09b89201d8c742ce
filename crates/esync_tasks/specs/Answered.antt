-- Polls that may find no memory.
use Rattle.std.specs.Prelude.{Result, Ok, Err}
use Rattle.esync_base.specs.declared.waitqueue.Poll.{Poll}
use Rattle.esync_base.specs.declared.waitqueue.Poll.TheVariants.{Ready, Pending}

-- a poll that may find no memory, as the poll of a future that is then ready with the error
abbrev pub answered : {T E : Type 0} → Result (Poll T) E → Poll (Result T E)
answered (Ok (Ready value)) = Ready (Ok value)
answered (Ok Pending) = Pending
answered (Err error) = Ready (Err error)
