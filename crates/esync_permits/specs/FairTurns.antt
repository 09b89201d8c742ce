-- What the machine of a fair semaphore makes of a poll of its state.
use Rattle.std.specs.Prelude.{Option, Some, None, Ok, Err}
use Rattle.esync_permits.specs.declared.semaphore.Amount.{Amount}
use Rattle.esync_permits.specs.declared.semaphore.FairPoll.{FairPoll}
use Rattle.esync_permits.specs.declared.semaphore.FairPoll.TheVariants.{Pending as Waits, Ready}
use Rattle.esync_permits.specs.declared.semaphore.machine.PermitHeld.TheVariants.{Waiting, Releaser}
use Rattle.esync_permits.specs.declared.semaphore.machine.PermitHeard.TheVariants.{Granted}
use Rattle.esync_permits.specs.FairRules.{Held, Heard}
use Rattle.esync_machine.specs.declared.primitive.Answer.{Answer}
use Rattle.esync_machine.specs.declared.primitive.Answer.TheVariants.{Pending, Gives}

-- what the machine answers to the poll
abbrev pub answer_of : FairPoll → Answer Heard
answer_of (Ready answer) = Gives (Granted answer)
answer_of (Waits t) = Pending

-- what stands at the number of the request afterwards
abbrev pub place_of : Amount → FairPoll → Option Held
place_of amount (Ready (Ok k)) = Some (Releaser k)
place_of amount (Ready (Err e)) = None
place_of amount (Waits t) = Some (Waiting amount (Some t))
