-- Requests of a fair semaphore are granted in the order in which they first heard Pending, as commands and answers
-- tell.
use Rattle.std.specs.Prelude.{◌≡◌, ℕ, List, [], ◌∷◌, ◌++◌, Option, Some, None, Ok, if◌then◌else◌}
use Rattle.esync_base.specs.Listed.{is_in}
use Rattle.esync_machine.specs.Account.{AtEach}
use Rattle.esync_machine.specs.declared.run.Reply.{Reply}
use Rattle.esync_machine.specs.declared.primitive.Answer.{Answer}
use Rattle.esync_machine.specs.declared.primitive.Answer.TheVariants.{Done, Pending, NoSuch, NoMemory, Gives}
use Rattle.esync_machine.specs.declared.primitive.Command.{Command}
use Rattle.esync_machine.specs.declared.primitive.Command.TheVariants.{Start, Poll, End, Call}
use Rattle.esync_permits.specs.declared.semaphore.Amount.{Amount}
use Rattle.esync_permits.specs.declared.semaphore.machine.PermitCall.{PermitCall}
use Rattle.esync_permits.specs.declared.semaphore.machine.PermitCall.TheVariants.{Try, Disarm, Release, Set, Permits}
use Rattle.esync_permits.specs.declared.semaphore.machine.PermitHeard.TheVariants.{Granted, Tried}
use Rattle.esync_permits.specs.Queue.{without}
use Rattle.esync_permits.specs.FairRules.{Heard}

-- the requests that wait, in the order in which they first heard Pending: after a poll, an end, and any command
abbrev pub line_after_poll : List ℕ → ℕ → Answer Heard → List ℕ
line_after_poll line r Pending = if is_in r line then line else line ++ r ∷ []
line_after_poll line r (Gives heard) = without r line
line_after_poll line r Done = line
line_after_poll line r NoSuch = line
line_after_poll line r NoMemory = line

abbrev pub line_after_end : List ℕ → ℕ → Answer Heard → List ℕ
line_after_end line r Done = without r line
line_after_end line r Pending = line
line_after_end line r NoSuch = line
line_after_end line r NoMemory = line
line_after_end line r (Gives heard) = line

abbrev pub line_after : {W : Type 0} → List ℕ → Command Amount W PermitCall → Answer Heard → List ℕ
line_after line (Start r amount) a = line
line_after line (Poll r w) a = line_after_poll line r a
line_after line (End r) a = line_after_end line r a
line_after line (Call call) a = line

-- the request that an answer grants
abbrev pub granted_to : ℕ → Answer Heard → Option ℕ
granted_to r (Gives (Granted (Ok k))) = Some r
granted_to r (Gives (Tried (Some k))) = Some r
granted_to r _ = None

abbrev pub granted : {W : Type 0} → Command Amount W PermitCall → Answer Heard → Option ℕ
granted (Start r amount) a = None
granted (Poll r w) a = granted_to r a
granted (End r) a = None
granted (Call (Try r amount)) a = granted_to r a
granted (Call (Disarm r)) a = None
granted (Call (Release k)) a = None
granted (Call (Set k)) a = None
granted (Call Permits) a = None

-- the request is the first in the line, or there is no line
abbrev pub IsFirst : Option ℕ → List ℕ → Type 0
IsFirst None line = Unit {0}
IsFirst (Some r) [] = Unit {0}
IsFirst (Some r) (x ∷ line) = x ≡ r

-- whenever a request is granted, it is the first of those that wait, or no request waits
abbrev pub NobodyOvertakes : {W : Type 0} {K : ℕ} → List ℕ → List (Command Amount W PermitCall) → List (Reply (Answer Heard) W K) → Type 0
NobodyOvertakes line commands replies = AtEach (λ line c a. line_after line c a.answer) (λ line c a. IsFirst (granted c a.answer) line) line commands replies
