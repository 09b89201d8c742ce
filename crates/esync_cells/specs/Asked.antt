-- The requests at their numbers, as the commands and their answers tell them. A number is free once its request is
-- over: a poll there names what isn't there. `asked_after` of the machine still knows then what was asked for.
use Rattle.std.specs.Prelude.{List, Option, Some, None, slice_set}
use Rattle.esync_machine.specs.declared.primitive.Answer.{Answer}
use Rattle.esync_machine.specs.declared.primitive.Answer.TheVariants.{Done, Gives}
use Rattle.esync_machine.specs.declared.primitive.Command.{Command}
use Rattle.esync_machine.specs.declared.primitive.Command.TheVariants.{Start, Poll, End}

-- after a command on a number and its answer: a request is there from its start on, until it is answered or ended
abbrev pub requests_after : {Ask W C A : Type 0} → List (Option Ask) → Command Ask W C → Answer A → List (Option Ask)
requests_after requests (Start r ask) Done = slice_set requests r (Some ask)
requests_after requests (Poll r w) (Gives heard) = slice_set requests r None
requests_after requests (End r) Done = slice_set requests r None
requests_after requests _ _ = requests
