-- What commands and their answers tell of a run.
use Rattle.std.specs.Prelude.{ℕ, suc, List, [], ◌∷◌, Option, Some, None, ◌==◌, if◌then◌else◌}
use Rattle.esync_machine.specs.declared.primitive.Answer.{Answer}
use Rattle.esync_machine.specs.declared.primitive.Answer.TheVariants.{Done, Pending, NoSuch, NoMemory, Gives}
use Rattle.esync_machine.specs.declared.primitive.Command.{Command}
use Rattle.esync_machine.specs.declared.primitive.Command.TheVariants.{Start, Poll, End, Call}

module _ {S Command Reply : Type 0} (after : S → Command → Reply → S) where
  -- what is known after the commands, if `after` says what is known after one
  abbrev pub account : S → List Command → List Reply → S
  account k [] as' = k
  account k (c ∷ cs) [] = k
  account k (c ∷ cs) (a ∷ as') = account (after k c a) cs as'

  -- each command and its answer obey a law, which may use what is known before it
  abbrev pub AtEach : (S → Command → Reply → Type 0) → S → List Command → List Reply → Type 0
  AtEach Law k [] as' = Unit {0}
  AtEach Law k (c ∷ cs) [] = Unit {0}
  AtEach Law k (c ∷ cs) (a ∷ as') = Law k c a × AtEach Law (after k c a) cs as'

module _ {Ask : Type 0} where
  -- what the request was started for, by a list of starts, newest first
  abbrev pub ask_of : List (ℕ × Ask) → ℕ → Option Ask
  ask_of [] r = None
  ask_of (x ∷ asked) r = if x.0 == r then Some x.1 else ask_of asked r

  -- the requests at the numbers from r on, as a list of starts
  abbrev pub asked_from : ℕ → List (Option Ask) → List (ℕ × Ask)
  asked_from r [] = []
  asked_from r (None ∷ requests) = asked_from (suc r) requests
  asked_from r (Some ask ∷ requests) = (r, ask) ∷ asked_from (suc r) requests

  abbrev pub asked_if : {A : Type 0} → List (ℕ × Ask) → ℕ → Ask → Answer A → List (ℕ × Ask)
  asked_if asked r ask Done = (r, ask) ∷ asked
  asked_if asked r ask Pending = asked
  asked_if asked r ask NoSuch = asked
  asked_if asked r ask NoMemory = asked
  asked_if asked r ask (Gives heard) = asked

  -- the list of starts after a command: it gains the start, if that was done
  abbrev pub asked_after : {W C A : Type 0} → List (ℕ × Ask) → Command Ask W C → Answer A → List (ℕ × Ask)
  asked_after asked (Start r ask) a = asked_if asked r ask a
  asked_after asked (Poll r w) a = asked
  asked_after asked (End r) a = asked
  asked_after asked (Call call) a = asked
