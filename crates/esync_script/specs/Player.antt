-- How a script is played behind line 1.
use Rattle.std.specs.Prelude.{ℕ, List, Option, Result}
use Rattle.esync_machine.specs.Runs.{Meaning}
use Rattle.esync_machine.specs.declared.primitive.Answer.{Answer}
use Rattle.esync_machine.specs.declared.primitive.Command.{Command}
use Rattle.esync_words.specs.declared.fault.Fault.{Fault}
use Rattle.esync_words.specs.Story.{Story, transcript_of}
use Rattle.esync_words.specs.Played.{Played}

-- each line is given to the machine as a command, and the story tells of it, from the notes before to the notes after
abbrev pub plays_and_tells : (S : Story) → S.Notes → S.Notes → (Q C A Reply : Type 0) (M : Meaning (Command Q ℕ C) Reply ℕ) → (List ℕ → Option (Command Q ℕ C)) → (A → List ℕ) → (Reply → Answer A) → (Reply → List ℕ) → M.Object → M.Registered → ℕ → Option (List ℕ) → Option (List ℕ) → Option (List ℕ) → Result (Unit {0}) Fault → Type 0
plays_and_tells S was now Q C A Reply M says text answer wakes object registered n left before after outcome =
    Played M says (transcript_of S text answer wakes) was now object registered n left before after outcome
