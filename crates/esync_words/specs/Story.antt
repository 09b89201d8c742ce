-- What is written of a script. What is written of a line may depend on the lines before it.
use Rattle.std.specs.Prelude.{ℕ, List, []}
use Rattle.esync_machine.specs.declared.primitive.Answer.{Answer}
use Rattle.esync_machine.specs.declared.primitive.Command.{Command}
use Rattle.esync_machine.specs.declared.primitive.Command.TheVariants.{Start, Poll, End, Call}
use Rattle.esync_words.specs.declared.play.Giver.{Giver}
use Rattle.esync_words.specs.declared.play.Giver.TheVariants.{Task, Starter, Dropper, Caller}
use Rattle.esync_words.specs.Text.{answer_text, line_text}

-- The text of a script, line by line.
pub record Story : Type 1 where
  -- what is noted of the lines before a line
  pub Notes : Type 0
  -- what is written of line 1, which names the primitive
  pub head : List ℕ → List ℕ
  -- what is noted of line 1
  pub first_notes : List ℕ → Notes
  -- what is written of a line: by the notes of the lines before, its number, the giver of its command, its answer,
  -- whose text the primitive's words have, and the wakers that are handed out
  pub tells : (A : Type 0) → (A → List ℕ) → Notes → ℕ → List ℕ → Giver → Answer A → List ℕ → List ℕ
  -- what is noted of the lines up to this one
  pub next_notes : (A : Type 0) → Notes → Giver → Answer A → List ℕ → Notes
  -- what is written behind the last line
  pub foot : List ℕ

-- a story that notes nothing
abbrev pub without_notes : (List ℕ → List ℕ) → ((A : Type 0) → (A → List ℕ) → ℕ → List ℕ → Giver → Answer A → List ℕ → List ℕ) → List ℕ → Story
without_notes head tells foot = record {
  Notes = Unit {0};
  head = head;
  first_notes = λ line. tt;
  tells = λ A text noted number line giver answer wakers. tells A text number line giver answer wakers;
  next_notes = λ A noted giver answer wakers. tt;
  foot = foot;
}

-- a story that writes nothing
abbrev pub silent_story : Story
silent_story = without_notes (λ line. []) (λ A text number line giver answer wakers. []) []

-- a story of the answers alone, a line each
abbrev pub replies_story : Story
replies_story = without_notes (λ line. []) (λ A text number line giver answer wakers. line_text (answer_text text answer) wakers) []

-- What is written of the lines behind line 1, by their commands and replies.
pub record Transcript (Command Reply : Type 0) : Type 1 where
  pub Notes : Type 0
  pub tells : Notes → ℕ → List ℕ → Command → Reply → List ℕ
  pub next_notes : Notes → Command → Reply → Notes

-- the giver of a command
abbrev pub giver_of : {Q C : Type 0} → Command Q ℕ C → Giver
giver_of (Start r ask) = Starter r
giver_of (Poll r w) = Task r w
giver_of (End r) = Dropper r
giver_of (Call call) = Caller

-- the transcript of a story, for replies with this answer and these wakers
abbrev pub transcript_of : {Q C A Reply : Type 0} (S : Story) → (A → List ℕ) → (Reply → Answer A) → (Reply → List ℕ) → Transcript (Command Q ℕ C) Reply
transcript_of {A = A} S text answer wakes = record {
  Notes = S.Notes;
  tells = λ noted number line command reply. S.tells A text noted number line (giver_of command) (answer reply) (wakes reply);
  next_notes = λ noted command reply. S.next_notes A noted (giver_of command) (answer reply) (wakes reply);
}
