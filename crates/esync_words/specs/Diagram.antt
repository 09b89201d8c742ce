-- The text of a picture, in the language of Mermaid.
use Rattle.std.specs.Prelude.{◌≡◌, refl, ℕ, List, ◌∷◌, [], ◌++◌, Option, Some, None, Bool, codes, decimal, ◌%◌, ◌==◌, if◌then◌else◌, slice_set}
use Rattle.std.proofs.Math.ListN.{replicate}
use Rattle.std.specs.List.{list_any}
use Rattle.esync_base.specs.Rows.{items_of}
use Rattle.esync_machine.specs.declared.primitive.Answer.{Answer}
use Rattle.esync_machine.specs.declared.primitive.Answer.TheVariants.{Done, Pending, NoSuch, NoMemory, Gives}
use Rattle.esync_machine.specs.Numbers.{swept}
use Rattle.esync_words.specs.declared.play.Giver.{Giver}
use Rattle.esync_words.specs.declared.play.Giver.TheVariants.{Task, Starter, Dropper, Caller}
use Rattle.esync_words.specs.Story.{Story, without_notes}
use Rattle.esync_words.specs.Text.{answer_text, each_text}

-- the lane of the giver of a command
abbrev pub lane_text : Giver → List ℕ
lane_text (Task r w) = codes "task_" ++ decimal w
lane_text (Starter r) = codes "caller"
lane_text (Dropper r) = codes "caller"
lane_text Caller = codes "caller"

-- the arrow of a command
abbrev pub arrow_text : Giver → List ℕ
arrow_text (Task r w) = codes "->>object: "
arrow_text (Starter r) = codes "->>object: "
arrow_text Caller = codes "->>object: "
arrow_text (Dropper r) = codes "-xobject: "

-- the text of a command's arrow: the line, with `drop` for `end`, which is a word of Mermaid
abbrev pub said_text : Giver → List ℕ → List ℕ
said_text (Task r w) line = line
said_text (Starter r) line = line
said_text Caller line = line
said_text (Dropper r) line = codes "drop " ++ decimal r

abbrev pub wake_text : ℕ → List ℕ
wake_text w = codes "    object-)task_" ++ decimal w ++ (codes ": wake" ++ 10 ∷ [])

abbrev pub command_text : Giver → ℕ → List ℕ → List ℕ
command_text giver number line = codes "    " ++ lane_text giver ++ arrow_text giver ++ decimal number ++ codes ": " ++ said_text giver line ++ 10 ∷ []

-- the arrow of an answer
abbrev pub back_text : Giver → List ℕ
back_text giver = codes "    object-->>" ++ lane_text giver ++ codes ": "

abbrev pub note_text : Giver → List ℕ
note_text giver = codes "    Note over " ++ lane_text giver ++ (codes ": waits" ++ 10 ∷ [])

-- the note that the giver of a command waits, if it is answered Pending
abbrev pub wait_text : {A : Type 0} → Giver → Answer A → List ℕ
wait_text giver Pending = note_text giver
wait_text giver Done = []
wait_text giver NoSuch = []
wait_text giver NoMemory = []
wait_text giver (Gives a) = []

abbrev pub reply_text : Giver → List ℕ → List ℕ
reply_text giver answer = back_text giver ++ answer ++ 10 ∷ []

abbrev pub participant_text : List ℕ → List ℕ
participant_text line = codes "    participant object as " ++ line ++ 10 ∷ []

-- the head of a picture
abbrev pub head_text : List ℕ → List ℕ
head_text line = (codes "sequenceDiagram" ++ 10 ∷ []) ++ participant_text line

-- a command, its answer, and the wakers that it hands out
abbrev pub step_text : {A : Type 0} → (A → List ℕ) → ℕ → List ℕ → Giver → Answer A → List ℕ → List ℕ
step_text text number line giver answer wakers = ((command_text giver number line ++ reply_text giver (answer_text text answer)) ++ wait_text giver answer) ++ each_text wake_text wakers

-- a picture
abbrev pub diagram_story : Story
diagram_story = without_notes head_text (λ A text number line giver answer wakers. step_text text number line giver answer wakers) []

-- a fence, which Markdown has around a picture
abbrev pub fence_text : List ℕ
fence_text = codes "```mermaid" ++ 10 ∷ []

abbrev pub fence_end : List ℕ
fence_end = codes "```" ++ 10 ∷ []

-- What a document notes of the lines before a line.
pub record Noted : Type 0 where
  -- line 1, which names the primitive
  pub name : List ℕ
  -- for each number of a request, the waker with which it waits
  pub waits : List (Option ℕ)

-- no request waits: for each number below n, no waker
pub nobody : ℕ → List (Option ℕ)
nobody n = replicate n None

-- (where it is unfolded the checker computes a row of 1,024)
pub nobody_is : (n : ℕ) → nobody n ≡ replicate n None
unfolding nobody
nobody_is n = refl

-- the note of line 1
abbrev pub noted_first : List ℕ → Noted
noted_first line = record { name = line; waits = nobody 1024 }

-- a poll that is answered Pending waits, with its waker
abbrev pub waker_if_pending : {A : Type 0} → ℕ → Answer A → Option ℕ
waker_if_pending w Pending = Some w
waker_if_pending w Done = None
waker_if_pending w NoSuch = None
waker_if_pending w NoMemory = None
waker_if_pending w (Gives a) = None

-- the requests that wait behind a command: a polled one waits if it is Pending, and a started or dropped one doesn't
abbrev pub waits_behind : {A : Type 0} → List (Option ℕ) → Giver → Answer A → List (Option ℕ)
waits_behind waits (Task r w) answer = slice_set waits r (waker_if_pending w answer)
waits_behind waits (Starter r) Done = slice_set waits r None
waits_behind waits (Starter r) Pending = waits
waits_behind waits (Starter r) NoSuch = waits
waits_behind waits (Starter r) NoMemory = waits
waits_behind waits (Starter r) (Gives a) = waits
waits_behind waits (Dropper r) answer = slice_set waits r None
waits_behind waits Caller answer = waits

-- one of the wakers is w
abbrev pub is_woken : List ℕ → ℕ → Bool
is_woken wakers w = list_any (λ v. v == w) wakers

-- the requests that still wait after these wakers were handed out
abbrev pub waits_still : List (Option ℕ) → List ℕ → List (Option ℕ)
waits_still waits wakers = swept (is_woken wakers) waits

abbrev pub noted_next : {A : Type 0} → Noted → Giver → Answer A → List ℕ → Noted
noted_next noted giver answer wakers = record { name = noted.name; waits = waits_still (waits_behind noted.waits giver answer) wakers }

-- the note of a request that waits
abbrev pub waits_text : ℕ → List ℕ
waits_text w = codes "    Note over task_" ++ decimal w ++ (codes ": waits" ++ 10 ∷ [])

-- between two pages, of which the second begins with the line of this number
abbrev pub between_text : ℕ → List ℕ
between_text number = codes "```\n\nFrom line " ++ decimal number ++ codes ":\n\n"

-- the head of every page but the first: line 1, and a note for each request that waits
abbrev pub page_text : ℕ → Noted → List ℕ
page_text number noted = ((between_text number ++ fence_text) ++ head_text noted.name) ++ each_text waits_text (items_of noted.waits)

-- a page has at most 50 lines
abbrev pub break_text : ℕ → Noted → List ℕ
break_text number noted = if number % 50 == 1 then page_text number noted else []

-- a document of pages
abbrev pub pages_story : Story
pages_story = record {
  Notes = Noted;
  head = λ line. fence_text ++ head_text line;
  first_notes = noted_first;
  tells = λ A text noted number line giver answer wakers. break_text number noted ++ step_text text number line giver answer wakers;
  next_notes = λ A noted giver answer wakers. noted_next noted giver answer wakers;
  foot = fence_end;
}
