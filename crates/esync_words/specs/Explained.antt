-- The text of a line that is explained.
use Rattle.std.specs.Prelude.{ℕ, List, [], ◌∷◌, ◌++◌, codes, decimal}
use Rattle.esync_machine.specs.declared.primitive.Answer.{Answer}
use Rattle.esync_words.specs.Story.{Story, without_notes}
use Rattle.esync_words.specs.Text.{answer_text, line_text}

-- a line behind its number
abbrev pub numbered_text : ℕ → List ℕ → List ℕ
numbered_text number line = decimal number ++ codes ": " ++ line ++ 10 ∷ []

-- the line behind its number, and the answer in a line of its own
abbrev pub explained_text : {A : Type 0} → (A → List ℕ) → ℕ → List ℕ → Answer A → List ℕ → List ℕ
explained_text text number line answer wakers = (numbered_text number line ++ codes "   ") ++ line_text (answer_text text answer) wakers

-- a script with each answer behind its numbered line
abbrev pub explained_story : Story
explained_story = without_notes (numbered_text 1) (λ A text number line giver answer wakers. explained_text text number line answer wakers) []
