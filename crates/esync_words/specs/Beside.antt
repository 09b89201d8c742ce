-- The text of a line with its answer beside it.
use Rattle.std.specs.Prelude.{ℕ, List, [], ◌∷◌, ◌++◌, codes, drop, length}
use Rattle.esync_machine.specs.declared.primitive.Answer.{Answer}
use Rattle.esync_words.specs.Story.{Story, without_notes}
use Rattle.esync_words.specs.Text.{answer_text, line_text}

-- the spaces behind a line of n bytes, up to a column of 28
abbrev pub spaces_behind : ℕ → List ℕ
spaces_behind n = drop n (codes "                            ")

-- a line, and the column behind it
abbrev pub column_text : List ℕ → List ℕ
column_text line = line ++ spaces_behind (length line) ++ codes " "

-- a line, and its answer in a column of its own
abbrev pub beside_text : {A : Type 0} → (A → List ℕ) → List ℕ → Answer A → List ℕ → List ℕ
beside_text text line answer wakers = column_text line ++ line_text (answer_text text answer) wakers

-- a script with each answer beside its command
abbrev pub beside_story : Story
beside_story = without_notes (λ line. line ++ 10 ∷ []) (λ A text number line giver answer wakers. beside_text text line answer wakers) []
