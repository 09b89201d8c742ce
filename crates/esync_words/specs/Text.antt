-- The text of what is printed.
use Rattle.std.specs.Prelude.{ℕ, List, [], ◌∷◌, ◌++◌, codes, decimal, Option, Some, None}
use Rattle.esync_machine.specs.declared.primitive.Answer.{Answer}
use Rattle.esync_machine.specs.declared.primitive.Answer.TheVariants.{Done, Pending, NoSuch, NoMemory, Gives}

-- the text of an answer; `heard` is the text of what the primitive tells
abbrev pub answer_text : {A : Type 0} → (A → List ℕ) → Answer A → List ℕ
answer_text heard Done = codes "Ok"
answer_text heard Pending = codes "Pending"
answer_text heard NoSuch = codes "Err(NoSuch)"
answer_text heard NoMemory = []
answer_text heard (Gives a) = heard a

-- the text of a number that may be missing
abbrev pub option_text : Option ℕ → List ℕ
option_text (Some n) = codes "Some(" ++ decimal n ++ codes ")"
option_text None = codes "None"

-- the text of each waker, one after another
abbrev pub each_text : (ℕ → List ℕ) → List ℕ → List ℕ
each_text text [] = []
each_text text (w ∷ ws) = text w ++ each_text text ws

abbrev pub spaced : ℕ → List ℕ
spaced w = codes " " ++ decimal w

abbrev pub listed : ℕ → List ℕ
listed b = codes "," ++ decimal b

-- the text of bytes, or a dash
abbrev pub bytes_text : List ℕ → List ℕ
bytes_text [] = codes "-"
bytes_text (b ∷ bs) = decimal b ++ each_text listed bs

-- the text of the wakers that a step hands out, or a dash
abbrev pub wakers_text : List ℕ → List ℕ
wakers_text [] = codes " -"
wakers_text (w ∷ ws) = each_text spaced (w ∷ ws)

-- the line of a reply: its answer, its wakers and a line feed
abbrev pub line_text : List ℕ → List ℕ → List ℕ
line_text answer wakers = answer ++ codes " |" ++ wakers_text wakers ++ 10 ∷ []
