-- What a script says to a machine, and what is written of it.
use Rattle.std.specs.Prelude.{◌≡◌, ℕ, ◌+◌, ◌-◌, ◌^◌, min, List, [], ◌∷◌, ◌++◌, Option, Some, None, IfSome, ◌⊎◌, Result, Ok, Err}
use Rattle.std.specs.Io.KnownBytes.{Appends, Keeps}
use Rattle.esync_machine.specs.Runs.{Meaning, GoodRun}
use Rattle.esync_words.specs.declared.fault.Fault.{Fault}
use Rattle.esync_words.specs.declared.fault.Fault.TheVariants.{NotACommand, InputOutput, OutOfMemory}
use Rattle.esync_words.specs.Lines.{first_line, other_lines}
use Rattle.esync_words.specs.Story.{Story, Transcript}

-- the script came to its end, or to a line that is no command
abbrev pub IsJudged : Result (Unit {0}) Fault → Type 0
IsJudged (Ok _) = Unit {0}
IsJudged (Err (NotACommand _)) = Unit {0}
IsJudged (Err InputOutput) = ⊥
IsJudged (Err OutOfMemory) = ⊥

-- the number of the line behind line n. Numbers stop at the greatest
abbrev pub next_number : ℕ → ℕ
next_number n = min (n + 1) (2 ^ 64 - 1)

-- the number of the last of these lines, which stand behind n others
abbrev pub line_number : ℕ → List (List ℕ) → ℕ
line_number n [] = n
line_number n (line ∷ lines) = line_number (next_number n) lines

-- these are the first lines of the text, one after another, and `rest` is left behind them
abbrev pub Reads : List ℕ → List (List ℕ) → List ℕ → Type 0
Reads text [] rest = rest ≡ text
Reads text (line ∷ lines) rest = (text ≡ [] → ⊥) × (line ≡ first_line text) × Reads (other_lines text) lines rest

module _ {Command Reply Waker : Type 0} (M : Meaning Command Reply Waker) (command : List ℕ → Option Command) (T : Transcript Command Reply) where
  -- each line says the command
  abbrev pub AreSaid : List (List ℕ) → List Command → Type 0
  AreSaid [] [] = Unit {0}
  AreSaid (line ∷ lines) (c ∷ cs) = (command line ≡ Some c) × AreSaid lines cs
  AreSaid [] (c ∷ cs) = ⊥
  AreSaid (line ∷ lines) [] = ⊥

  -- the note behind these commands and their replies
  abbrev pub noted : T.Notes → List Command → List Reply → T.Notes
  noted was (c ∷ cs) (a ∷ as') = noted (T.next_notes was c a) cs as'
  noted was [] as' = was
  noted was (c ∷ cs) [] = was

  -- what is written of each line behind line n, by its command, its reply and the note of the lines before
  abbrev pub told : T.Notes → ℕ → List (List ℕ) → List Command → List Reply → List ℕ
  told was n (line ∷ lines) (c ∷ cs) (a ∷ as') = T.tells was (next_number n) line c a ++ told (T.next_notes was c a) (next_number n) lines cs as'
  told was n [] cs as' = []
  told was n (line ∷ lines) [] as' = []
  told was n (line ∷ lines) (c ∷ cs) [] = []

  -- where a script ended behind line n, with `rest` still unread: at the end, or at the first line that is no command
  abbrev pub Ends : ℕ → List ℕ → Result (Unit {0}) Fault → Type 0
  Ends n rest (Ok _) = rest ≡ []
  Ends n rest (Err (NotACommand number)) = (number ≡ next_number n) × (rest ≡ [] → ⊥) × (command (first_line rest) ≡ None)
  Ends n rest (Err InputOutput) = Unit {0}
  Ends n rest (Err OutOfMemory) = Unit {0}

  -- A script was played behind its first n lines, from this object with these registered wakers. `was` is noted of the
  -- lines before, and `now` of all lines up to the script's end or to a line that is no command.
  pub record Played (was now : T.Notes) (old : M.Object) (registered : M.Registered) (n : ℕ) (left : Option (List ℕ)) (before after : Option (List ℕ)) (outcome : Result (Unit {0}) Fault) : Type 0 where
    pub lines : List (List ℕ)
    pub commands : List Command
    pub replies : List Reply
    pub new : M.Object
    pub registered2 : M.Registered
    -- the machine was given the commands that the lines say, one after another
    pub said : AreSaid lines commands
    pub run : GoodRun M old registered commands replies new registered2
    -- the lines are those of the text, from the first to the last, or up to the first that is no command
    pub read : IfSome left (λ text. (rest : List ℕ) × Reads text lines rest × Ends (line_number n lines) rest outcome)
    pub printed : IsJudged outcome → Appends before after (told was n lines commands replies)
    pub remembered : IsJudged outcome → now ≡ noted was commands replies

-- Line 1 of a script names the opening, and these are the notes of it.
pub record Opened {Opening : Type 0} (says : List ℕ → Option Opening) (S : Story) (opening : Opening) (notes : S.Notes) (left rest before after : Option (List ℕ)) : Type 0 where
  pub line : List ℕ
  pub said : says line ≡ Some opening
  -- line 1 is the first line of the text, and the lines behind it are left
  pub read : IfSome left (λ all. (all ≡ [] → ⊥) × (line ≡ first_line all) × (rest ≡ Some (other_lines all)))
  pub printed : Appends before after (S.head line)
  pub noted : notes ≡ S.first_notes line

-- There is no line 1, or it names nothing, and nothing is written.
pub record NotOpened {Opening : Type 0} (says : List ℕ → Option Opening) (fault : Fault) (left before after : Option (List ℕ)) : Type 0 where
  pub is_line : fault ≡ NotACommand 1
  pub read : IfSome left (λ all. (all ≡ []) ⊎ (says (first_line all) ≡ None))
  pub printed : Keeps before after
