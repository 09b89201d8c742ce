-- A recorded run: line 1 of a script, and behind it commands, each with the reply that it got.
use Rattle.std.specs.Prelude.{◌≡◌, ℕ, ◌+◌, ◌-◌, ◌^◌, min, Bool, true, List, [], ◌∷◌, ◌++◌, length, codes, Option, Some}
use Rattle.std.specs.Io.KnownBytes.{Appends}
use Rattle.esync_words.specs.Played.{Reads}

-- A command, and the reply that it got.
pub record Entry : Type 0 where
  pub command : List ℕ
  pub reply : List ℕ

-- the line of an entry
abbrev pub entry_line : Entry → List ℕ
entry_line e = e.command ++ (codes " => " ++ e.reply)

-- a line with its line feed
abbrev pub line_text : List ℕ → List ℕ
line_text line = line ++ 10 ∷ []

-- the lines, one after another
abbrev pub commands_text : List Entry → List ℕ
commands_text [] = []
commands_text (e ∷ es) = line_text e.command ++ commands_text es

abbrev pub replies_text : List Entry → List ℕ
replies_text [] = []
replies_text (e ∷ es) = line_text e.reply ++ replies_text es

abbrev pub entry_lines : List Entry → List (List ℕ)
entry_lines [] = []
entry_lines (e ∷ es) = entry_line e ∷ entry_lines es

-- A text is line 1 and so many entries, a line each, and `rest` is left behind them. The script is line 1 and the
-- entries' commands. Numbers stop at the greatest.
pub record Records (text script replies : List ℕ) (count : ℕ) (rest : List ℕ) : Type 0 where
  pub first : List ℕ
  pub entries : List Entry
  pub read : Reads text (first ∷ entry_lines entries) rest
  pub script_is : script ≡ line_text first ++ commands_text entries
  pub replies_are : replies ≡ replies_text entries
  pub counted : count ≡ min (length entries) (2 ^ 64 - 1)

-- A text was taken apart: its script and its replies are what two rooms have. Nothing is left of a whole record.
pub record TakesApart (text : List ℕ) (script_room replies_room : Option (List ℕ)) (count : ℕ) (is_whole : Bool) : Type 0 where
  pub script : List ℕ
  pub replies : List ℕ
  pub rest : List ℕ
  pub script_is : script_room ≡ Some script
  pub replies_are : replies_room ≡ Some replies
  pub records : Records text script replies count rest
  pub whole : is_whole ≡ true → rest ≡ []

-- The first lines of a text are so many entries, and `rest` is left behind them. The entries' commands were appended to
-- the text before, which is now `script`, and their replies so.
pub record AddsEntries (lines : List ℕ) (script_before script replies_before replies : Option (List ℕ)) (count : ℕ) (rest : List ℕ) : Type 0 where
  pub entries : List Entry
  pub read : Reads lines (entry_lines entries) rest
  pub script_is : Appends script_before script (commands_text entries)
  pub replies_are : Appends replies_before replies (replies_text entries)
  pub counted : count ≡ min (length entries) (2 ^ 64 - 1)

-- Both texts begin with the same n lines, and these are their next lines.
pub record Differs (recorded given : List ℕ) (n : ℕ) (other own : List ℕ) : Type 0 where
  pub same : List (List ℕ)
  pub recorded_rest : List ℕ
  pub given_rest : List ℕ
  pub recorded_read : Reads recorded (same ++ other ∷ []) recorded_rest
  pub given_read : Reads given (same ++ own ∷ []) given_rest
  pub counted : length same ≡ n
  pub differ : other ≡ own → ⊥

-- the recorded reply with this line is the first that differs from the given one
abbrev pub DiffersAt : List ℕ → List ℕ → ℕ → List ℕ → List ℕ → Type 0
DiffersAt recorded given line other own =
    (before : ℕ) × Differs recorded given before other own × (line ≡ min (before + 2) (2 ^ 64 - 1))
