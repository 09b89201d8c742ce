-- The lines of a text. A line feed ends a line, and the last line may lack one.
use Rattle.std.specs.Prelude.{◌≡◌, ℕ, ◌==◌, ◌<◌, ◌≤◌, Bool, true, false, List, [], ◌∷◌, length, Option, Some, if◌then◌else◌}
use Rattle.std.specs.Io.BufRead.{drop_through}

-- what stands before the first line feed
abbrev pub first_line : List ℕ → List ℕ
first_line [] = []
first_line (c ∷ cs) = if c == 10 then [] else c ∷ first_line cs

-- the lines behind the first line feed
abbrev pub other_lines : List ℕ → List ℕ
other_lines text = drop_through 10 text

-- The lines that are still to be read.
pub record Source : Type 0 where
  -- how many lines were read
  pub number : ℕ
  -- the last line that was read
  pub line : List ℕ
  -- what is left of the text, where that is known
  pub left : Option (List ℕ)
  -- the end of the text was met
  pub ended : Bool

-- A line is read from the text, if there is one: the first. A line of more than `most` bytes is read in part.
abbrev pub IsRead : ℕ → List ℕ → Bool → Source → Type 0
IsRead most text false s = text ≡ []
IsRead most text true s =
    (text ≡ [] → ⊥)
    × (length (first_line text) ≤ most → (s.line ≡ first_line text) × (s.left ≡ Some (other_lines text)))
    × (most < length (first_line text) → most < length s.line)
