-- The words of a line, and what numbers of words say.
use Rattle.std.specs.Prelude.{ℕ, ◌==◌, ◌^◌, Bool, true, false, List, [], ◌∷◌, length, Option, Some, None, if◌then◌else◌, nat_lt, codes}
use Rattle.std.specs.Option.{option_map}
use Rattle.std.specs.Char.{digit_value}
use Rattle.std.specs.Str.Parse.{digits_value}

abbrev pub with_letter : ℕ → List (List ℕ) → List (List ℕ)
with_letter c [] = (c ∷ []) ∷ []
with_letter c (w ∷ ws) = (c ∷ w) ∷ ws

-- the parts of a text between its letters s
abbrev pub parts_of : ℕ → List ℕ → List (List ℕ)
parts_of s [] = [] ∷ []
parts_of s (c ∷ cs) = if c == s then [] ∷ parts_of s cs else with_letter c (parts_of s cs)

-- the words of a line: its parts between spaces
abbrev pub words_of : List ℕ → List (List ℕ)
words_of line = parts_of 32 line

abbrev pub is_empty : List ℕ → Bool
is_empty [] = true
is_empty (c ∷ cs) = false

-- all letters are decimal digits
abbrev pub are_digits : List ℕ → Bool
are_digits [] = true
are_digits (c ∷ cs) = if nat_lt (digit_value c) 10 then are_digits cs else false

-- at least one digit, and nothing else
abbrev pub is_numeral : List ℕ → Bool
is_numeral w = if is_empty w then false else are_digits w

abbrev pub below : ℕ → ℕ → Option ℕ
below most n = if nat_lt n most then Some n else None

-- the number that a word writes, if that is one of k bits
abbrev pub number : ℕ → List ℕ → Option ℕ
number k w = if is_numeral w then below (2 ^ k) (digits_value 10 w) else None

-- the number that the first word writes
abbrev pub first_number : ℕ → List (List ℕ) → Option ℕ
first_number k [] = None
first_number k (w ∷ ws) = number k w

abbrev pub behind : List (List ℕ) → List (List ℕ)
behind [] = []
behind (w ∷ ws) = ws

-- a value that was found, if no word is left
abbrev pub only : {A : Type 0} → Option A → List (List ℕ) → Option A
only None ws = None
only (Some x) [] = Some x
only (Some x) (w ∷ ws) = None

abbrev pub and_then : {A B : Type 0} → Option A → (A → Option B) → Option B
and_then None f = None
and_then (Some x) f = f x

-- What all words together say: nothing, one number or two numbers, of so many bits each.
abbrev pub nothing : List (List ℕ) → Option (Unit {0})
nothing ws = only (Some tt) ws

abbrev pub one : ℕ → List (List ℕ) → Option ℕ
one k ws = only (first_number k ws) (behind ws)

abbrev pub two : ℕ → ℕ → List (List ℕ) → Option (ℕ × ℕ)
two j k ws = and_then (first_number j ws) (λ m. and_then (one k (behind ws)) (λ n. Some (m, n)))

-- a number of 64 bits and two of k
abbrev pub number_and_values : ℕ → List (List ℕ) → Option (ℕ × ℕ × ℕ)
number_and_values k ws = and_then (first_number 64 ws) (λ r. and_then (first_number k (behind ws)) (λ v. and_then (one k (behind (behind ws))) (λ x. Some (r, v, x))))

-- two texts are equal
abbrev pub is_text : List ℕ → List ℕ → Bool
is_text [] [] = true
is_text (x ∷ xs) (y ∷ ys) = if x == y then is_text xs ys else false
is_text [] (y ∷ ys) = false
is_text (x ∷ xs) [] = false

-- the numbers that parts of a word write, if each writes one of k bits
abbrev pub numbers : ℕ → List (List ℕ) → Option (List ℕ)
numbers k [] = Some []
numbers k (w ∷ ws) = and_then (number k w) (λ n. option_map (λ ns. n ∷ ns) (numbers k ws))

abbrev pub at_most : ℕ → List ℕ → Option (List ℕ)
at_most most ns = if nat_lt most (length ns) then None else Some ns

-- the bytes that a word writes, at most so many: numbers with commas between them, or a dash for no byte
abbrev pub bytes_of : ℕ → List ℕ → Option (List ℕ)
bytes_of most w = if is_text w (codes "-") then Some [] else and_then (numbers 8 (parts_of 44 w)) (at_most most)

abbrev pub first_bytes : ℕ → List (List ℕ) → Option (List ℕ)
first_bytes most [] = None
first_bytes most (w ∷ ws) = bytes_of most w

-- The bytes that all words together say.
abbrev pub row : ℕ → List (List ℕ) → Option (List ℕ)
row most ws = only (first_bytes most ws) (behind ws)
