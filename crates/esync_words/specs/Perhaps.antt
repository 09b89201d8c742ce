-- Words of which the last may be left out.
use Rattle.std.specs.Prelude.{ℕ, List, [], ◌∷◌, Option, Some, None}
use Rattle.std.specs.Option.{option_map}
use Rattle.esync_words.specs.Words.{and_then, number, first_number, behind, one, two}

-- the number that the last word writes, if there is a word
abbrev pub perhaps : ℕ → List (List ℕ) → Option (Option ℕ)
perhaps k [] = Some None
perhaps k (w ∷ ws) = option_map (λ n. Some n) (one k (w ∷ ws))

-- a number, and a second one if there is a word behind it
abbrev pub one_or_two : ℕ → ℕ → List (List ℕ) → Option (ℕ × Option ℕ)
one_or_two j k ws = and_then (first_number j ws) (λ m. and_then (perhaps k (behind ws)) (λ n. Some (m, n)))

-- two numbers, if there are words
abbrev pub perhaps_two : ℕ → List (List ℕ) → Option (Option (ℕ × ℕ))
perhaps_two k [] = Some None
perhaps_two k (w ∷ ws) = option_map (λ p. Some p) (two k k (w ∷ ws))

-- a number, and two more if there are words behind it; or nothing, if there are no words
abbrev pub perhaps_one_or_three : ℕ → List (List ℕ) → Option (Option (ℕ × Option (ℕ × ℕ)))
perhaps_one_or_three k [] = Some None
perhaps_one_or_three k (w ∷ ws) = and_then (number k w) (λ n. option_map (λ p. Some (n, p)) (perhaps_two k ws))

-- a number, or two, or four
abbrev pub one_two_or_four : ℕ → List (List ℕ) → Option (ℕ × Option (ℕ × Option (ℕ × ℕ)))
one_two_or_four k ws = and_then (first_number k ws) (λ m. option_map (λ p. (m, p)) (perhaps_one_or_three k (behind ws)))
