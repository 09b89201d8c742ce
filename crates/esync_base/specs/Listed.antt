-- Items of a list that are known by their numbers.
use Rattle.std.specs.Prelude.{◌≡◌, ℕ, ◌==◌, Bool, false, List, [], ◌∷◌}
use Rattle.std.specs.List.{list_any}

module _ {A : Type 0} (number : A → ℕ) where
  -- whether an item of the list has the number
  abbrev pub has_number : ℕ → List A → Bool
  has_number n xs = list_any (λ x. number x == n) xs

  -- no two items of the list have the same number
  abbrev pub AreDistinct : List A → Type 0
  AreDistinct [] = Unit {0}
  AreDistinct (x ∷ xs) = (has_number (number x) xs ≡ false) × AreDistinct xs

-- whether the number is in the list
abbrev pub is_in : ℕ → List ℕ → Bool
is_in n ns = has_number (λ k. k) n ns

-- no number stands twice in the list
abbrev pub NoTwice : List ℕ → Type 0
NoTwice ns = AreDistinct (λ k. k) ns
