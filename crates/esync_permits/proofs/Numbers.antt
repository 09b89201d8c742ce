-- Numbers in a list.
use Rattle.std.proofs.Common.{◌≡◌, ℕ, ◌+◌, ◌<◌, ◌≤◌, Bool, true, false, List, [], ◌∷◌, ◌++◌, length, get_or, inl, inr, refl, sym, ◌∙◌, ap, arith, below_more}
use Rattle.std.specs.Prelude.{◌==◌, ◌||◌, eqb, slice_set}
use Rattle.std.specs.List.{list_any}
use Rattle.std.proofs.lemmas.List.{get_or-set_same, get_or-set_other}
use Rattle.std.proofs.lemmas.Map.Steps.{le-length_from_below}
use Rattle.std.proofs.lemmas.Bool.Decides.{nat_tests}
use Rattle.esync_base.specs.Listed.{is_in}
use Rattle.esync_base.specs.ListedLaws.{true_or_false, same_number, equal_number, unequal_number, same_or_not, has_number-before}
use Rattle.esync_permits.specs.Queue.{without, is_front, IsLeastFree}

-- a number that equals one is not another
pub not_another : (x t u : ℕ) → (x == t) ≡ true → (t ≡ u → ⊥) → (x == u) ≡ false
not_another x t u h n = unequal_number x u (λ e. n (sym (same_number x t h) ∙ e))

pub is_in-append : (u : ℕ) (xs ys : List ℕ) → is_in u xs ≡ true → is_in u (xs ++ ys) ≡ true
is_in-append u [] ys h = absurd cc
is_in-append u (x ∷ xs) ys h = elim (true_or_false (x == u)) [ inl i ↦ rw i refl | inr i ↦ rw i (is_in-append u xs ys (rw i at h)) ]

pub is_in-back : (t : ℕ) (xs : List ℕ) → is_in t (xs ++ t ∷ []) ≡ true
is_in-back t [] = rw (equal_number t t refl) refl
is_in-back t (x ∷ xs) = elim (true_or_false (x == t)) [ inl i ↦ rw i refl | inr i ↦ rw i (is_in-back t xs) ]

pub is_in-without : (t u : ℕ) (xs : List ℕ) → (t ≡ u → ⊥) → is_in u (without t xs) ≡ is_in u xs
is_in-without t u [] n = refl
is_in-without t u (x ∷ xs) n = elim (true_or_false (x == t)) [
  | inl i ↦ rw i (rw (not_another x t u i n) refl)
  | inr i ↦ rw i (ap (λ b. x == u || b) (is_in-without t u xs n))
]

pub is_front-append : (u v : ℕ) (xs ys : List ℕ) → is_in u xs ≡ true → is_front v (xs ++ ys) ≡ is_front v xs
is_front-append u v [] ys h = absurd cc
is_front-append u v (x ∷ xs) ys h = refl

pub is_front-without : (t u : ℕ) (xs : List ℕ) → is_front t xs ≡ false → is_front u (without t xs) ≡ is_front u xs
is_front-without t u [] h = refl
is_front-without t u (x ∷ xs) h = rw h refl

-- a number that is free is none of those in the list
pub is_fresh : (t u : ℕ) (xs : List ℕ) → is_in t xs ≡ false → is_in u xs ≡ true → t ≡ u → ⊥
is_fresh t u xs f h e = (let k = sym (ap (λ x. is_in x xs) e) ∙ f in let j = sym h ∙ k in cc)

-- marks of the numbers in a list, with one more number
pub is_in-set : (n number : ℕ) (used : List Bool) (xs : List ℕ) → number < length used → get_or used n false ≡ is_in n xs → get_or (slice_set used number true) n false ≡ is_in n (xs ++ number ∷ [])
is_in-set n number used xs l h = elim (same_or_not n number) [
  | inl e ↦ rw e (get_or-set_same used number true false l ∙ sym (is_in-back number xs))
  | inr ne ↦ get_or-set_other used number n true false ne ∙ h ∙ sym (has_number-before (λ k. k) n xs number ne)
]

-- a list that has every number below n has at least n
is_in-any : (k : ℕ) (xs : List ℕ) → list_any (eqb k) xs ≡ is_in k xs
is_in-any k [] = refl
is_in-any k (x ∷ xs) = rw (is_in-any k xs) (ap (λ b. b || is_in k xs) (grind (arith, nat_tests)))

all_below : (xs : List ℕ) (n : ℕ) → ((k : ℕ) → k < n → is_in k xs ≡ true) → n ≤ length xs
all_below xs n h = le-length_from_below xs n (λ k i. is_in-any k xs ∙ h k i)

-- where a list has every number below its length, that length is free
pub length_free : (xs : List ℕ) → ((k : ℕ) → k < length xs → is_in k xs ≡ true) → IsLeastFree (length xs) xs
length_free xs h = record {
  free = elim (true_or_false (is_in (length xs) xs)) [
    | inl e ↦ absurd (let l = all_below xs (length xs + 1) (below_more (λ k. is_in k xs ≡ true) (length xs) h e) in omega arith)
    | inr e ↦ e
  ];
  least = h;
}
