-- Numbers in a list, as one is put at the back or taken from the front.
use Rattle.std.proofs.Common.{◌≡◌, ℕ, ◌==◌, ◌||◌, Bool, true, false, List, [], ◌∷◌, ◌++◌, ◌⊎◌, inl, inr, refl, sym, ◌∙◌, ap, arith}
use Rattle.std.proofs.lemmas.Bool.Decides.{nat_tests}
use Rattle.std.proofs.lemmas.List.Folds.{list_any-append}
use Rattle.esync_base.specs.Listed.{has_number, AreDistinct}

pub true_or_false : (b : Bool) → (b ≡ true) ⊎ (b ≡ false)
true_or_false true = inl refl
true_or_false false = inr refl

-- if neither of two holds, the first doesn't and the second doesn't
pub neither : (a b : Bool) → (a || b) ≡ false → (a ≡ false) × (b ≡ false)
neither true b e = absurd cc
neither false b e = (refl, e)

pub or_second : (a b : Bool) → b ≡ true → (a || b) ≡ true
or_second true b e = refl
or_second false b e = e

pub same_number : (n k : ℕ) → (n == k) ≡ true → n ≡ k
same_number n k e = grind (arith, nat_tests)

pub other_number : (n k : ℕ) → (n == k) ≡ false → n ≡ k → ⊥
other_number n k e s = grind (arith, nat_tests)

pub equal_number : (n k : ℕ) → n ≡ k → (n == k) ≡ true
equal_number n k e = grind (arith, nat_tests)

pub unequal_number : (n k : ℕ) → (n ≡ k → ⊥) → (n == k) ≡ false
unequal_number n k ne = elim (true_or_false (n == k)) [ inl e ↦ absurd (ne (same_number n k e)) | inr e ↦ e ]

pub same_or_not : (n k : ℕ) → (n ≡ k) ⊎ (n ≡ k → ⊥)
same_or_not n k = elim (true_or_false (n == k)) [ inl e ↦ inl (same_number n k e) | inr e ↦ inr (other_number n k e) ]

module _ {A : Type 0} (number : A → ℕ) where
  -- a number is in two lists, one after the other, if it is in either
  pub has_number-append : (n : ℕ) (xs ys : List A) → has_number number n (xs ++ ys) ≡ (has_number number n xs || has_number number n ys)
  has_number-append n xs ys = list_any-append (λ x. number x == n) xs ys

  pub has_number-front : (x : A) (xs : List A) → has_number number (number x) (x ∷ xs) ≡ true
  has_number-front x xs = rw (equal_number (number x) (number x) refl) refl

  -- an item in front with another number makes no difference
  pub has_number-behind : (n : ℕ) (x : A) (xs : List A) → (n ≡ number x → ⊥) → has_number number n (x ∷ xs) ≡ has_number number n xs
  has_number-behind n x xs ne = rw (unequal_number (number x) n (λ e. ne (sym e))) refl

  pub has_number-back : (xs : List A) (x : A) → has_number number (number x) (xs ++ x ∷ []) ≡ true
  has_number-back xs x = has_number-append (number x) xs (x ∷ []) ∙ or_second (has_number number (number x) xs) (has_number number (number x) (x ∷ [])) (has_number-front x [])

  -- an item at the back with another number makes no difference
  pub has_number-before : (n : ℕ) (xs : List A) (x : A) → (n ≡ number x → ⊥) → has_number number n (xs ++ x ∷ []) ≡ has_number number n xs
  has_number-before n [] x ne = has_number-behind n x [] ne
  has_number-before n (y ∷ xs) x ne = ap (λ b. number y == n || b) (has_number-before n xs x ne)

  pub distinct_back : (xs : List A) (x : A) → AreDistinct number xs → has_number number (number x) xs ≡ false → AreDistinct number (xs ++ x ∷ [])
  distinct_back [] x d h = (refl, tt)
  distinct_back (y ∷ xs) x d h =
      let n = neither (number y == number x) (has_number number (number x) xs) h in
      (has_number-before (number y) xs x (other_number (number y) (number x) n.0) ∙ d.0, distinct_back xs x d.1 n.1)
