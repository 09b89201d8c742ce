-- How many tasks are so, as one of them changes.
use Rattle.std.proofs.Common.{◌≡◌, ℕ, zero, suc, ◌+◌, ◌<◌, ◌≤◌, List, [], ◌∷◌, length, Some, refl, ap, arith}
use Rattle.std.specs.Prelude.{slice_get, slice_set, sum_by}
use Rattle.std.proofs.lemmas.List.Sums.{sum_by-cons}

pub get_set_here : {A : Type 0} (xs : List A) (i : ℕ) (x y : A) → slice_get xs i ≡ Some x → slice_get (slice_set xs i y) i ≡ Some y
get_set_here [] i x y e = absurd cc
get_set_here (z ∷ xs) zero x y e = refl
get_set_here (z ∷ xs) (suc i) x y e = get_set_here xs i x y e

pub get_set_other : {A : Type 0} (xs : List A) (i j : ℕ) (y : A) → (j ≡ i → ⊥) → slice_get (slice_set xs i y) j ≡ slice_get xs j
get_set_other [] i j y ne = refl
get_set_other (z ∷ xs) zero zero y ne = absurd (ne refl)
get_set_other (z ∷ xs) zero (suc j) y ne = refl
get_set_other (z ∷ xs) (suc i) zero y ne = refl
get_set_other (z ∷ xs) (suc i) (suc j) y ne = get_set_other xs i j y (λ e. ne (ap suc e))

pub length_set : {A : Type 0} (xs : List A) (i : ℕ) (y : A) → length (slice_set xs i y) ≡ length xs
length_set [] i y = refl
length_set (z ∷ xs) zero y = refl
length_set (z ∷ xs) (suc i) y = ap suc (length_set xs i y)

pub below_length : {A : Type 0} (xs : List A) (i : ℕ) (x : A) → slice_get xs i ≡ Some x → i < length xs
below_length [] i x e = absurd cc
below_length (z ∷ xs) zero x e = omega arith
below_length (z ∷ xs) (suc i) x e = omega (arith, below_length xs i x e)

module _ {A : Type 0} (f : A → ℕ) where
  -- what one counts for is taken off, and what takes its place is added
  pub sum_set : (xs : List A) (i : ℕ) (x y : A) → slice_get xs i ≡ Some x → sum_by f (slice_set xs i y) + f x ≡ sum_by f xs + f y
  sum_set [] i x y e = absurd cc
  sum_set (z ∷ xs) zero x y e = let h : z ≡ x = cc in rw h (omega (arith, sum_by-cons f x xs, sum_by-cons f y xs))
  sum_set (z ∷ xs) (suc i) x y e = omega (arith, sum_set xs i x y e, sum_by-cons f z xs, sum_by-cons f z (slice_set xs i y))

  pub sum_le : ((x : A) → f x ≤ 1) → (xs : List A) → sum_by f xs ≤ length xs
  sum_le most [] = omega arith
  sum_le most (z ∷ xs) = omega (arith, most z, sum_le most xs, sum_by-cons f z xs)

  -- one that counts for nothing leaves room
  pub sum_lt : ((x : A) → f x ≤ 1) → (xs : List A) (i : ℕ) (x : A) → slice_get xs i ≡ Some x → f x ≡ 0 → sum_by f xs < length xs
  sum_lt most [] i x e none = absurd cc
  sum_lt most (z ∷ xs) zero x e none = let h : f z ≡ 0 = let s : z ≡ x = cc in rw s none in omega (arith, h, sum_le most xs, sum_by-cons f z xs)
  sum_lt most (z ∷ xs) (suc i) x e none = omega (arith, most z, sum_lt most xs i x e none, sum_by-cons f z xs)
