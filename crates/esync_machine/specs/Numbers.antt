-- A table of numbers, each free or in use, and a sweep over it.
use Rattle.std.specs.Prelude.{◌≡◌, ℕ, zero, suc, Bool, true, false, List, [], ◌∷◌, Option, Some, None, slice_get}

abbrev pub flat : {A : Type 0} → Option (Option A) → Option A
flat None = None
flat (Some p) = p

-- what stands at a number
abbrev pub at_number : {A : Type 0} → List (Option A) → ℕ → Option A
at_number row r = flat (slice_get row r)

-- a place after the sweep
abbrev pub swept_place : {A : Type 0} → (A → Bool) → Option A → Option A
swept_place f None = None
swept_place f (Some x) = elim (f x) [ true ↦ None | false ↦ Some x ]

-- the table without what passes the test
abbrev pub swept : {A : Type 0} → (A → Bool) → List (Option A) → List (Option A)
swept f [] = []
swept f (p ∷ q) = swept_place f p ∷ swept f q

-- the table after a sweep of its first n numbers
abbrev pub swept_below : {A : Type 0} → (A → Bool) → ℕ → List (Option A) → List (Option A)
swept_below f zero q = q
swept_below f (suc n) [] = []
swept_below f (suc n) (p ∷ q) = swept_place f p ∷ swept_below f n q

-- what stands at each number has a property
abbrev pub AllAt : {A : Type 0} → (A → Type 0) → List (Option A) → Type 0
AllAt {A} P q = (r : ℕ) (x : A) → at_number q r ≡ Some x → P x

-- what stands at any two numbers is related
abbrev pub AllPairs : {A : Type 0} → (A → A → Type 0) → List (Option A) → Type 0
AllPairs {A} P q = (r t : ℕ) (x y : A) → at_number q r ≡ Some x → at_number q t ≡ Some y → (r ≡ t → ⊥) → P x y

-- what stands at each number fits the state, and what stands at any two is apart
abbrev pub IsTied : {S A : Type 0} → (S → A → Type 0) → (A → A → Type 0) → S → List (Option A) → Type 0
IsTied Fits Apart s q = AllAt (Fits s) q × AllPairs Apart q
