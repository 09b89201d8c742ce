-- Numbers of a table, a write at one of them, and a sweep.
use Rattle.std.proofs.Common.{◌≡◌, ℕ, zero, suc, Bool, false, List, [], ◌∷◌, length, Option, Some, None, ◌⊎◌, inl, inr, refl, sym, ap, ◌∙◌, subst}
use Rattle.std.specs.Prelude.{slice_get, slice_set}
use Rattle.std.proofs.Math.ListN.{replicate}
use Rattle.esync_base.specs.ListedLaws.{true_or_false, same_or_not}
use Rattle.esync_machine.specs.Numbers.{flat, at_number, swept, swept_place, swept_below}

-- a write of what stands at the number already changes nothing
pub set_there : {A : Type 0} (q : List (Option A)) (r : ℕ) (p : Option A) → slice_get q r ≡ Some p → slice_set q r p ≡ q
set_there [] r p e = cc
set_there (y ∷ q) zero p e = (let h : y ≡ p = cc in ap (λ z. z ∷ q) (sym h))
set_there (y ∷ q) (suc r) p e = ap (λ l. y ∷ l) (set_there q r p e)

-- something stands only at a number of the table
pub there_of : {A : Type 0} (q : List (Option A)) (r : ℕ) (x : A) → at_number q r ≡ Some x → slice_get q r ≡ Some (Some x)
there_of [] r x e = cc
there_of (p ∷ q) zero x e = ap Some e
there_of (p ∷ q) (suc r) x e = there_of q r x e

pub at_of : {A : Type 0} (q : List (Option A)) (r : ℕ) (p : Option A) → slice_get q r ≡ Some p → at_number q r ≡ p
at_of q r p h = ap flat h

pub get_set_here : {A : Type 0} (q : List A) (r : ℕ) (p a : A) → slice_get q r ≡ Some p → slice_get (slice_set q r a) r ≡ Some a
get_set_here [] r p a e = cc
get_set_here (y ∷ q) zero p a e = refl
get_set_here (y ∷ q) (suc r) p a e = get_set_here q r p a e

pub at_set_here : {A : Type 0} (q : List (Option A)) (r : ℕ) (p a : Option A) → slice_get q r ≡ Some p → at_number (slice_set q r a) r ≡ a
at_set_here q r p a e = at_of (slice_set q r a) r a (get_set_here q r p a e)

pub at_set_other : {A : Type 0} (q : List (Option A)) (s r : ℕ) (x : Option A) → (s ≡ r → ⊥) → at_number (slice_set q s x) r ≡ at_number q r
at_set_other [] s r x h = refl
at_set_other (y ∷ q) zero zero x h = absurd (h refl)
at_set_other (y ∷ q) zero (suc r) x h = refl
at_set_other (y ∷ q) (suc s) zero x h = refl
at_set_other (y ∷ q) (suc s) (suc r) x h = at_set_other q s r x (λ e. h (ap suc e))

-- what stands at a number after a write
pub at_set : {A : Type 0} (q : List (Option A)) (r : ℕ) (p a : Option A) (t : ℕ) (k : A) → slice_get q r ≡ Some p → at_number (slice_set q r a) t ≡ Some k → ((t ≡ r) × (a ≡ Some k)) ⊎ ((r ≡ t → ⊥) × (at_number q t ≡ Some k))
at_set q r p a t k there e =
    elim (same_or_not r t) [
      | inl s ↦ inl (sym s, sym (at_set_here q r p a there) ∙ subst (λ n. at_number (slice_set q r a) n ≡ Some k) (sym s) e)
      | inr n ↦ inr (n, sym (at_set_other q r t a n) ∙ e)
    ]

-- what stands at a number after a sweep
pub swept_at : {A : Type 0} (f : A → Bool) (q : List (Option A)) (t : ℕ) (k : A) → at_number (swept f q) t ≡ Some k → (at_number q t ≡ Some k) × (f k ≡ false)
swept_at f [] t k e = cc
swept_at f (None ∷ q) zero k e = cc
swept_at f (Some x ∷ q) zero k e =
    elim (true_or_false (f x)) [
      | inl b ↦ (let g = rw (b, swept_place) at e in absurd cc)
      | inr b ↦ (let g = rw (b, swept_place) at e in let j : x ≡ k = cc in (g, subst (λ y. f y ≡ false) j b))
    ]
swept_at f (p ∷ q) (suc t) k e = swept_at f q t k e

pub at_swept : {A : Type 0} (f : A → Bool) (q : List (Option A)) (t : ℕ) (k : A) → at_number q t ≡ Some k → f k ≡ false → at_number (swept f q) t ≡ Some k
at_swept f [] t k e b = cc
at_swept f (None ∷ q) zero k e b = cc
at_swept f (Some x ∷ q) zero k e b =
    let j : x ≡ k = cc in
    let c : f x ≡ false = subst (λ y. f y ≡ false) (sym j) b in
    rw (c, swept_place) e
at_swept f (p ∷ q) (suc t) k e b = at_swept f q t k e b

-- a sweep of a table of which nothing passes the test changes nothing
pub swept_nothing : {A : Type 0} (f : A → Bool) (q : List (Option A)) → ((x : A) → f x ≡ false) → swept f q ≡ q
swept_nothing f [] h = refl
swept_nothing f (None ∷ q) h = ap (λ l. None ∷ l) (swept_nothing f q h)
swept_nothing f (Some x ∷ q) h = rw (h x, swept_place) (ap (λ l. Some x ∷ l) (swept_nothing f q h))

pub swept_all : {A : Type 0} (f : A → Bool) (q : List (Option A)) → swept_below f (length q) q ≡ swept f q
swept_all f [] = refl
swept_all f (p ∷ q) = ap (λ l. swept_place f p ∷ l) (swept_all f q)

pub length_swept : {A : Type 0} (f : A → Bool) (n : ℕ) (q : List (Option A)) → length (swept_below f n q) ≡ length q
length_swept f zero q = refl
length_swept f (suc n) [] = refl
length_swept f (suc n) (p ∷ q) = ap suc (length_swept f n q)

-- a sweep of one number more
pub sweeps : {A : Type 0} (f : A → Bool) (n : ℕ) (q : List (Option A)) (p : Option A) → slice_get (swept_below f n q) n ≡ Some p → slice_set (swept_below f n q) n (swept_place f p) ≡ swept_below f (suc n) q
sweeps f zero [] p e = cc
sweeps f zero (y ∷ q) p e = (let h : y ≡ p = cc in ap (λ z. swept_place f z ∷ q) (sym h))
sweeps f (suc n) [] p e = cc
sweeps f (suc n) (y ∷ q) p e = ap (λ l. swept_place f y ∷ l) (sweeps f n q p e)

-- nothing stands at a number of a new table
pub nothing_there : {A : Type 0} (n r : ℕ) (x : A) → at_number (replicate n None) r ≡ Some x → ⊥
nothing_there zero r x e = cc
nothing_there (suc n) zero x e = cc
nothing_there (suc n) (suc r) x e = nothing_there n r x e
