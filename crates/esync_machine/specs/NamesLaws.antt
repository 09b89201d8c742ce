-- Numbers that name something, as one comes into use, is given to something else, or is freed.
use Rattle.std.proofs.Common.{◌≡◌, ℕ, zero, suc, ◌<◌, ◌≤◌, Bool, true, false, List, [], ◌∷◌, length, replicate, Option, Some, None, refl, sym, ap, ◌∙◌, arith}
use Rattle.std.specs.Prelude.{slice_get, slice_set}
use Rattle.esync_machine.specs.Numbers.{at_number}
use Rattle.esync_machine.specs.NumbersLaws.{there_of, at_of}
use Rattle.esync_machine.specs.Names.{is_place, is_free, counted, used_by}

-- what stands at a number that is free, and at one that isn't
pub free_is : {A : Type 0} (p : Option (Option A)) → is_place p ≡ true → p ≡ Some None
free_is (Some None) e = refl
free_is (Some (Some x)) e = absurd cc
free_is None e = absurd cc

pub free_number : {A : Type 0} (names : List (Option A)) (r : ℕ) → is_free r names ≡ true → at_number names r ≡ None
free_number names r e = at_of names r None (free_is (slice_get names r) e)

pub free_below : {A : Type 0} (names : List (Option A)) (r : ℕ) → is_free r names ≡ true → r < length names
free_below [] r e = absurd cc
free_below (p ∷ names) zero e = omega arith
free_below (p ∷ names) (suc r) e = omega (arith, free_below names r e)

pub place_is : {A : Type 0} (names : List (Option A)) (r : ℕ) → r < length names → at_number names r ≡ None → is_free r names ≡ true
place_is [] r l e = absurd (omega (arith, l))
place_is (None ∷ names) zero l e = refl
place_is (Some x ∷ names) zero l e = absurd cc
place_is (p ∷ names) (suc r) l e = place_is names r (omega (arith, l)) e

pub no_place : {A : Type 0} (names : List (Option A)) (r : ℕ) → length names ≤ r → is_free r names ≡ false
no_place [] r l = refl
no_place (p ∷ names) zero l = absurd (omega (arith, l))
no_place (p ∷ names) (suc r) l = no_place names r (omega (arith, l))

pub taken_place : {A : Type 0} (names : List (Option A)) (r : ℕ) (x : A) → at_number names r ≡ Some x → is_free r names ≡ false
taken_place names r x e = ap is_place (there_of names r x e)

pub number_below : {A : Type 0} (names : List (Option A)) (r : ℕ) (x : A) → at_number names r ≡ Some x → r < length names
number_below [] r x e = absurd cc
number_below (p ∷ names) zero x e = omega arith
number_below (p ∷ names) (suc r) x e = omega (arith, number_below names r x e)

pub ruleset free_or_not = (place_is, no_place, taken_place)

swap : (a b : Bool) (n : ℕ) → counted a (counted b n) ≡ counted b (counted a n)
swap true true n = refl
swap true false n = refl
swap false true n = refl
swap false false n = refl

counts_at_least : (b : Bool) (n : ℕ) → 1 ≤ n → 1 ≤ counted b n
counts_at_least true n i = omega arith
counts_at_least false n i = i

-- what is counted once more was counted as often before
pub counted_alike : (b : Bool) (n m : ℕ) → counted b n ≡ counted b m → n ≡ m
counted_alike true n m e = omega arith
counted_alike false n m e = e

-- How many numbers are in use by what passes the test.
module _ {A : Type 0} (f : A → Bool) where
  pub used_none : (n : ℕ) → used_by f (replicate n None) ≡ 0
  used_none zero = refl
  used_none (suc n) = used_none n

  pub used_some : (names : List (Option A)) (r : ℕ) (x : A) → at_number names r ≡ Some x → f x ≡ true → 1 ≤ used_by f names
  used_some [] r x e t = absurd cc
  used_some (None ∷ names) zero x e t = absurd cc
  used_some (Some y ∷ names) zero x e t = (let h : y ≡ x = cc in let g : f y ≡ true = ap f h ∙ t in rw (g, counted) (omega arith))
  used_some (None ∷ names) (suc r) x e t = used_some names r x e t
  used_some (Some y ∷ names) (suc r) x e t = counts_at_least (f y) (used_by f names) (used_some names r x e t)

  -- a free number came into use
  pub used_taken : (names : List (Option A)) (r : ℕ) (x : A) → is_free r names ≡ true → used_by f (slice_set names r (Some x)) ≡ counted (f x) (used_by f names)
  used_taken [] r x e = absurd cc
  used_taken (None ∷ names) zero x e = refl
  used_taken (Some y ∷ names) zero x e = absurd cc
  used_taken (None ∷ names) (suc r) x e = used_taken names r x e
  used_taken (Some y ∷ names) (suc r) x e = ap (counted (f y)) (used_taken names r x e) ∙ swap (f y) (f x) (used_by f names)

  -- a number in use was freed
  pub used_freed : (names : List (Option A)) (r : ℕ) (x : A) → at_number names r ≡ Some x → used_by f names ≡ counted (f x) (used_by f (slice_set names r None))
  used_freed [] r x e = absurd cc
  used_freed (None ∷ names) zero x e = absurd cc
  used_freed (Some y ∷ names) zero x e = (let h : y ≡ x = cc in ap (λ z. counted (f z) (used_by f names)) h)
  used_freed (None ∷ names) (suc r) x e = used_freed names r x e
  used_freed (Some y ∷ names) (suc r) x e = ap (counted (f y)) (used_freed names r x e) ∙ swap (f y) (f x) (used_by f (slice_set names r None))

  -- a number in use was given to something that passes the test as what it named did
  pub used_kept : (names : List (Option A)) (r : ℕ) (x y : A) → at_number names r ≡ Some x → f y ≡ f x → used_by f (slice_set names r (Some y)) ≡ used_by f names
  used_kept [] r x y e g = absurd cc
  used_kept (None ∷ names) zero x y e g = absurd cc
  used_kept (Some z ∷ names) zero x y e g = (let h : z ≡ x = cc in ap (λ b. counted b (used_by f names)) (g ∙ ap f (sym h)))
  used_kept (None ∷ names) (suc r) x y e g = used_kept names r x y e g
  used_kept (Some z ∷ names) (suc r) x y e g = ap (counted (f z)) (used_kept names r x y e g)
