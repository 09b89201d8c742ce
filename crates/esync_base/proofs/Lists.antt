-- Rows of optional items.
use Rattle.std.proofs.Common.{◌≡◌, ℕ, zero, suc, ◌+◌, ◌-◌, ◌<◌, ◌≤◌, min, List, [], ◌∷◌, ◌++◌, length, Some, None, Option, refl, sym, ◌∙◌, ap, get_or, set, take, append_assoc, length-append, arith}
use Rattle.std.specs.Prelude.{map, slice_get, Bool, false, IsTrue, ◌↔◌}
use Rattle.std.specs.Iterator.{YieldsFirst}
use Rattle.std.proofs.Math.ListN.{replicate}
use Rattle.std.proofs.lemmas.List.{length_push, length-take, take_all}
use Rattle.esync_base.specs.Rows.{items_of, row_of, IsRow}
use Rattle.esync_base.specs.Registration.{slot_wakers}

pub items_of-replicate : {A : Type 0} (n : ℕ) → items_of (replicate {A = Option A} n None) ≡ []
items_of-replicate zero = refl
items_of-replicate (suc n) = items_of-replicate n

pub items_of-row : {A : Type 0} (xs : List A) (n : ℕ) → items_of (map Some xs ++ replicate n None) ≡ xs
items_of-row [] n = items_of-replicate n
items_of-row (x ∷ xs) n = ap (λ ys. x ∷ ys) (items_of-row xs n)

pub items_of-all : {A : Type 0} (xs : List A) → items_of (map Some xs) ≡ xs
items_of-all [] = refl
items_of-all (x ∷ xs) = ap (λ ys. x ∷ ys) (items_of-all xs)

-- a row whose places all hold an item: its first place, and the others
module _ {A : Type 0} where
  abbrev tail_of : List (Option A) → List (Option A)
  tail_of [] = []
  tail_of (o ∷ row) = row

  pub filled_rest : (o : Option A) (row : List (Option A)) → o ∷ row ≡ map Some (items_of (o ∷ row)) → row ≡ map Some (items_of row)
  filled_rest (Some x) row h = ap tail_of h
  filled_rest None row h = elim (items_of row) as (λ xs. None ∷ row ≡ map Some xs → row ≡ map Some (items_of row)) [ [] ↦ λ e. cc | x ∷ xs ↦ λ e. cc ] h

  pub filled_first : (o : Option A) (row : List (Option A)) → o ∷ row ≡ map Some (items_of (o ∷ row)) → YieldsFirst (λ xs. xs) (items_of (o ∷ row)) o (items_of row)
  filled_first (Some x) row h = refl
  filled_first None row h = elim (items_of row) as (λ xs. None ∷ row ≡ map Some xs → YieldsFirst (λ xs. xs) (items_of row) None (items_of row)) [ [] ↦ λ e. cc | x ∷ xs ↦ λ e. cc ] h

pub set-row : {A : Type 0} (xs : List A) (n : ℕ) (w : A) → set (map Some xs ++ replicate (suc n) None) (length xs) (Some w) ≡ map Some (xs ++ w ∷ []) ++ replicate n None
set-row [] n w = refl
set-row (x ∷ xs) n w = ap (λ ys. Some x ∷ ys) (set-row xs n w)

pub get-row : {A : Type 0} (xs : List A) (row : List (Option A)) (i : ℕ) (d : Option A) → i < length xs → get_or (map Some xs ++ row) i d ≡ slice_get xs i
get-row [] row i d h = absurd (omega arith)
get-row (x ∷ xs) row zero d h = refl
get-row (x ∷ xs) row (suc i) d h = get-row xs row i d (omega arith)

pub row_new : {A : Type 0} (n : ℕ) → IsRow {A = A} n (replicate n None) 0
row_new n = record {
  shape = ap (λ k. replicate k None) (let e : n ≡ n - 0 = omega arith in e) ∙ sym (ap (λ xs. row_of n xs) (items_of-replicate n));
  count = sym (ap length (items_of-replicate n));
  fits = rw items_of-replicate (omega arith);
}

-- a write at the first free place
pub set_is : {A : Type 0} (n : ℕ) (row : List (Option A)) (len : ℕ) (w : A) → IsRow n row len → len < n → set row len (Some w) ≡ row_of n (items_of row ++ w ∷ [])
set_is n row len w r h =
    let xs = items_of row in
    let k : n - length xs ≡ suc (n - length (xs ++ w ∷ [])) = rw length_push (omega (arith, r.count)) in
    ap (λ (p : List (Option _)). set p len (Some w)) (r.shape ∙ ap (λ m. map Some xs ++ replicate m None) k)
    ∙ ap (λ i. set (map Some xs ++ replicate (suc (n - length (xs ++ w ∷ []))) None) i (Some w)) r.count
    ∙ set-row xs (n - length (xs ++ w ∷ [])) w

pub items_of-set : {A : Type 0} (n : ℕ) (row : List (Option A)) (len : ℕ) (w : A) → IsRow n row len → len < n → items_of (set row len (Some w)) ≡ items_of row ++ w ∷ []
items_of-set n row len w r h = ap items_of (set_is n row len w r h) ∙ items_of-row (items_of row ++ w ∷ []) (n - length (items_of row ++ w ∷ []))

pub row_push : {A : Type 0} (n : ℕ) (row : List (Option A)) (len : ℕ) (w : A) → IsRow n row len → len < n → IsRow n (set row len (Some w)) (len + 1)
row_push n row len w r h =
    let e = items_of-set n row len w r h in
    record {
      shape = set_is n row len w r h ∙ sym (ap (λ xs. row_of n xs) e);
      count = rw (e, length_push) (omega (arith, r.count));
      fits = rw (e, length_push) (omega (arith, r.count));
    }

-- one more of a list's wakers, where there is one
take_suc : {A : Type 0} (xs : List A) (i : ℕ) → take (suc i) xs ≡ take i xs ++ slot_wakers (slice_get xs i)
take_suc [] zero = refl
take_suc [] (suc i) = refl
take_suc (x ∷ xs) zero = refl
take_suc (x ∷ xs) (suc i) = ap (λ ys. x ∷ ys) (take_suc xs i)

pub take_next : {A : Type 0} (xs : List A) (i : ℕ) → take (i + 1) xs ≡ take i xs ++ slot_wakers (slice_get xs i)
take_next xs i = ap (λ k. take k xs) (let h : i + 1 ≡ suc i = omega arith in h) ∙ take_suc xs i

pub take_more : {A : Type 0} (xs : List A) (i : ℕ) (x : A) → slice_get xs i ≡ Some x → take (i + 1) xs ≡ take i xs ++ x ∷ []
take_more xs i x h = take_next xs i ∙ ap (λ o. take i xs ++ slot_wakers o) h

-- a list with the wakers of another so far, and the next of them, if there is one
pub hand_next : {A : Type 0} (us vs ws : List A) (i : ℕ) (o : Option A) → slice_get vs i ≡ o → ws ≡ us ++ take i vs → ws ++ slot_wakers o ≡ us ++ take (i + 1) vs
hand_next us vs ws i o at so_far =
    ap (λ xs. xs ++ slot_wakers o) so_far
    ∙ append_assoc us (take i vs) (slot_wakers o)
    ∙ ap (λ p. us ++ (take i vs ++ slot_wakers p)) (sym at)
    ∙ ap (λ xs. us ++ xs) (sym (take_next vs i))

-- and when no other is left
pub hand_all : {A : Type 0} (us vs ws : List A) (i : ℕ) → length vs ≤ i → ws ≡ us ++ take i vs → ws ≡ us ++ vs
hand_all us vs ws i left so_far = so_far ∙ ap (λ xs. us ++ xs) (take_all i vs left)

-- so far there are no more of them
pub hand_within : {A : Type 0} (us vs ws : List A) (i : ℕ) → ws ≡ us ++ take i vs → length ws ≡ length us + min i (length vs)
hand_within us vs ws i so_far = ap length so_far ∙ length-append us (take i vs) ∙ ap (λ k. length us + k) (length-take i vs)

-- a list that a test finds not to be empty has some
pub some_items : {A : Type 0} (empty : Bool) (xs : List A) → IsTrue empty ↔ (xs ≡ []) → empty ≡ false → 0 < length xs
some_items empty [] test e = absurd (let t = test.1 refl in cc)
some_items empty (x ∷ xs) test e = omega arith
