-- A free place that goes from one place to another.
use Rattle.std.proofs.Common.{◌≡◌, ◌≢◌, ℕ, zero, suc, ◌<◌, List, [], ◌∷◌, length, get_or, set, Option, None, refl, sym, ◌∙◌, ap, inl, inr, arith}
use Rattle.std.proofs.lemmas.List.{length-set, set-set, set_comm, get_or-set_same, get_or-set_other}
use Rattle.std.proofs.lemmas.List.Sorted.{IsPermutation-trans, IsPermutation-swap}
use Rattle.std.specs.List.{swap}
use Rattle.esync_priority.specs.Heap.{IsHole, MovesPlace}
use Rattle.esync_priority.proofs.Heap.{same_or_other}

other_default : {A : Type 0} (xs : List A) (i : ℕ) (d e : A) → i < length xs → get_or xs i d ≡ get_or xs i e
other_default [] i d e h = absurd (omega arith)
other_default (x ∷ xs) zero d e h = refl
other_default (x ∷ xs) (suc i) d e h = other_default xs i d e (omega arith)

swap_is : {A : Type 0} (xs : List A) (i j : ℕ) (d : A) → i < length xs → j < length xs → set (set xs i (get_or xs j d)) j (get_or xs i d) ≡ swap xs i j
swap_is [] i j d h k = refl
swap_is (x ∷ xs) i j d h k =
    ap (λ y. set (set (x ∷ xs) i y) j (get_or (x ∷ xs) i d)) (other_default (x ∷ xs) j d x k)
    ∙ ap (λ y. set (set (x ∷ xs) i (get_or (x ∷ xs) j x)) j y) (other_default (x ∷ xs) i d x h)

module _ {A : Type 0} where
  pub moves_on : (row new : List A) (to from : ℕ) (n d : A) → to < length row → from < length row → to ≢ from → new ≡ set (set row from n) to (get_or row from d) → MovesPlace row new to from
  moves_on row new to from n d hi hj ne e = record {
    length_kept = ap length e ∙ length-set (set row from n) to (get_or row from d) ∙ length-set row from n;
    holds = λ x.
        let f = get_or row from d in
        let back : from ≢ to = omega arith in
        let v = set row to x in
        let many = length-set row to x in
        let left : set new from x ≡ set (set row to f) from x =
        ap (λ (r : List A). set r from x) e ∙ set_comm (set row from n) to from f x ne ∙ ap (λ (r : List A). set r to f) (set-set row from n x) ∙ set_comm row from to x f back in
        let right : set (set v to (get_or v from d)) from (get_or v to d) ≡ set (set row to f) from x =
        rw (get_or-set_other row to from x d back, get_or-set_same row to x d hi) (ap (λ (r : List A). set r from x) (set-set row to x f)) in
        IsPermutation-swap v (set new from x) to from (omega arith) (omega arith) (left ∙ sym right ∙ swap_is v to from d (omega arith) (omega arith));
  }

  pub moves_further : (a b c : List A) (i j k : ℕ) → MovesPlace a b i j → MovesPlace b c j k → MovesPlace a c i k
  moves_further a b c i j k g h = record {
    length_kept = h.length_kept ∙ g.length_kept;
    holds = λ x. IsPermutation-trans (set a i x) (set b j x) (set c k x) (g.holds x) (h.holds x);
  }

  pub at_target : (row new : List A) (to from : ℕ) (n d : A) → to < length row → new ≡ set (set row from n) to (get_or row from d) → get_or new to d ≡ get_or row from d
  at_target row new to from n d hi e =
      let many = length-set row from n in
      ap (λ (r : List A). get_or r to d) e ∙ get_or-set_same (set row from n) to (get_or row from d) d (omega arith)

  pub at_others : (row new : List A) (to from : ℕ) (n d : A) → new ≡ set (set row from n) to (get_or row from d) → (k : ℕ) → k ≢ to → k ≢ from → get_or new k d ≡ get_or row k d
  at_others row new to from n d e k a b = ap (λ (r : List A). get_or r k d) e ∙ get_or-set_other (set row from n) to k (get_or row from d) d a ∙ get_or-set_other row from k n d b

-- the free place is the one whose item went
pub hole_moves : {A : Type 0} (row new : List (Option A)) (to from : ℕ) → to < length row → from < length row → to ≢ from → IsHole row to → new ≡ set (set row from None) to (get_or row from None) → IsHole new from
hole_moves row new to from hi hj ne hole e =
    let back : from ≢ to = omega arith in
    let many = (moves_on row new to from None None hi hj ne e).length_kept in
    record {
      free = ap (λ (r : List (Option _)). get_or r from None) e ∙ get_or-set_other (set row from None) to from (get_or row from None) None back ∙ get_or-set_same row from None None hj;
      others = λ k l other. elim (same_or_other k to) [
        | inl same ↦ rw (same, at_target row new to from None None hi e) (hole.others from hj back)
        | inr apart ↦ rw (at_others row new to from None None e k apart other) (hole.others k (omega arith) apart)
      ];
    }
