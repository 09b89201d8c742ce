-- One exchange of a heap with a place that may hold anything.
use Rattle.std.proofs.Common.{◌≡◌, ◌≢◌, ℕ, zero, suc, ◌/◌, ◌<◌, ◌≤◌, Bool, false, List, length, get_or, set, ◌⊎◌, inl, inr, arith}
use Rattle.std.proofs.lemmas.List.{length-set, get_or-set_same, get_or-set_other}
use Rattle.std.proofs.lemmas.Bool.Decides.{eqb_tells}
use Rattle.esync_priority.specs.Heap.{IsChild, IsNotAbove, IsHeap, IsHeapBut, NoneAbove}

pub same_or_other : (a b : ℕ) → (a ≡ b) ⊎ (a ≢ b)
same_or_other a b = elim (eqb_tells a b) [ inl e ↦ inl e.1 | inr e ↦ inr e.1 ]

module _ {A : Type 0} (above : A → A → Bool) (d : A) where
  -- what holds of what two places hold
  along : (xs ys : List A) (i j k p : ℕ) → get_or ys k d ≡ get_or xs i d → get_or ys p d ≡ get_or xs j d → IsNotAbove above d xs i j → IsNotAbove above d ys k p
  along xs ys i j k p e f h = rw (e, f) h

  -- an item goes from place c to place i, which may hold anything; then place c may
  module _ (xs ys : List A) (i c : ℕ) (same : length ys ≡ length xs) (there : get_or ys i d ≡ get_or xs c d) (stays : (k : ℕ) → k ≢ i → k ≢ c → get_or ys k d ≡ get_or xs k d) where
    child_before : (p k : ℕ) → IsChild ys p k → IsChild xs p k
    child_before p k h = record { behind = h.behind; within = h.within; inside = omega arith }

    -- the upper child goes up, and the free place down
    pub sunk : IsChild xs i c → NoneAbove above d xs i (get_or xs c d) → IsHeapBut above d xs i → IsHeapBut above d ys c
    sunk child none but = record {
      order = λ p k h kc pc. elim (same_or_other k i) [
        | inl e ↦ rw e (along xs ys c p i p there (stays p (omega arith) pc) (but.bridge p c (rw e at (child_before p k h)) child))
        | inr ki ↦ elim (same_or_other p i) [
          | inl e ↦ rw e (along xs ys k c k i (stays k ki kc) there (none.each k (rw e at (child_before p k h))))
          | inr pi ↦ along xs ys k p k p (stays k ki kc) (stays p pi pc) (but.order p k (child_before p k h) ki pi)
        ]
      ];
      bridge = λ p k h g.
          let e : p ≡ i = omega arith in
          rw e (along xs ys k c k i (stays k (omega arith) (omega arith)) there (but.order c k (child_before c k g) (omega arith) (omega arith)));
    }

    -- a parent goes down, and the free place up
    module _ (ties : (a b c : A) → above a b ≡ false → above b c ≡ false → above a c ≡ false) where
      pub risen : IsChild xs c i → IsHeapBut above d xs i → IsHeapBut above d ys c
      risen child but = record {
        order = λ q k h kp qp. elim (same_or_other k i) [
          | inl e ↦ absurd (omega arith)
          | inr ki ↦ elim (same_or_other q i) [
            | inl e ↦ rw e (along xs ys k c k i (stays k ki kp) there (but.bridge c k child (rw e at (child_before q k h))))
            | inr qi ↦ along xs ys k q k q (stays k ki kp) (stays q qi qp) (but.order q k (child_before q k h) ki qi)
          ]
        ];
        bridge = λ q k h g.
            let top : get_or ys q d ≡ get_or xs q d = stays q (omega arith) (omega arith) in
            let over_q = but.order q c (child_before q c h) (omega arith) (omega arith) in
            elim (same_or_other k i) [
              | inl e ↦ rw e (along xs ys c q i q there top over_q)
              | inr ki ↦ along xs ys k q k q (stays k ki (omega arith)) top (ties (get_or xs k d) (get_or xs c d) (get_or xs q d) (but.order c k (child_before c k g) ki (omega arith)) over_q)
            ];
      }

      -- none of its new children is above the item that was above the parent
      pub risen_below : (x : A) → IsChild xs c i → above (get_or xs c d) x ≡ false → IsHeapBut above d xs i → NoneAbove above d ys c x
      risen_below x child under but = record {
        each = λ k h. elim (same_or_other k i) [
          | inl e ↦ rw (e, there) under
          | inr ki ↦ rw (stays k ki (omega arith)) (ties (get_or xs k d) (get_or xs c d) x (but.order c k (child_before c k h) ki (omega arith)) under)
        ];
      }

  -- a place of a heap that may hold anything now, and the others as before
  pub opened : (xs ys : List A) (i : ℕ) → ((k : ℕ) → k ≢ i → k < length ys → (k < length xs) × (get_or ys k d ≡ get_or xs k d))
      → ((p k : ℕ) → IsChild ys p i → IsChild ys i k → ⊥) → IsHeap above d xs → IsHeapBut above d ys i
  opened xs ys i same alone heap = record {
    order = λ p k h ki pi.
        let at_k = same k ki h.inside in
        let at_p = same p pi (omega arith) in
        along xs ys k p k p at_k.1 at_p.1 (heap.order p k (record { behind = h.behind; within = h.within; inside = at_k.0 }));
    bridge = λ p k h g. absurd (alone p k h g);
  }

  -- the item has found its place
  pub settled : (xs : List A) (i : ℕ) (x : A) → i < length xs → IsHeapBut above d xs i → NoneAbove above d xs i x → ((p : ℕ) → IsChild xs p i → above x (get_or xs p d) ≡ false) → IsHeap above d (set xs i x)
  settled xs i x l but below under = record {
    order = λ p k h.
        let many = length-set xs i x in
        let child : IsChild xs p k = record { behind = h.behind; within = h.within; inside = omega arith } in
        elim (same_or_other k i) [
          | inl e ↦ let other : p ≢ i = omega arith in rw (e, get_or-set_same xs i x d l, get_or-set_other xs i p x d other) (under p (rw e at child))
          | inr ki ↦ elim (same_or_other p i) [
            | inl e ↦ rw (e, get_or-set_same xs i x d l, get_or-set_other xs i k x d ki) (below.each k (rw e at child))
            | inr pi ↦ rw (get_or-set_other xs i k x d ki, get_or-set_other xs i p x d pi) (but.order p k child ki pi)
          ]
        ];
  }

  module _ (same_place : (a : A) → above a a ≡ false) (ties : (a b c : A) → above a b ≡ false → above b c ≡ false → above a c ≡ false) where
    -- no place is above the first one
    under_first : (n : ℕ) (xs : List A) (k : ℕ) → IsHeap above d xs → k ≤ n → k < length xs → IsNotAbove above d xs k 0
    under_first zero xs k heap h l = let e : k ≡ 0 = omega arith in rw e (same_place (get_or xs 0 d))
    under_first (suc n) xs zero heap h l = same_place (get_or xs 0 d)
    under_first (suc n) xs (suc k) heap h l =
        let p : ℕ = k / 2 in
        let child : IsChild xs p (suc k) = record { behind = omega arith; within = omega arith; inside = l } in
        ties (get_or xs (suc k) d) (get_or xs p d) (get_or xs 0 d) (heap.order p (suc k) child) (under_first n xs p heap (omega arith) (omega arith))

    pub first_is_top : (xs : List A) (k : ℕ) → IsHeap above d xs → k < length xs → IsNotAbove above d xs k 0
    first_is_top xs k heap l = under_first k xs k heap (omega arith) l
