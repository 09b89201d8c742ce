-- A row of counts beside a ring of messages: the count of each stands at its place.
use Rattle.std.proofs.Common.{◌≡◌, ℕ, zero, suc, ◌+◌, ◌-◌, ◌<◌, ◌≤◌, List, [], ◌∷◌, ◌++◌, length, sym, ap, ◌∙◌, refl, arith}
use Rattle.std.specs.Prelude.{slice_set, slice_index}
use Rattle.std.proofs.lemmas.List.{length_push, get_or-set_same, get_or-set_other}
use Rattle.esync_base.specs.Ring.{next, slot}
use Rattle.esync_base.proofs.Places.{slot-next, slot-apart}
use Rattle.esync_log.specs.Counts.{beside}

module _ (n : ℕ) where
  pub length_beside : (f : ℕ) (row : List ℕ) (k : ℕ) → length (beside n f row k) ≡ k
  length_beside f row zero = refl
  length_beside f row (suc k) = ap suc (length_beside (next n f) row k)

  pub beside_at : (f : ℕ) (row : List ℕ) (k i : ℕ) → i < k → slice_index (beside n f row k) i ≡ slice_index row (slot n f i)
  beside_at f row zero i h = absurd (omega (arith, h))
  beside_at f row (suc k) zero h = refl
  beside_at f row (suc k) (suc i) h = beside_at (next n f) row k i (omega (arith, h)) ∙ ap (λ j. slice_index row j) (sym (slot-next n f i))

  -- the places of other items
  behind_front : (f i : ℕ) → slot n f (suc i) < n → suc i < n → f ≡ slot n f (suc i) → ⊥
  behind_front f i l h e = (let s : suc i ≡ n = slot-apart n f (suc i) (omega (arith, l, e)) (omega arith) (omega (arith, h)) (sym e) in omega (arith, s, h))

  module _ (row : List ℕ) (long : length row ≡ n) (c : ℕ) where
    elsewhere : (f k p : ℕ) → ((j : ℕ) → j < k → slot n f j ≡ p → ⊥) → beside n f (slice_set row p c) k ≡ beside n f row k
    elsewhere f zero p h = refl
    elsewhere f (suc k) p h =
        ap (λ x. x ∷ beside n (next n f) (slice_set row p c) k) (get_or-set_other row p f c 0 (λ e. h 0 (omega arith) e))
        ∙ ap (λ xs. slice_index row f ∷ xs) (elsewhere (next n f) k p (λ j l e. h (suc j) (omega (arith, l)) (slot-next n f j ∙ e)))

    -- a count is written at the place of an item
    pub beside_set : (f k i : ℕ) → slot n f i < n → i < k → k ≤ n → beside n f (slice_set row (slot n f i) c) k ≡ slice_set (beside n f row k) i c
    beside_set f zero i l h m = absurd (omega (arith, h))
    beside_set f (suc k) zero l h m =
        ap (λ x. x ∷ beside n (next n f) (slice_set row f c) k) (get_or-set_same row f c 0 (omega (arith, l, long)))
        ∙ ap (λ xs. c ∷ xs) (elsewhere (next n f) k f (λ j b e. (let s : slot n f (suc j) ≡ f = slot-next n f j ∙ e in behind_front f j (omega (arith, s, l)) (omega (arith, b, m)) (sym s))))
    beside_set f (suc k) (suc i) l h m =
        ap (λ x. x ∷ beside n (next n f) (slice_set row (slot n f (suc i)) c) k) (get_or-set_other row (slot n f (suc i)) f c 0 (behind_front f i l (omega (arith, h, m))))
        ∙ ap (λ xs. slice_index row f ∷ xs) (ap (λ p. beside n (next n f) (slice_set row p c) k) (slot-next n f i) ∙ beside_set (next n f) k i (omega (arith, l, slot-next n f i)) (omega (arith, h)) (omega (arith, m)))

    -- and at the place behind them
    pub beside_push : (f k : ℕ) → slot n f k < n → k < n → beside n f (slice_set row (slot n f k) c) (suc k) ≡ beside n f row k ++ c ∷ []
    beside_push f zero l m = ap (λ x. x ∷ []) (get_or-set_same row f c 0 (omega (arith, l, long)))
    beside_push f (suc k) l m =
        ap (λ x. x ∷ beside n (next n f) (slice_set row (slot n f (suc k)) c) (suc k)) (get_or-set_other row (slot n f (suc k)) f c 0 (behind_front f k l m))
        ∙ ap (λ xs. slice_index row f ∷ xs) (ap (λ p. beside n (next n f) (slice_set row p c) (suc k)) (slot-next n f k) ∙ beside_push (next n f) k (omega (arith, l, slot-next n f k)) (omega (arith, m)))

module _ (n f : ℕ) (row : List ℕ) where
  -- the count of item i
  pub count_at : (k i p r : ℕ) → i < k → p ≡ slot n f i → r ≡ slice_index row p → r ≡ slice_index (beside n f row k) i
  count_at k i p r h place e = e ∙ ap (λ j. slice_index row j) place ∙ sym (beside_at n f row k i h)

  -- one lower
  pub count_lower : (k i p r : ℕ) → length row ≡ n → k ≤ n → i < k → p ≡ slot n f i → p < n → r ≡ slice_index row p → beside n f (slice_set row p (r - 1)) k ≡ slice_set (beside n f row k) i (slice_index (beside n f row k) i - 1)
  count_lower k i p r long m h place below e =
      ap (λ j. beside n f (slice_set row j (r - 1)) k) place
      ∙ beside_set n row long (r - 1) f k i (omega (arith, place, below)) h m
      ∙ ap (λ v. slice_set (beside n f row k) i (v - 1)) (count_at k i p r h place e)

module _ {T : Type 0} (n : ℕ) (row : List ℕ) (f f2 : ℕ) (ms ms2 : List T) where
  -- the count of a message that comes behind the others
  pub count_push : (m : T) (p c : ℕ) → length row ≡ n → length ms < n → ms2 ≡ ms ++ m ∷ [] → f2 ≡ f → p ≡ slot n f (length ms) → p < n → beside n f2 (slice_set row p c) (length ms2) ≡ beside n f row (length ms) ++ c ∷ []
  count_push m p c long room e front at below =
      let many : length ms2 ≡ suc (length ms) = (let long2 : length ms2 ≡ length ms + 1 = ap length e ∙ length_push ms m in omega (arith, long2)) in
      rw (many, front, at) (beside_push n row long c f (length ms) (omega (arith, at, below)) room)
