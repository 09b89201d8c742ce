-- Runs of numbers round a ring.
use Rattle.std.proofs.Common.{◌≡◌, ℕ, zero, suc, ◌+◌, ◌-◌, ◌<◌, ◌≤◌, [], ◌∷◌, ◌++◌, length, take, drop, refl, sym, ap, ◌∙◌, arith}
use Rattle.esync_base.specs.Ring.{next, slot}
use Rattle.esync_base.proofs.Places.{slot-is, slot-next, slot-round, slot-apart, next-inside, next-within}
use Rattle.std.specs.Prelude.{Bool, true, false, not, List, Option, Some, is_some, slice_get}
use Rattle.std.specs.List.Sorted.{IsPermutation}
use Rattle.std.proofs.Common.{inl, inr, subst}
use Rattle.std.proofs.lemmas.List.Sorted.{IsPermutation-append_comm}
use Rattle.esync_zerocopy.specs.Slots.{Sides, count, cleared_if, numbers_from, ring_from, IsRound, EachOnce}

pub length_ring : (n i k : ℕ) → length (ring_from n i k) ≡ k
length_ring n i zero = refl
length_ring n i (suc k) = ap suc (length_ring n (next n i) k)

pub length_numbers : (i k : ℕ) → length (numbers_from i k) ≡ k
length_numbers i zero = refl
length_numbers i (suc k) = ap suc (length_numbers (i + 1) k)

-- so many numbers that don't come round
pub ring_numbers : (n i k : ℕ) → i + k ≤ n → ring_from n i k ≡ numbers_from i k
ring_numbers n i zero h = refl
ring_numbers n i (suc zero) h = refl
ring_numbers n i (suc (suc k)) h = ap (λ xs. i ∷ xs) (ap (λ j. ring_from n j (suc k)) (next-inside n i (omega arith)) ∙ ring_numbers n (i + 1) (suc k) (omega arith))

-- the number behind a run goes behind it
pub ring_more : (n i k : ℕ) → ring_from n i k ++ slot n i k ∷ [] ≡ ring_from n i (suc k)
ring_more n i zero = refl
ring_more n i (suc k) = ap (λ xs. i ∷ xs) (ap (λ j. ring_from n (next n i) k ++ j ∷ []) (slot-next n i k) ∙ ring_more n (next n i) k)

-- all numbers, and none behind them
pub round_of_all : (n : ℕ) → 0 < n → IsRound n 0 n 0 0
round_of_all n h = record { behind = slot-round n 0 (omega arith); behind2 = refl; all = omega arith }

pub turned_round : (n f m f2 m2 : ℕ) → IsRound n f m f2 m2 → IsRound n f2 m2 f m
turned_round n f m f2 m2 r = record { behind = r.behind2; behind2 = r.behind; all = (let a = r.all in omega arith) }

-- two runs that lie round a ring have all its numbers
pub count_of_round : (n f m f2 m2 : ℕ) → IsRound n f m f2 m2 → length (ring_from n f m) + length (ring_from n f2 m2) ≡ n
count_of_round n f m f2 m2 r = (let a = r.all in let l = length_ring n f m in let l2 = length_ring n f2 m2 in omega arith)

module _ (n f m f2 m2 : ℕ) (r : IsRound n f m f2 m2) (some : 0 < m) where
  pub round_advanced : IsRound n (next n f) (m - 1) f2 (m2 + 1)
  round_advanced = record {
    behind = sym (slot-next n f (m - 1)) ∙ ap (slot n f) (let e : suc (m - 1) ≡ m = omega arith in e) ∙ r.behind;
    behind2 = ap (slot n f2) (let e : m2 + 1 ≡ suc m2 = omega arith in e) ∙ ap (next n) r.behind2;
    all = (let a = r.all in omega arith);
  }

  ring_first : (k : ℕ) → m ≡ suc k → (drop 1 (ring_from n f m) ≡ ring_from n (next n f) k) × (take 1 (ring_from n f m) ≡ f ∷ [])
  ring_first k e = rw e (refl, refl)

  -- the run that lost its first number
  pub ring_less : drop 1 (ring_from n f m) ≡ ring_from n (next n f) (m - 1)
  ring_less = (ring_first (m - 1) (omega arith)).0

  -- the run that it went behind
  pub ring_grown : ring_from n f2 m2 ++ take 1 (ring_from n f m) ≡ ring_from n f2 (m2 + 1)
  ring_grown = ap (λ xs. ring_from n f2 m2 ++ xs) ((ring_first (m - 1) (omega arith)).1 ∙ ap (λ j. j ∷ []) (sym r.behind2)) ∙ ring_more n f2 m2 ∙ ap (ring_from n f2) (let e : suc m2 ≡ m2 + 1 = omega arith in e)

  pub next_within : 0 < n → next n f < n
  next_within h = (let e = next-within n f in omega arith)

-- a clear keeps how many slots there are
pub count_of_cleared : (done : Bool) (s : Sides) → count (cleared_if done s) ≡ count s
count_of_cleared true s = (let l = length_numbers 0 (count s) in omega arith)
count_of_cleared false s = refl

-- a run goes on where its first part ends
ring_append : (n i k m : ℕ) → ring_from n i (k + m) ≡ ring_from n i k ++ ring_from n (slot n i k) m
ring_append n i zero m = ap (ring_from n i) (omega arith)
ring_append n i (suc k) m = ap (ring_from n i) (let e : suc k + m ≡ suc (k + m) = omega arith in e)
    ∙ ap (λ xs. i ∷ xs) (ring_append n (next n i) k m ∙ ap (λ j. ring_from n (next n i) k ++ ring_from n j m) (sym (slot-next n i k)))

numbers_append : (i k m : ℕ) → numbers_from i (k + m) ≡ numbers_from i k ++ numbers_from (i + k) m
numbers_append i zero m = ap (numbers_from i) (let e : 0 + m ≡ m = omega arith in e) ∙ ap (λ j. numbers_from j m) (let e : i ≡ i + 0 = omega arith in e)
numbers_append i (suc k) m = ap (numbers_from i) (let e : suc k + m ≡ suc (k + m) = omega arith in e)
    ∙ ap (λ xs. i ∷ xs) (numbers_append (i + 1) k m ∙ ap (λ j. numbers_from (i + 1) k ++ numbers_from j m) (let e : (i + 1) + k ≡ i + suc k = omega arith in e))

-- behind the last number comes the first
slot_of_end : (n f : ℕ) → f < n → slot n f (n - f) ≡ 0
slot_of_end n f h = elim (slot-is n f (n - f) (omega arith) (omega arith)) [ inl e ↦ omega arith | inr e ↦ omega arith ]

-- all numbers of a ring, from one of them on: those from there to the last, and then those before it
ring_of_all : (n f : ℕ) → f < n → ring_from n f n ≡ numbers_from f (n - f) ++ numbers_from 0 f
ring_of_all n f h = ap (ring_from n f) (let e : n ≡ (n - f) + f = omega arith in e)
    ∙ ring_append n f (n - f) f
    ∙ ap (λ xs. xs ++ ring_from n (slot n f (n - f)) f) (ring_numbers n f (n - f) (omega arith))
    ∙ ap (λ xs. numbers_from f (n - f) ++ xs) (ap (λ j. ring_from n j f) (slot_of_end n f h) ∙ ring_numbers n 0 f (omega arith))

all_of_ring : (n f : ℕ) → f < n → IsPermutation (numbers_from 0 n) (ring_from n f n)
all_of_ring n f h =
    let first : numbers_from 0 n ≡ numbers_from 0 f ++ numbers_from f (n - f) = ap (numbers_from 0) (let e : n ≡ f + (n - f) = omega arith in e) ∙ numbers_append 0 f (n - f) ∙ ap (λ j. numbers_from 0 f ++ numbers_from j (n - f)) (let e : 0 + f ≡ f = omega arith in e) in
    subst (λ xs. IsPermutation xs (ring_from n f n)) (sym first)
    (subst (λ xs. IsPermutation (numbers_from 0 f ++ numbers_from f (n - f)) xs) (sym (ring_of_all n f h))
    (IsPermutation-append_comm (numbers_from 0 f) (numbers_from f (n - f))))

module _ (n f m f2 m2 : ℕ) (r : IsRound n f m f2 m2) (within : f < n) where
  all_of_round : IsPermutation (numbers_from 0 (length (ring_from n f m) + length (ring_from n f2 m2))) (ring_from n f m ++ ring_from n f2 m2)
  all_of_round =
      let joined : ring_from n f n ≡ ring_from n f m ++ ring_from n f2 m2 = ap (ring_from n f) (sym r.all) ∙ ring_append n f m m2 ∙ ap (λ j. ring_from n f m ++ ring_from n j m2) r.behind in
      subst (λ k. IsPermutation (numbers_from 0 k) (ring_from n f m ++ ring_from n f2 m2)) (sym (count_of_round n f m f2 m2 r))
      (subst (λ xs. IsPermutation (numbers_from 0 n) xs) joined (all_of_ring n f within))

-- the first of a run that has one
first_of_ring : (n f m i : ℕ) → slice_get (ring_from n f m) 0 ≡ Some i → (i ≡ f) × (0 < m)
first_of_ring n f zero i e = absurd cc
first_of_ring n f (suc m) i e = ((let s : Some f ≡ Some i = e in cc), omega arith)

firsts_apart : (n f m f2 m2 : ℕ) → IsRound n f m f2 m2 → f < n → (i : ℕ) → slice_get (ring_from n f m) 0 ≡ Some i → slice_get (ring_from n f2 m2) 0 ≡ Some i → ⊥
firsts_apart n f m f2 m2 r within i e e2 =
    let p = first_of_ring n f m i e in
    let p2 = first_of_ring n f2 m2 i e2 in
    let all = r.all in
    let same : slot n f m ≡ f = r.behind ∙ sym p2.0 ∙ p.0 in
    let k = slot-apart n f m (omega arith) p.1 (omega arith) same in
    let some = p2.1 in
    omega arith

-- two runs that lie round a ring have each of its numbers once
pub once_of_round : (n f m f2 m2 : ℕ) (out out2 : Bool) → IsRound n f m f2 m2 → f < n → EachOnce (record { spare = ring_from n f m; held = ring_from n f2 m2; sending = out; receiving = out2 })
once_of_round n f m f2 m2 out out2 r within = record { all = all_of_round n f m f2 m2 r within; apart = firsts_apart n f m f2 m2 r within }

-- a list with a first item has some
pub some_first : (is : List ℕ) (o : Option ℕ) (none : Bool) → o ≡ slice_get is 0 → is_some o ≡ not none → none ≡ false → 0 < length is
some_first [] o none e f g = (let some : is_some o ≡ true = f ∙ ap not g in let h : false ≡ true = rw e at some in absurd cc)
some_first (i ∷ is) o none e f g = omega arith
