-- Places of a ring.
use Rattle.std.proofs.Common.{◌≡◌, ℕ, zero, suc, ◌+◌, ◌-◌, ◌<◌, ◌≤◌, refl, ◌∙◌, ap, ◌⊎◌, ◌≢◌, inl, inr, arith}
use Rattle.std.proofs.lemmas.Bool.Decides.{nat_tests}
use Rattle.esync_base.specs.Ring.{next, slot}

pub next-inside : (n i : ℕ) → i + 1 < n → next n i ≡ i + 1
next-inside n i h = grind (arith, nat_tests)

pub next-end : (n i : ℕ) → n ≤ i + 1 → next n i ≡ 0
next-end n i h = grind (arith, nat_tests)

pub next-within : (n i : ℕ) → next n i ≤ n - 1
next-within n i = grind (arith, nat_tests)

pub lt_or_le : (a b : ℕ) → (a < b) ⊎ (b ≤ a)
lt_or_le a b = grind arith

pub less : (n k : ℕ) → k ≤ n → k ≢ n → k < n
less n k h e = omega arith

slot-inside : (n f i : ℕ) → f + i < n → slot n f i ≡ f + i
slot-inside n f zero h = omega arith
slot-inside n f (suc i) h = ap (next n) (slot-inside n f i (omega arith)) ∙ next-inside n (f + i) (omega arith) ∙ omega arith

slot-wrapped : (n f i : ℕ) → f ≤ n - 1 → n ≤ f + i → i ≤ n → slot n f i ≡ i - (n - f)
slot-wrapped n f zero l h k = omega arith
slot-wrapped n f (suc i) l h k = elim (lt_or_le (f + i) n) [
  | inl e ↦ ap (next n) (slot-inside n f i e) ∙ next-end n (f + i) (omega arith) ∙ omega arith
  | inr e ↦ ap (next n) (slot-wrapped n f i l e (omega arith)) ∙ next-inside n (i - (n - f)) (omega arith) ∙ omega arith
]

-- the place of item i, before the last place and behind it
pub slot-is : (n f i : ℕ) → f ≤ n - 1 → i ≤ n → ((f + i < n) × (slot n f i ≡ f + i)) ⊎ ((n ≤ f + i) × (slot n f i ≡ i - (n - f)))
slot-is n f i l h = elim (lt_or_le (f + i) n) [ inl e ↦ inl (e, slot-inside n f i e) | inr e ↦ inr (e, slot-wrapped n f i l e h) ]

pub slot-next : (n f i : ℕ) → slot n f (suc i) ≡ slot n (next n f) i
slot-next n f zero = refl
slot-next n f (suc i) = ap (next n) (slot-next n f i)

pub slot-add : (n f i k : ℕ) → slot n (slot n f i) k ≡ slot n f (i + k)
slot-add n f i zero = ap (slot n f) (let e : i ≡ i + 0 = omega arith in e)
slot-add n f i (suc k) = ap (next n) (slot-add n f i k) ∙ ap (slot n f) (let e : suc (i + k) ≡ i + suc k = omega arith in e)

-- n places on is where it began, and fewer are not
pub slot-round : (n f : ℕ) → f ≤ n - 1 → slot n f n ≡ f
slot-round n f l = elim (slot-is n f n l (omega arith)) [ inl e ↦ omega arith | inr e ↦ omega arith ]

pub slot-apart : (n f k : ℕ) → f ≤ n - 1 → 0 < k → k ≤ n → slot n f k ≡ f → k ≡ n
slot-apart n f k l some h e = elim (slot-is n f k l h) [ inl s ↦ omega arith | inr s ↦ omega arith ]
