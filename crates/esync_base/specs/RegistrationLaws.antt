-- A waker that is registered is in the registration then; one that was in it stays or is displaced.
use Rattle.std.proofs.Common.{◌≡◌, ℕ, Bool, true, List, [], ◌∷◌, ◌++◌, length, Option, Some, None, nat_lt, ◌⊎◌, inl, inr, refl}
use Rattle.esync_base.specs.ListedLaws.{true_or_false}
use Rattle.esync_base.specs.Registration.{among, IsAmong, registered, displaced, registered_if, displaced_if}

among-append : {W : Type 0} (eq : W → W → Bool) → ((x : W) → eq x x ≡ true) → (vs : List W) (w : W) → IsAmong eq w (vs ++ w ∷ [])
among-append eq same [] w = rw (same w) refl
among-append eq same (v ∷ vs) w = elim (true_or_false (eq v w)) [ inl e ↦ rw e refl | inr e ↦ rw e (among-append eq same vs w) ]

among-here : {W : Type 0} (eq : W → W → Bool) → ((x : W) → eq x x ≡ true) → (w : W) → IsAmong eq w (w ∷ [])
among-here eq same w = rw (same w) refl

-- a waker that is in a list is in each list that begins with it
pub among-kept : {W : Type 0} (eq : W → W → Bool) (vs us : List W) (w : W) → IsAmong eq w vs → IsAmong eq w (vs ++ us)
among-kept eq [] us w h = absurd cc
among-kept eq (v ∷ vs) us w h = elim (true_or_false (eq v w)) [ inl e ↦ rw e refl | inr e ↦ rw e (among-kept eq vs us w (rw e at h)) ]

-- a waker that was just registered is in the registration
pub has_registered : {W : Type 0} (eq : W → W → Bool) → ((x : W) → eq x x ≡ true) → (n : ℕ) (vs : List W) (w : W) → IsAmong eq w (registered eq n vs w)
has_registered eq same n vs w = elim (true_or_false (among eq w vs)) [
  | inl e ↦ rw e e
  | inr e ↦ rw e (elim (true_or_false (nat_lt (length vs) n)) [ inl l ↦ rw l (among-append eq same vs w) | inr l ↦ rw l (among-here eq same w) ])
]

-- a waker that was registered stays so, or is displaced
pub kept_or_displaced : {W : Type 0} (eq : W → W → Bool) (n : ℕ) (vs : List W) (w w2 : W) → IsAmong eq w vs → IsAmong eq w (displaced eq n vs w2) ⊎ IsAmong eq w (registered eq n vs w2)
kept_or_displaced eq n vs w w2 h = elim (true_or_false (among eq w2 vs)) [
  | inl e ↦ rw e (inr h)
  | inr e ↦ rw e (elim (true_or_false (nat_lt (length vs) n)) [ inl l ↦ rw l (inr (among-kept eq vs (w2 ∷ []) w h)) | inr l ↦ rw l (inl h) ])
]

pub kept_or_displaced_if : {W : Type 0} (eq : W → W → Bool) (n : ℕ) (vs : List W) (w : W) (o : Option W) → IsAmong eq w vs → IsAmong eq w (displaced_if eq n vs o) ⊎ IsAmong eq w (registered_if eq n vs o)
kept_or_displaced_if eq n vs w None h = inr h
kept_or_displaced_if eq n vs w (Some w2) h = kept_or_displaced eq n vs w w2 h

-- no waker displaces one that equals it
pub not_displaced : {W : Type 0} (eq : W → W → Bool) (n : ℕ) (vs : List W) (w : W) → IsAmong eq w (displaced eq n vs w) → ⊥
not_displaced eq n vs w h = elim (true_or_false (among eq w vs)) [
  | inl e ↦ (let k = rw e at h in cc)
  | inr e ↦ (let k = rw e at h in elim (true_or_false (nat_lt (length vs) n)) [ inl l ↦ (let j = rw l at k in cc) | inr l ↦ (let j = rw l at k in cc) ])
]
