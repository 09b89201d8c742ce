-- Whether a waker is in a list, as a loop goes through it.
use Rattle.std.proofs.Common.{◌≡◌, ℕ, zero, suc, ◌+◌, Bool, true, false, List, [], ◌∷◌, Some, inl, inr, refl, ◌∙◌, ap, take, arith}
use Rattle.std.specs.Prelude.{slice_get}
use Rattle.std.specs.Option.{option_eq}
use Rattle.esync_base.specs.ListedLaws.{true_or_false, neither}
use Rattle.esync_base.specs.Registration.{among}

pub among_at : {W : Type 0} (eq : W → W → Bool) (vs : List W) (i : ℕ) (w : W) → option_eq eq (slice_get vs i) (Some w) ≡ true → among eq w vs ≡ true
among_at eq [] i w h = absurd cc
among_at eq (v ∷ vs) zero w h = rw (let e : eq v w ≡ true = h in e) refl
among_at eq (v ∷ vs) (suc i) w h = elim (true_or_false (eq v w)) [ inl e ↦ rw e refl | inr e ↦ rw e (among_at eq vs i w h) ]

among_suc : {W : Type 0} (eq : W → W → Bool) (vs : List W) (i : ℕ) (w : W) → option_eq eq (slice_get vs i) (Some w) ≡ false → among eq w (take i vs) ≡ false → among eq w (take (suc i) vs) ≡ false
among_suc eq [] zero w h before = refl
among_suc eq [] (suc i) w h before = refl
among_suc eq (v ∷ vs) zero w h before = rw (let e : eq v w ≡ false = h in e) refl
among_suc eq (v ∷ vs) (suc i) w h before =
    let n = neither (eq v w) (among eq w (take i vs)) before in
    rw n.0 (among_suc eq vs i w h n.1)

pub among_next : {W : Type 0} (eq : W → W → Bool) (vs : List W) (i : ℕ) (w : W) → option_eq eq (slice_get vs i) (Some w) ≡ false → among eq w (take i vs) ≡ false → among eq w (take (i + 1) vs) ≡ false
among_next eq vs i w h before = ap (λ k. among eq w (take k vs)) (let e : i + 1 ≡ suc i = omega arith in e) ∙ among_suc eq vs i w h before
