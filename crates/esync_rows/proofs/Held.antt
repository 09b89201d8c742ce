-- An option that is some value, and the machine value of a struct with one field. Assumes nothing.
use Rattle.std.proofs.Common.{◌≡◌, refl, Option, Some, None}
use Rattle.std.proofs.lemmas.Bool.{false≢true}
use Rattle.std.specs.Option.{IsSome}
use Rattle.std.specs.Prelude.{slice_index_or}
use Rattle.std.proofs.Math.ListN.{replicate}
use Rattle.std.proofs.Common.{ℕ, zero, suc, ◌<◌, List, ◌∷◌, length, arith, ap, ◌∙◌, Bool, true, false, T, ◌&&◌, []}
use mir.Syntax.{Ty, ty_struct, tcons, tnil}
use mir.Val.{Val, vunit, vbool, vint, vfloat, vptr, vcode, vstruct, vcons, vnil, has_ty}
use Rattle.core.proofs.cell.Inside.{round}

pub some_of : {X : Type 0} (d : Option X) → IsSome d → (x : X) × (d ≡ Some x)
some_of (Some x) h = (x, refl)
some_of None h = absurd (false≢true h)

no_more : (b : Bool) → T (b && false) → ⊥
no_more true h = h
no_more false h = h

pub round_of : (τ : Ty) (v : Val) → T (has_ty (ty_struct [] (tcons τ tnil)) v) → (u : Val) × (v ≡ round u)
round_of τ vunit h = absurd h
round_of τ (vbool b) h = absurd h
round_of τ (vint w n) h = absurd h
round_of τ (vfloat f x) h = absurd h
round_of τ (vptr b o) h = absurd h
round_of τ (vcode c) h = absurd h
round_of τ (vstruct vnil) h = absurd h
round_of τ (vstruct (vcons u vnil)) h = (u, refl)
round_of τ (vstruct (vcons u (vcons w ws))) h = absurd (no_more (has_ty τ u) h)

pub all_none : {X : Type 0} (xs : List (Option X)) (n : ℕ) → length xs ≡ n → ((i : ℕ) (d : Option X) → i < n → slice_index_or xs i d ≡ None) → xs ≡ replicate n None
all_none [] zero l h = refl
all_none [] (suc n) l h = absurd (omega arith)
all_none (x ∷ xs) zero l h = absurd (omega arith)
all_none (x ∷ xs) (suc n) l h = ap (λ y. y ∷ xs) (h 0 None (omega arith)) ∙ ap (λ ys. None ∷ ys) (all_none xs n (omega arith) (λ i d m. h (suc i) d (omega arith)))
