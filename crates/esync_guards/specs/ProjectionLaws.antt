-- A part of a part is a part.
use Rattle.std.specs.Prelude.{◌≡◌}
use Rattle.std.proofs.Common.{ap, ◌∙◌}

module _ {T U V : Type 0} (get : T → U) (set : T → U → T) (get2 : U → V) (set2 : U → V → U) where
  pub then_get_set : ((v : T) (u : U) → get (set v u) ≡ u) → ((u : U) (x : V) → get2 (set2 u x) ≡ x) → (v : T) (x : V) → get2 (get (set v (set2 (get v) x))) ≡ x
  then_get_set outer inner v x = ap get2 (outer v (set2 (get v) x)) ∙ inner (get v) x

  pub then_set_get : ((v : T) → set v (get v) ≡ v) → ((u : U) → set2 u (get2 u) ≡ u) → (v : T) → set v (set2 (get v) (get2 (get v))) ≡ v
  then_set_get outer inner v = ap (λ u. set v u) (inner (get v)) ∙ outer v

  pub then_set_set : ((v : T) (u : U) → get (set v u) ≡ u) → ((v : T) (u w : U) → set (set v u) w ≡ set v w) → ((u : U) (x y : V) → set2 (set2 u x) y ≡ set2 u y) → (v : T) (x y : V) → set (set v (set2 (get v) x)) (set2 (get (set v (set2 (get v) x))) y) ≡ set v (set2 (get v) y)
  then_set_set same outer inner v x y =
      outer v (set2 (get v) x) (set2 (get (set v (set2 (get v) x))) y) ∙ ap (λ u. set v u) (ap (λ u. set2 u y) (same v (set2 (get v) x)) ∙ inner (get v) x y)
