-- The laws of an order hold of places too, where a free one is below all others.
use Rattle.std.proofs.Common.{◌≡◌, Bool, true, false, Option, Some, None, refl}
use Rattle.std.proofs.lemmas.Bool.{false_from_ne_true}
use Rattle.esync_priority.specs.Heap.{above_in_place}

module _ {T : Type 0} (above : T → T → Bool) where
  pub place-irreflexive : ((a : T) → above a a ≡ false) → (a : Option T) → above_in_place above a a ≡ false
  place-irreflexive same None = refl
  place-irreflexive same (Some x) = same x

  pub place-one_way : ((a : T) → above a a ≡ false) → ((a b c : T) → above a b ≡ true → above b c ≡ true → above a c ≡ true) → (a b : Option T) → above_in_place above a b ≡ true → above_in_place above b a ≡ false
  place-one_way same on None b h = absurd cc
  place-one_way same on (Some x) None h = refl
  place-one_way same on (Some x) (Some y) h = false_from_ne_true _ (λ e. let loop = on x y x h e in let not = same x in absurd cc)

  pub place-ties : ((a b c : T) → above a b ≡ false → above b c ≡ false → above a c ≡ false) → (a b c : Option T) → above_in_place above a b ≡ false → above_in_place above b c ≡ false → above_in_place above a c ≡ false
  place-ties ties None b c h k = refl
  place-ties ties (Some x) None c h k = absurd cc
  place-ties ties (Some x) (Some y) None h k = absurd cc
  place-ties ties (Some x) (Some y) (Some z) h k = ties x y z h k
