-- Greater and less are orders in which two items may stand side by side.
use Rattle.std.specs.Prelude.{◌≡◌, Bool, true, false, refl}
use Rattle.std.specs.Ordering.{is_gt, is_lt, ordering_reverse}
use Rattle.std.specs.declared.cmp.Ordering.{Ordering}
use Rattle.std.specs.declared.cmp.Ordering.TheVariants.{Less, Equal, Greater}
use Rattle.std.specs.Cmp.{IsTotalOrder}
use Rattle.std.proofs.Common.{sym, ◌∙◌, ap}
use Rattle.std.proofs.lemmas.Cmp.{tied_itself}
use Rattle.esync_priority.specs.Prio.{greater, less}

pub greater-irreflexive : {T : Type 0} (cmp : T → T → Ordering) → IsTotalOrder cmp → (a : T) → greater cmp a a ≡ false
greater-irreflexive cmp total a = ap is_gt (tied_itself total a)

pub less-irreflexive : {T : Type 0} (cmp : T → T → Ordering) → IsTotalOrder cmp → (a : T) → less cmp a a ≡ false
less-irreflexive cmp total a = ap is_lt (tied_itself total a)

is_greater : (o : Ordering) → is_gt o ≡ true → o ≡ Greater
is_greater Less h = absurd cc
is_greater Equal h = absurd cc
is_greater Greater h = refl

is_less : (o : Ordering) → is_lt o ≡ true → o ≡ Less
is_less Less h = refl
is_less Equal h = absurd cc
is_less Greater h = absurd cc

pub less-transitive : {T : Type 0} (cmp : T → T → Ordering) → IsTotalOrder cmp → (a b c : T) → less cmp a b ≡ true → less cmp b c ≡ true → less cmp a c ≡ true
less-transitive cmp total a b c h k = ap is_lt (total.trans a b c (is_less (cmp a b) h) (is_less (cmp b c) k))

turned : {T : Type 0} (cmp : T → T → Ordering) → IsTotalOrder cmp → (a b : T) → cmp a b ≡ Greater → cmp b a ≡ Less
turned cmp total a b h = total.antisymm b a ∙ ap ordering_reverse h

pub greater-transitive : {T : Type 0} (cmp : T → T → Ordering) → IsTotalOrder cmp → (a b c : T) → greater cmp a b ≡ true → greater cmp b c ≡ true → greater cmp a c ≡ true
greater-transitive cmp total a b c h k =
    let e = total.trans c b a (turned cmp total b c (is_greater (cmp b c) k)) (turned cmp total a b (is_greater (cmp a b) h)) in
    ap is_gt (total.antisymm a c ∙ ap ordering_reverse e)

less-ties-by : {T : Type 0} (cmp : T → T → Ordering) → IsTotalOrder cmp → (a b c : T) (o p : Ordering) → cmp a b ≡ o → cmp b c ≡ p → is_lt o ≡ false → is_lt p ≡ false → is_lt (cmp a c) ≡ false
less-ties-by cmp total a b c Less p e f h k = absurd cc
less-ties-by cmp total a b c Equal p e f h k = ap is_lt (total.congr a b c e ∙ f) ∙ k
less-ties-by cmp total a b c Greater Less e f h k = absurd cc
less-ties-by cmp total a b c Greater Equal e f h k =
    let up = sym (total.congr b c a f) ∙ turned cmp total a b e in
    ap is_lt (total.antisymm a c ∙ ap ordering_reverse up)
less-ties-by cmp total a b c Greater Greater e f h k =
    let up = total.trans c b a (turned cmp total b c f) (turned cmp total a b e) in
    ap is_lt (total.antisymm a c ∙ ap ordering_reverse up)

pub less-ties : {T : Type 0} (cmp : T → T → Ordering) → IsTotalOrder cmp → (a b c : T) → less cmp a b ≡ false → less cmp b c ≡ false → less cmp a c ≡ false
less-ties cmp total a b c h k = less-ties-by cmp total a b c (cmp a b) (cmp b c) refl refl h k

is_greater-turned : (o : Ordering) → is_gt (ordering_reverse o) ≡ is_lt o
is_greater-turned Less = refl
is_greater-turned Equal = refl
is_greater-turned Greater = refl

greater-less : {T : Type 0} (cmp : T → T → Ordering) → IsTotalOrder cmp → (a b : T) → greater cmp a b ≡ less cmp b a
greater-less cmp total a b = ap is_gt (total.antisymm a b) ∙ is_greater-turned (cmp b a)

pub greater-ties : {T : Type 0} (cmp : T → T → Ordering) → IsTotalOrder cmp → (a b c : T) → greater cmp a b ≡ false → greater cmp b c ≡ false → greater cmp a c ≡ false
greater-ties cmp total a b c h k = greater-less cmp total a c ∙ less-ties cmp total c b a (sym (greater-less cmp total b c) ∙ k) (sym (greater-less cmp total a b) ∙ h)
