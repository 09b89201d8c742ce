use Rattle.std.proofs.Common.{◌≡◌, ℕ, ◌+◌, ◌<◌, suc, Bool, List, [], ◌∷◌, Option, Some, None, length, get_or, refl, sym, ap, ◌∙◌, arith}
use Rattle.std.specs.Prelude.{slice_set, slice_get}
use Rattle.std.proofs.lemmas.Option.{slice_get-get_or}
use Rattle.esync_base.specs.Rows.{items_of}
use Rattle.esync_machine.specs.Numbers.{swept, swept_below, swept_place}
use Rattle.esync_machine.specs.NumbersLaws.{sweeps, swept_all, length_swept}
use Rattle.esync_words.specs.Diagram.{is_woken}
use Rattle.esync_words.proofs.pages.hear_wakers.Goals as goal

one_more : {A : Type 0} (f : A → Bool) (q now : List (Option A)) (r : ℕ) (p : Option A) → now ≡ swept_below f r q → r < length q → p ≡ swept_place f (get_or now r None) → slice_set now r p ≡ swept_below f (r + 1) q
one_more f q now r p before below e =
    let same_length : length now ≡ length q = ap length before ∙ length_swept f r q in
    let within : r < length now = omega (arith, same_length) in
    let there : slice_get (swept_below f r q) r ≡ Some (get_or now r None) = ap (λ l. slice_get l r) (sym before) ∙ slice_get-get_or now r None within in
    let next : suc r ≡ r + 1 = omega arith in
    ap (λ z. slice_set now r z) e ∙ ap (λ l. slice_set l r (swept_place f (get_or now r None))) before ∙ sweeps f r q (get_or now r None) there ∙ ap (λ n. swept_below f n q) next

all_of_it : {A : Type 0} (f : A → Bool) (q now : List (Option A)) (r : ℕ) → now ≡ swept_below f r q → r ≡ length q → now ≡ swept f q
all_of_it f q now r before all = before ∙ ap (λ n. swept_below f n q) all ∙ swept_all f q

pub loop-r-preserved : goal.loop-r-preserved
loop-r-preserved c =
    let below : c.loop-r.r < length c.args.waits.now = omega (arith, c.told-waits) in
    one_more (is_woken (items_of c.args.wakers.now)) c.args.waits.now c.loop-r.waits c.loop-r.r c.unless_woken.result c.loop-r.invariant below c.unless_woken.ensures

-- without wakers nothing is swept
none_swept : (q : List (Option ℕ)) → swept (is_woken []) q ≡ q
none_swept [] = refl
none_swept (Some w ∷ q) = ap (λ l. Some w ∷ l) (none_swept q)
none_swept (None ∷ q) = ap (λ l. None ∷ l) (none_swept q)

pub returns-then-is_empty : goal.returns-then-is_empty
returns-then-is_empty c =
    let none : items_of c.args.wakers.now ≡ [] = c.is_empty.ensures.0 c.if-is_empty.true in
    rw none (sym (none_swept c.args.waits.now))

pub returns : goal.returns
returns c =
    let all : c.loop-r.r ≡ length c.args.waits.now = omega (arith, c.told-waits) in
    all_of_it (is_woken (items_of c.args.wakers.now)) c.args.waits.now c.loop-r.waits c.loop-r.r c.loop-r.invariant all
