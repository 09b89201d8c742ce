use Rattle.std.proofs.Common.{◌≡◌, ℕ, ◌+◌, ◌<◌, suc, List, Option, Some, Bool, length, get_or, sym, ap, ◌∙◌, arith}
use Rattle.std.specs.Prelude.{slice_set, slice_get}
use Rattle.std.proofs.lemmas.Option.{slice_get-get_or}
use Rattle.esync_machine.specs.Numbers.{swept, swept_below, swept_place}
use Rattle.esync_machine.specs.NumbersLaws.{sweeps, swept_all, length_swept}
use Rattle.esync_machine.proofs.requests.sweep_call.Goals as goal

one_more : {A : Type 0} (f : A → Bool) (q now : List (Option A)) (r : ℕ) (d p : Option A) → now ≡ swept_below f r q → r < length q → p ≡ swept_place f (get_or now r d) → slice_set now r p ≡ swept_below f (r + 1) q
one_more f q now r d p before below e =
    let same_length : length now ≡ length q = ap length before ∙ length_swept f r q in
    let within : r < length now = omega (arith, same_length) in
    let there : slice_get (swept_below f r q) r ≡ Some (get_or now r d) = ap (λ l. slice_get l r) (sym before) ∙ slice_get-get_or now r d within in
    let next : suc r ≡ r + 1 = omega arith in
    ap (λ z. slice_set now r z) e ∙ ap (λ l. slice_set l r (swept_place f (get_or now r d))) before ∙ sweeps f r q (get_or now r d) there ∙ ap (λ n. swept_below f n q) next

all_of_it : {A : Type 0} (f : A → Bool) (q now : List (Option A)) (r : ℕ) → now ≡ swept_below f r q → r ≡ length q → now ≡ swept f q
all_of_it f q now r before all = before ∙ ap (λ n. swept_below f n q) all ∙ swept_all f q

pub loop-r-preserved : goal.loop-r-preserved
loop-r-preserved g c =
    let below : c.loop-r.r < length c.args.places.now = omega arith in
    one_more (g.P.Primitive.rules.leaves (g.P.Primitive.core c.args.state.now) c.args.call.now) c.args.places.now c.loop-r.places c.loop-r.r c.index-places-r.result c.sweep_at.new.place c.loop-r.invariant below c.sweep_at.ensures

pub returns : goal.returns
returns g c =
    let all : c.loop-r.r ≡ length c.args.places.now = omega arith in
    all_of_it (g.P.Primitive.rules.leaves (g.P.Primitive.core c.args.state.now) c.args.call.now) c.args.places.now c.loop-r.places c.loop-r.r c.loop-r.invariant all
