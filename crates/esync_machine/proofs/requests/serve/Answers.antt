use Rattle.std.proofs.Common.{◌≡◌, ℕ, sym, ◌∙◌, subst}
use Rattle.esync_machine.specs.declared.primitive.Reach.{Reach}
use Rattle.esync_machine.specs.declared.primitive.Reach.TheVariants.{Nobody, Number, Leavers}
use Rattle.esync_machine.specs.Served.{Served}
use Rattle.esync_machine.specs.NumbersLaws.{swept_nothing}
use Rattle.esync_machine.proofs.Serve.{served_alone, spares_alone}
use Rattle.esync_machine.proofs.requests.serve.Goals as goal

nobody_is_no_number : (o : Reach) (r : ℕ) → o ≡ Nobody → o ≡ Number r → ⊥
nobody_is_no_number o r e f = cc

leavers_are_no_number : (o : Reach) (r : ℕ) → o ≡ Leavers → o ≡ Number r → ⊥
leavers_are_no_number o r e f = cc

pub returns-in-Nobody : goal.returns-in-Nobody
returns-in-Nobody g c =
    let e = sym c.reach.ensures ∙ c.in-Nobody.is in
    let t = c.serve_alone.ensures in
    subst (λ q. Served g.P.Primitive.rules g.P.Primitive.core g.P.Primitive.wakings g.P.Primitive.registrations g.P.Primitive.Fits g.P.Primitive.Apart g.P.Primitive.Owes g.P.Waker.PartialEq.eq c.args.state.now c.args.places.now c.args.command c.serve_alone.result c.serve_alone.new.wakes c.serve_alone.new.state q)
    (swept_nothing _ c.args.places.now (λ h. spares_alone g.P.Primitive.rules (g.P.Primitive.core c.args.state.now) c.args.command h e))
    (served_alone g.P.Primitive.rules g.P.Primitive.core g.P.Primitive.wakings g.P.Primitive.registrations g.P.Primitive.Fits g.P.Primitive.Apart g.P.Primitive.Owes g.P.Waker.PartialEq.eq g.met.P.Primitive.symmetric c.args.state.now c.serve_alone.new.state c.args.places.now c.args.command c.serve_alone.result c.serve_alone.new.wakes c.requires.tied t.0 (λ r. nobody_is_no_number _ r e) t.1)

pub returns-in-Leavers : goal.returns-in-Leavers
returns-in-Leavers g c =
    let e = sym c.reach.ensures ∙ c.in-Leavers.is in
    let t = c.serve_alone-in-Leavers.ensures in
    rw c.sweep.ensures
    (served_alone g.P.Primitive.rules g.P.Primitive.core g.P.Primitive.wakings g.P.Primitive.registrations g.P.Primitive.Fits g.P.Primitive.Apart g.P.Primitive.Owes g.P.Waker.PartialEq.eq g.met.P.Primitive.symmetric c.args.state.now c.serve_alone-in-Leavers.new.state c.args.places.now c.args.command c.serve_alone-in-Leavers.result c.serve_alone-in-Leavers.new.wakes c.requires.tied t.0 (λ r. leavers_are_no_number _ r e) t.1)
