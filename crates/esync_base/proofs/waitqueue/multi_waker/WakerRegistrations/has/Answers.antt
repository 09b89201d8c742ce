use Rattle.std.proofs.Common.{◌∙◌, sym}
use Rattle.esync_base.proofs.Among.{among_at, among_next}
use Rattle.esync_base.proofs.waitqueue.multi_waker.WakerRegistrations.has.Goals as goal

pub returns-then-eq : goal.returns-then-eq
returns-then-eq g c =
    let e = sym c.eq.ensures ∙ c.if-eq.true in
    sym (rw (sym c.self.view_is) (among_at g.L.Waker.PartialEq.eq (g.L.WakerList.wakers c.self.inside.wakers) c.loop-i.i c.args.waker (rw c.get.ensures at e)))

pub loop-i-preserved : goal.loop-i-preserved
loop-i-preserved g c =
    let e = sym c.eq.ensures ∙ c.if-eq.false in
    among_next g.L.Waker.PartialEq.eq (g.L.WakerList.wakers c.self.inside.wakers) c.loop-i.i c.args.waker (rw c.get.ensures at e) c.loop-i.invariant
