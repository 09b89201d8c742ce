use Rattle.std.proofs.Common.{◌≤◌, ◌+◌, ◌∙◌, sym, ap, subst}
use Rattle.esync_base.specs.Ring.{slot}
use Rattle.esync_base.specs.RingBuffer.{Stretch}
use Rattle.esync_base.proofs.Places.{slot-add}
use Rattle.esync_base.proofs.ring_buffer.RingBufferOver.push.Goals as goal

pub invariant_of-self : goal.invariant_of-self
invariant_of-self g c =
    let a = c.self.inside in
    let i = c.self.invariant in
    let few : a.len + c.args.n ≤ g.E.Extent.extent = subst (λ (v : Stretch). v.count + c.args.n ≤ g.E.Extent.extent) (sym c.self.view_is) c.requires in
    rw (c.behind-self-inside.ensures, c.places.ensures) (i.0, few, ap (λ e. slot g.E.Extent.extent e c.args.n) i.2 ∙ slot-add g.E.Extent.extent a.start a.len c.args.n)
