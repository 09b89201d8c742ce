use Rattle.std.proofs.Common.{◌≡◌, ◌≤◌, ◌+◌, ◌-◌, ◌∙◌, sym, ap, subst, arith}
use Rattle.esync_base.specs.Ring.{slot}
use Rattle.esync_base.specs.RingBuffer.{Stretch}
use Rattle.esync_base.proofs.Places.{slot-add}
use Rattle.esync_base.proofs.Stretches.{slot-within}
use Rattle.esync_base.proofs.ring_buffer.RingBufferOver.pop.Goals as goal

pub invariant_of-self : goal.invariant_of-self
invariant_of-self g c =
    let a = c.self.inside in
    let n = c.args.n in
    let i = c.self.invariant in
    let few : n ≤ a.len = subst (λ (v : Stretch). n ≤ v.count) (sym c.self.view_is) c.requires in
    let rest : n + (a.len - n) ≡ a.len = omega arith in
    let first = slot-within g.E.Extent.extent a.start n i.0 (omega arith) in
    let end : a.end ≡ slot g.E.Extent.extent (slot g.E.Extent.extent a.start n) (a.len - n) = i.2 ∙ sym (slot-add g.E.Extent.extent a.start n (a.len - n) ∙ ap (slot g.E.Extent.extent a.start) rest) in
    rw (c.behind-self-inside.ensures, c.places.ensures) (first, omega arith, end)
