use Rattle.std.proofs.Common.{◌≤◌, ◌+◌, subst, arith}
use Rattle.esync_base.specs.Ring.{slot}
use Rattle.esync_base.specs.RingBuffer.{Stretch, free_run}
use Rattle.esync_base.proofs.Stretches.{free-within}
use Rattle.esync_base.proofs.ring_buffer.RingBufferOver.free_run.Goals as goal

pub returns-then-self-before_end-clause-fits : goal.returns-then-self-before_end-clause-fits
returns-then-self-before_end-clause-fits g c =
    let n = g.E.Extent.extent in
    let i = c.self.invariant in
    let w = subst (λ (v : Stretch). slot n v.front v.count + free_run n v ≤ n) c.self.view_is (free-within n (record { front = c.self.inside.start; count = c.self.inside.len }) i.0 i.1) in
    omega (arith, c.places.ensures)

pub returns-else-self-before_end-clause-fits : goal.returns-else-self-before_end-clause-fits
returns-else-self-before_end-clause-fits g c =
    let n = g.E.Extent.extent in
    let i = c.self.invariant in
    let w = subst (λ (v : Stretch). slot n v.front v.count + free_run n v ≤ n) c.self.view_is (free-within n (record { front = c.self.inside.start; count = c.self.inside.len }) i.0 i.1) in
    omega (arith, c.places.ensures)
