use Rattle.std.proofs.Common.{◌<◌, ◌≤◌, ◌+◌, sym, subst, arith}
use Rattle.esync_base.specs.Ring.{slot}
use Rattle.esync_base.specs.RingBuffer.{Stretch, free_run}
use Rattle.esync_base.proofs.Stretches.{free-within, begins-within}
use Rattle.esync_base.proofs.ring_buffer.RingBufferOver.push_bufs.Goals as goal

pub run-requires : goal.run-requires
run-requires g c =
    let i = c.self.invariant in
    let a = c.self.inside in
    let w : a.end + free_run g.E.Extent.extent c.args.self.now < 18446744073709551616 = rw i.2 (subst (λ (v : Stretch). slot g.E.Extent.extent v.front v.count + free_run g.E.Extent.extent c.args.self.now < 18446744073709551616) (sym c.self.view_is) c.free_run-first.ensures.fits) in
    omega (arith, c.free_run-first.ensures.value)

pub returns-clause-within : goal.returns-clause-within
returns-clause-within g c =
    let a = c.self.inside in
    let i = c.self.invariant in
    let w : a.end + free_run g.E.Extent.extent c.args.self.now ≤ g.E.Extent.extent = rw i.2 (subst (λ (v : Stretch). slot g.E.Extent.extent a.start a.len + free_run g.E.Extent.extent v ≤ g.E.Extent.extent) c.self.view_is (free-within g.E.Extent.extent (record { front = a.start; count = a.len }) i.0 i.1)) in
    let b = begins-within a.end c.free_run-first.result in
    omega (arith, c.free_run-first.ensures.value, c.run.ensures.start, c.run.ensures.end)
