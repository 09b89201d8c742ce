use Rattle.std.proofs.Common.{take, arith}
use Rattle.esync_base.proofs.Stretches.{laid-rest, length-laid}
use Rattle.esync_base.proofs.ring_buffer.ByteRingOver.consume.Goals as goal

pub returns-clause-items : goal.returns-clause-items
returns-clause-items g c =
    let a = c.self.inside in
    let h = rw (← c.self.view_is) at c.requires in
    let l = length-laid g.E.Extent.extent (take g.E.Extent.extent a.row.bytes) a.ring c.self.invariant.1 in
    rw (c.pop.ensures, ← c.self.view_is) (laid-rest g.E.Extent.extent (take g.E.Extent.extent a.row.bytes) a.ring c.args.n c.self.invariant.1 (omega arith))
