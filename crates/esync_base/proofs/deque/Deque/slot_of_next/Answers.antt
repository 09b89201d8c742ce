use Rattle.std.proofs.Common.{arith}
use Rattle.esync_base.proofs.Stretches.{slot-within}
use Rattle.esync_base.proofs.deque.Deque.slot_of_next.Goals as goal

pub returns-clause-within : goal.returns-clause-within
returns-clause-within g c =
    let r = c.self.invariant in
    omega (arith, r.last, slot-within g.row.N c.self.inside.start _ r.first r.fits)
