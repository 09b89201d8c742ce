use Rattle.std.proofs.Common.{arith}
use Rattle.esync_permits.proofs.Entries.{length-left_by}
use Rattle.esync_permits.proofs.queue.LimitedQueueWaitQueue.remove.Goals as goal

pub invariant_of-self : goal.invariant_of-self
invariant_of-self g c =
    let fewer = length-left_by c.args.number (g.Q.WaitQueue.entries c.self.inside.queue) in
    (c.self.invariant.0, rw c.remove.ensures (omega (arith, fewer, c.self.invariant.1)), c.self.invariant.2)
