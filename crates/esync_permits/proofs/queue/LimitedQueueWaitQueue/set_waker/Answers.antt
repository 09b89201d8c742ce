use Rattle.esync_permits.proofs.Entries.{length-with_waker}
use Rattle.esync_permits.proofs.queue.LimitedQueueWaitQueue.set_waker.Goals as goal

pub invariant_of-self : goal.invariant_of-self
invariant_of-self g c =
    let as_many = length-with_waker c.args.number c.args.waker (g.Q.WaitQueue.entries c.self.inside.queue) in
    (c.self.invariant.0, rw (c.set_waker.ensures, as_many) c.self.invariant.1, c.self.invariant.2)
