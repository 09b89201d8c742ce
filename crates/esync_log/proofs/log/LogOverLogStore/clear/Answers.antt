use Rattle.esync_log.proofs.Logged.{log_clear}
use Rattle.esync_log.proofs.log.LogOverLogStore.clear.Goals as goal

pub invariant_of-self : goal.invariant_of-self
invariant_of-self g c =
    let a = c.self.inside in
    rw c.clear.ensures (log_clear g.H.Holds.capacity g.P.Places.extent (g.H.Holds.held a.held).messages (g.H.Holds.held a.held).counts a.next (g.P.Places.numbers a.positions) a.subscribers c.self.invariant)
