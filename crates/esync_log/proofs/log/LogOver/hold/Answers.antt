use Rattle.std.proofs.Common.{arith}
use Rattle.esync_log.proofs.Logged.{log_hold, live_number}
use Rattle.esync_log.proofs.log.LogOver.hold.Goals as goal

pub invariant_of-self : goal.invariant_of-self
invariant_of-self g c =
    let a = c.self.inside in
    let l = c.self.invariant in
    rw (c.push.ensures.messages, c.push.ensures.counts) (log_hold g.H.Holds.capacity g.P.Places.extent (g.H.Holds.held a.held).messages (g.H.Holds.held a.held).counts a.next (g.P.Places.numbers a.positions) a.subscribers l c.args.message (live_number (g.P.Places.numbers a.positions) a.subscribers l.live (rw (← c.self.view_is) at c.requires.live)))

pub overflow_add-self : goal.overflow_add-self
overflow_add-self g c = let n = rw (← c.self.view_is) at c.requires.number in omega (arith, n)
