use Rattle.std.proofs.Common.{arith, ap}
use Rattle.esync_history.proofs.Lines.{below_popped, line_popped}
use Rattle.esync_history.proofs.queue.Queue.pop.Goals as goal

pub index_mut-requires : goal.index_mut-requires
index_mut-requires c =
    let a = c.self.inside in
    omega (arith, a.queued.ok.0, below_popped _ _ _ _ c.in_ok-number.number c.self.invariant c.in_ok-number.ensures.items)

pub invariant_of-self-2 : goal.invariant_of-self-2
invariant_of-self-2 c =
    line_popped _ _ _ _ _ c.in_ok-number.number c.self.invariant c.in_ok-number.ensures.items c.pop_front.ensures.capacity

pub returns-clause-below : goal.returns-clause-below
returns-clause-below c =
    omega (arith, ap (λ q. q.room) c.self.view_is, below_popped _ _ _ _ c.in_ok-number.number c.self.invariant c.in_ok-number.ensures.items)
