use Rattle.std.proofs.Common.{◌∷◌, arith, rules}
use Rattle.esync_tasks.specs.Counted.{IsCounted}
use Rattle.esync_tasks.proofs.Counting.{below_length}
use Rattle.esync_tasks.proofs.Orderly.{counted_take, first_queued, others_set}
use Rattle.esync_tasks.proofs.run_queue.RunQueue.take.Given as given
use Rattle.esync_tasks.proofs.run_queue.RunQueue.take.Goals as goal

pub put-requires : goal.put-requires
put-requires g c =
    let i = rw c.in_ok-task.ensures.item at c.self.invariant in
    (search rules, below_length _ _ _ (first_queued _ _ _ _ _ i))

before : (g : given.Over) (c : goal.After-put g) → IsCounted g.row.N c.self.inside.states.places (c.in_ok-task.task ∷ c.pop_front.new.self.items) c.self.inside.left
before g c = rw c.in_ok-task.ensures.item at c.self.invariant

invariant : (g : given.Over) (c : goal.After-put g) → IsCounted g.row.N c.put.new.self.places c.pop_front.new.self.items c.self.inside.left
invariant g c = rw c.put.ensures (counted_take _ _ _ _ _ (before g c))

pub invariant_of-self-2 : goal.invariant_of-self-2
invariant_of-self-2 g c = invariant g c

pub returns-clause-below : goal.returns-clause-below
returns-clause-below g c = omega (arith, below_length c.self.inside.states.places c.in_ok-task.task _ (first_queued _ _ _ _ _ (before g c)), (before g c).orderly.count)

pub returns-clause-orderly : goal.returns-clause-orderly
returns-clause-orderly g c = (invariant g c).orderly

pub returns-clause-others : goal.returns-clause-others
returns-clause-others g c = rw (← c.self.view_is, c.put.ensures) (others_set c.self.inside.states.places c.self.inside.queue.items c.pop_front.new.self.items c.in_ok-task.task _)
