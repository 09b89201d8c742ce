use Rattle.std.proofs.Common.{◌-◌, sym, subst, arith}
use Rattle.std.specs.Prelude.{slice_get}
use Rattle.esync_tasks.specs.RunQueue.{IsOutside, IsTurn}
use Rattle.esync_tasks.specs.Counted.{IsCounted}
use Rattle.esync_tasks.proofs.Orderly.{counted_end, running_is_outside, others_set}
use Rattle.esync_tasks.proofs.run_queue.RunQueue.end.Given as given
use Rattle.esync_tasks.proofs.run_queue.RunQueue.end.Goals as goal

outside : (g : given.Over) (c : goal.After-put g) → IsOutside (slice_get c.self.inside.states.places c.args.task)
outside g c = running_is_outside _ (subst (λ t. IsTurn (slice_get t.states c.args.task)) (sym c.self.view_is) c.requires)

pub overflow_sub-self : goal.overflow_sub-self
overflow_sub-self g c = omega (arith, (counted_end _ _ _ _ c.args.task c.self.invariant (outside g c)).0)

invariant : (g : given.Over) (c : goal.After-self-1 g) → IsCounted g.row.N c.put.new.self.places c.self.inside.queue.items (c.self.inside.left - 1)
invariant g c =
    let turn = subst (λ t. IsTurn (slice_get t.states c.args.task)) (sym c.self.view_is) c.requires in
    rw c.put.ensures ((counted_end _ _ _ _ c.args.task c.self.invariant (running_is_outside _ turn)).1)

pub invariant_of-self : goal.invariant_of-self
invariant_of-self g c = invariant g c

pub returns-clause-orderly : goal.returns-clause-orderly
returns-clause-orderly g c = (invariant g c).orderly

pub returns-clause-others : goal.returns-clause-others
returns-clause-others g c = rw (← c.self.view_is, c.put.ensures) (others_set c.self.inside.states.places c.self.inside.queue.items c.self.inside.queue.items c.args.task _)
