use Rattle.std.proofs.Common.{sym, subst}
use Rattle.std.specs.Prelude.{slice_get}
use Rattle.esync_tasks.specs.RunQueue.{IsOutside}
use Rattle.esync_tasks.specs.Counted.{IsCounted}
use Rattle.esync_tasks.proofs.Orderly.{counted_mark}
use Rattle.esync_tasks.proofs.run_queue.RunQueue.mark.Given as given
use Rattle.esync_tasks.proofs.run_queue.RunQueue.mark.Goals as goal

invariant : (g : given.Over) (c : goal.After-put g) → IsCounted g.row.N c.put.new.self.places c.self.inside.queue.items c.self.inside.left
invariant g c =
    let outside = subst (λ t. IsOutside (slice_get t.states c.args.task)) (sym c.self.view_is) c.requires.before in
    rw c.put.ensures (counted_mark _ _ _ _ c.args.task _ c.self.invariant outside c.requires.after)

pub invariant_of-self : goal.invariant_of-self
invariant_of-self g c = invariant g c

pub returns-clause-orderly : goal.returns-clause-orderly
returns-clause-orderly g c = (invariant g c).orderly
