use Rattle.std.proofs.Common.{◌≡◌, ◌++◌, ◌∷◌, [], ap, sym, subst}
use Rattle.std.specs.Prelude.{slice_get}
use Rattle.esync_tasks.specs.RunQueue.{IsOutside, queued_last}
use Rattle.esync_tasks.specs.Counted.{IsCounted}
use Rattle.esync_tasks.proofs.Orderly.{counted_last, outside_room, pushed}
use Rattle.esync_tasks.proofs.run_queue.RunQueue.queue_last.Given as given
use Rattle.esync_tasks.proofs.run_queue.RunQueue.queue_last.Goals as goal

outside : (g : given.Over) (c : goal.After-push_back g) → IsOutside (slice_get c.self.inside.states.places c.args.task)
outside g c = subst (λ t. IsOutside (slice_get t.states c.args.task)) (sym c.self.view_is) c.requires

at_end : (g : given.Over) (c : goal.After-push_back g) → c.push_back.new.self.items ≡ c.self.inside.queue.items ++ c.args.task ∷ []
at_end g c = pushed _ _ _ _ _ (outside_room _ _ _ _ c.args.task c.self.invariant (outside g c)) c.push_back.ensures.full c.push_back.ensures.ok

invariant : (g : given.Over) (c : goal.After-push_back g) → IsCounted g.row.N c.put.new.self.places c.push_back.new.self.items c.self.inside.left
invariant g c = rw (c.put.ensures, at_end g c) (counted_last _ _ _ _ c.args.task c.self.invariant (outside g c))

pub invariant_of-self : goal.invariant_of-self
invariant_of-self g c = invariant g c

pub returns-clause-queued : goal.returns-clause-queued
returns-clause-queued g c = rw (c.put.ensures, at_end g c) (ap (λ t. queued_last t c.args.task) c.self.view_is)

pub returns-clause-orderly : goal.returns-clause-orderly
returns-clause-orderly g c = (invariant g c).orderly
