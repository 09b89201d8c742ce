use Rattle.std.proofs.Common.{◌≡◌, ◌<◌, ◌++◌, ◌∷◌, [], length, sym, ap, ◌∙◌, arith}
use Rattle.std.proofs.lemmas.List.FromFn.{length-range_with_len}
use Rattle.esync_tasks.specs.Counted.{IsCounted}
use Rattle.esync_tasks.proofs.Orderly.{counted_new, range_more, pushed}
use Rattle.esync_tasks.proofs.run_queue.RunQueue.new.Given as given
use Rattle.esync_tasks.proofs.run_queue.RunQueue.new.Goals as goal

pub loop-task-preserved : goal.loop-task-preserved
loop-task-preserved g c =
    let room : length c.loop-task.queue.items < g.row.N = omega (arith, ap length c.loop-task.invariant, length-range_with_len 0 c.loop-task.task) in
    pushed _ _ _ _ _ room c.push_back.ensures.full c.push_back.ensures.ok ∙ (ap (λ xs. xs ++ c.loop-task.task ∷ []) c.loop-task.invariant ∙ sym (range_more c.loop-task.task))

invariant : (g : given.Over) (c : goal.After-new g) → IsCounted g.row.N c.new.result.places c.loop-task.queue.items g.row.N
invariant g c =
    let all : c.loop-task.task ≡ g.row.N = omega arith in
    rw (c.new.ensures, c.loop-task.invariant, all) (counted_new g.row.N)

pub invariant_of-result : goal.invariant_of-result
invariant_of-result g c = invariant g c

pub returns-clause-orderly : goal.returns-clause-orderly
returns-clause-orderly g c = (invariant g c).orderly
