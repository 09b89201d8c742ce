use Rattle.std.proofs.Common.{[], length, refl, sym, ap, subst, ◌∙◌}
use Rattle.std.proofs.lemmas.List.{length-map}
use Rattle.esync_history.specs.Todo.{IsOrderly, fresh}
use Rattle.esync_history.proofs.Answering.{enough_new}
use Rattle.esync_history.proofs.Starting.{standing_new}
use Rattle.esync_history.proofs.executor.Executor.new.Goals as goal

pub invariant_of-result : goal.invariant_of-result
invariant_of-result g c = record {
  orderly = subst (λ ts. IsOrderly ts c.queue_all.new.queue) c.deref-3.ensures.value c.queue_all.ensures.orderly;
  standing = standing_new g.M.Machine.semantics g.M.Awaits.REQS c.args.machine (λ acts. acts.items) c.args.tasks.items c.deref.result.now c.in_ok-tasks.tasks.items c.deref-3.result.now c.queue_all.new.queue.numbers c.deref.ensures.value (c.if-not-are_suited.ensures.0 refl) c.in_ok-tasks.ensures c.deref-3.ensures.value (ap (λ q. q.numbers) c.queue_all.ensures.queue);
  places =
      ap (λ a. length a.replies) c.in_ok-replies.ensures
      ∙ length-map c.deref-2.result.now (λ acts. [])
      ∙ ap (λ xs. length xs) c.deref-2.ensures.value
      ∙ sym (ap (λ ts. length ts) c.in_ok-tasks.ensures ∙ length-map c.args.tasks.items (λ acts. fresh acts.items));
  room = enough_new (λ acts. acts.items) c.args.tasks.items c.deref-2.result.now c.in_ok-replies.replies.room c.in_ok-tasks.tasks.items c.deref-2.ensures.value (ap (λ a. a.room) c.in_ok-replies.ensures) c.in_ok-tasks.ensures;
}
