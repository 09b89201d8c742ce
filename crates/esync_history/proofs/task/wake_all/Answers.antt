use Rattle.std.proofs.Common.{None, sym, ap, add-one, ◌∙◌}
use Rattle.esync_history.specs.Todo.{put_back}
use Rattle.esync_history.proofs.Turning.{woken_more, woken_same}
use Rattle.esync_history.proofs.task.wake_all.Goals as goal
use Rattle.esync_history.proofs.task.wake_all.Goals.{in-Some, in_default}

pub loop-waker-preserved : goal.loop-waker-preserved
loop-waker-preserved g c =
    let tasks = c.args.tasks.now in
    let row = c.args.wakers.now in
    let i = c.loop-waker.waker-index in
    let l = c.loop-waker-test.true in
    elim c.match-waker.branch [
      | in-Some w ↦ record {
        room = ap (λ q. q.room) (w.queue-is ∙ w.put_back.ensures) ∙ c.loop-waker.invariant.room;
        numbers =
            rw add-one (ap (λ q. q.numbers) (w.queue-is ∙ w.put_back.ensures)
            ∙ ap (λ k. put_back tasks c.loop-waker.queue.numbers k) (ap (λ x. x.0) w.in-Some.field-0-is)
            ∙ ap (λ ns. put_back tasks ns w.in-Some.field-0.0) c.loop-waker.invariant.numbers
            ∙ sym (woken_more tasks c.args.queue.now.numbers row i None w.in-Some.field-0 l w.in-Some.is));
      }
      | in_default w ↦ record {
        room = ap (λ q. q.room) w.queue-is ∙ c.loop-waker.invariant.room;
        numbers =
            rw add-one (ap (λ q. q.numbers) w.queue-is
            ∙ c.loop-waker.invariant.numbers
            ∙ sym (woken_same tasks c.args.queue.now.numbers row i None l w.in_default.is));
      }
    ]
