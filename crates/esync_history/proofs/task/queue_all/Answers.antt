use Rattle.std.proofs.Common.{sym, ap, ◌∙◌, add-one}
use Rattle.esync_history.specs.Todo.{put_back}
use Rattle.esync_history.proofs.Kept.{unended_more, orderly_back}
use Rattle.esync_history.proofs.task.queue_all.Goals as goal

pub loop-number-preserved : goal.loop-number-preserved
loop-number-preserved g c =
    let tasks = c.args.tasks.now in
    let k = c.loop-number.number in
    let i = c.loop-number.invariant in
    record {
      room = ap (λ q. q.room) c.put_back.ensures ∙ i.room;
      numbers = rw add-one (ap (λ q. q.numbers) c.put_back.ensures ∙ ap (λ ns. put_back tasks ns k) i.numbers ∙ sym (unended_more tasks k c.loop-number-test.true));
      orderly = orderly_back tasks c.loop-number.queue c.put_back.new.queue k i.orderly c.put_back.ensures;
    }
