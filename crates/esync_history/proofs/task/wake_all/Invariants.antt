use Rattle.std.proofs.Common.{◌≡◌, take}
use Rattle.esync_base.specs.Rows.{items_of}
use Rattle.esync_history.specs.Todo.{woken}
use Rattle.esync_history.proofs.task.wake_all.Given as goal

abbrev pub invariant-loop-waker : goal.invariant-loop-waker
invariant-loop-waker g l = record {
  room : l.queue.room ≡ l.initial.queue.room;
  numbers : l.queue.numbers ≡ woken l.tasks l.initial.queue.numbers (items_of (take l.waker-index l.wakers));
}
