use Rattle.std.proofs.Common.{◌≡◌, take}
use Rattle.esync_history.specs.Todo.{unended, IsOrderly}
use Rattle.esync_history.proofs.task.queue_all.Given as goal

abbrev pub invariant-loop-number : goal.invariant-loop-number
invariant-loop-number g l = record {
  room : l.queue.room ≡ l.initial.queue.room;
  numbers : l.queue.numbers ≡ unended (take l.number l.tasks);
  orderly : IsOrderly l.tasks l.queue;
}
