use Rattle.std.proofs.Common.{◌≡◌}
use Rattle.std.specs.List.{range_with_len}
use Rattle.esync_tasks.proofs.run_queue.RunQueue.new.Given as goal

abbrev pub invariant-loop-task : goal.invariant-loop-task
invariant-loop-task g l = l.queue.items ≡ range_with_len 0 l.task
