use Rattle.std.proofs.Common.{◌≡◌, ◌+◌, ◌≤◌, vec_len, length}
use Rattle.std.specs.Prelude.{vec_capacity, All}
use Rattle.esync_tasks.proofs.runtime.slot.slots_of.Given as goal

abbrev pub invariant-loop-task : goal.invariant-loop-task
invariant-loop-task g l =
    (goal.iterator-loop-task g).can_next l.task-iterator
    × (goal.iterator-loop-task g).is_finite l.task-iterator
    × All g.F.Future.can_poll l.task-iterator.rest.items
    × (vec_len l.slots + length l.task-iterator.rest.items ≡ vec_len l.fn.tasks)
    × (vec_len l.fn.tasks ≤ vec_capacity l.slots)
