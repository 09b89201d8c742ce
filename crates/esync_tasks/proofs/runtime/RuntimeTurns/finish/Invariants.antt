use Rattle.std.proofs.Common.{◌≡◌, ◌+◌, ◌≤◌, vec_len, length}
use Rattle.std.specs.Prelude.{vec_capacity}
use Rattle.esync_tasks.proofs.runtime.RuntimeTurns.finish.Given as goal

abbrev pub invariant-loop-slot : goal.invariant-loop-slot
invariant-loop-slot g l =
    (goal.iterator-loop-slot g).can_next l.slot-iterator
    × (goal.iterator-loop-slot g).is_finite l.slot-iterator
    × (vec_len l.outputs + length l.slot-iterator.rest.items ≡ g.row.N)
    × (g.row.N ≤ vec_capacity l.outputs)
