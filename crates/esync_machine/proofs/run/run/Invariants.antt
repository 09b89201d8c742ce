use Rattle.std.proofs.Common.{◌≡◌, List, ◌++◌, ◌+◌, ◌≤◌, length}
use Rattle.std.specs.Prelude.{vec_len, vec_capacity}
use Rattle.std.specs.Vec.Iter.{into_iter_items}
use Rattle.esync_machine.specs.Histories.{History}
use Rattle.esync_machine.proofs.run.run.Given as goal

abbrev pub invariant-loop-command : goal.invariant-loop-command
invariant-loop-command g l = record {
  so_far : (done : List _) × (l.fn.commands.items ≡ done ++ into_iter_items l.rest) × History g.M.Machine.semantics l.fn.machine done l.replies.items l.machine;
  room : vec_len l.replies + length (into_iter_items l.rest) ≤ vec_capacity l.replies;
}

abbrev pub decreases-loop-command : goal.decreases-loop-command
decreases-loop-command g l = length (into_iter_items l.rest)
