use Rattle.std.proofs.Common.{arith, ◌≡◌, ◌+◌, suc, ap, subst, length, vec_len, IsOk}
use Rattle.std.specs.Prelude.{All}
use Rattle.std.proofs.lemmas.List.Elements.{All-tail}
use Rattle.esync_tasks.proofs.runtime.slot.slots_of.Goals as goal

pub loop-task-preserved : goal.loop-task-preserved
loop-task-preserved g c =
    let step = c.in-Some.ensures.steps.0 in
    let live = subst (All g.F.Future.can_poll) step c.loop-task.invariant.2 in
    let shorter : length c.loop-task.task-iterator.rest.items ≡ suc (length c.next.new.self.rest.items) = ap length step in
    let ok : IsOk c.push.result = c.push.ensures.succeeds (omega (arith, shorter)) in
    let longer : vec_len c.push.new.self ≡ vec_len c.loop-task.slots + 1 = rw ok at c.push.ensures.len in
    (tt, tt, All-tail g.F.Future.can_poll _ _ live, omega (arith, shorter, longer), omega (arith, c.push.ensures.capacity))
