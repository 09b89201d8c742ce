use Rattle.std.proofs.Common.{arith}
use Rattle.esync_base.proofs.waitqueue.atomic_waker.GenericAtomicWaker.wake.Goals as goal

pub new-wakes-requires : goal.new-wakes-requires
new-wakes-requires g c = c.guard-state.ensures 1 (omega arith)

pub wake-answer-requires : goal.wake-answer-requires
wake-answer-requires g c = (c.guard-state.ensures 1 (omega arith), rw c.new-wakes.ensures (omega arith))

pub wake-requires : goal.wake-requires
wake-requires g c = c.guard-state.ensures 1 (omega arith)
