use Rattle.std.proofs.Common.{arith}
use Rattle.esync_guards.proofs.mutex.shared.Mutex.poll_lock.Goals as goal

pub step-new-requires : goal.step-new-requires
step-new-requires g c = c.step-guard.ensures 1 (omega arith)

pub poll_turn-requires : goal.poll_turn-requires
poll_turn-requires g c = (c.step-guard.ensures 1 (omega arith), c.step-new.ensures)

pub step-wake-requires : goal.step-wake-requires
step-wake-requires g c = c.step-guard.ensures 1 (omega arith)
