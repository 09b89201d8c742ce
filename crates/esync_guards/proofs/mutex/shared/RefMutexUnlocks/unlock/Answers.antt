use Rattle.std.proofs.Common.{arith}
use Rattle.esync_guards.proofs.mutex.shared.RefMutexUnlocks.unlock.Goals as goal

pub step-new-requires : goal.step-new-requires
step-new-requires g c = c.step-guard.ensures 1 (omega arith)

pub unlock-requires : goal.unlock-requires
unlock-requires g c = (c.step-guard.ensures 1 (omega arith), rw c.step-new.ensures (omega arith))

pub step-wake-requires : goal.step-wake-requires
step-wake-requires g c = c.step-guard.ensures 1 (omega arith)
