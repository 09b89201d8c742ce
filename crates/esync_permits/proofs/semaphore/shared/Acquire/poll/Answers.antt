use Rattle.std.proofs.Common.{arith}
use Rattle.esync_permits.proofs.semaphore.shared.Acquire.poll.Goals as goal

pub step-new-requires : goal.step-new-requires
step-new-requires g c = c.step-guard.ensures 1 (omega arith)

pub poll-requires : goal.poll-requires
poll-requires g c = (c.step-guard.ensures 1 (omega arith), (rw c.step-new.ensures (omega arith), rw (c.self.view_is) c.requires))

pub step-wake-requires : goal.step-wake-requires
step-wake-requires g c = c.step-guard.ensures 1 (omega arith)
