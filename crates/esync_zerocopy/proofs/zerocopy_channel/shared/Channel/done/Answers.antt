use Rattle.std.proofs.Common.{arith}
use Rattle.esync_zerocopy.proofs.zerocopy_channel.shared.Channel.done.Goals as goal

pub step-new-requires : goal.step-new-requires
step-new-requires g c = c.step-guard.ensures 1 (omega arith)

pub done_if-requires : goal.done_if-requires
done_if-requires g c = (c.step-guard.ensures 1 (omega arith), c.step-new.ensures)

pub step-wake-requires : goal.step-wake-requires
step-wake-requires g c = c.step-guard.ensures 1 (omega arith)
