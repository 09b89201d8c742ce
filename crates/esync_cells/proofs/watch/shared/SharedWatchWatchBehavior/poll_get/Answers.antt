use Rattle.std.proofs.Common.{refl}
use Rattle.esync_cells.proofs.watch.shared.SharedWatchWatchBehavior.poll_get.Goals as goal

pub returns : goal.returns
returns g c = (_, _, _, refl, c.poll.ensures.answer, c.poll.ensures.seen)

pub step-new-requires : goal.step-new-requires
step-new-requires g c = c.step-guard.ensures _ c.args.self.now.small

pub step-wake-requires : goal.step-wake-requires
step-wake-requires g c = c.step-guard.ensures _ c.args.self.now.small
