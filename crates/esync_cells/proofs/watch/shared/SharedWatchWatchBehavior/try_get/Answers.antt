use Rattle.std.proofs.Common.{refl}
use Rattle.esync_cells.proofs.watch.shared.SharedWatchWatchBehavior.try_get.Goals as goal

pub returns : goal.returns
returns g c = (_, _, _, refl, c.read.ensures.answer, c.read.ensures.seen)
