use Rattle.std.proofs.Common.{ap}
use Rattle.esync_cells.specs.Watch.{Watching}
use Rattle.esync_cells.proofs.watch.WatchOver.receivers.Goals as goal

pub returns : goal.returns
returns g c = record {
  value = ap (λ (s : Watching _ _). s.receivers) c.self.view_is;
  within = c.self.invariant;
}
