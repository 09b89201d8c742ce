use Rattle.std.proofs.Common.{rules}
use Rattle.esync_cells.proofs.watch.WatchOver.send.Goals as goal

pub returns : goal.returns
returns g c = record {
  room = search rules;
  exhausted = tt;
  returned = tt;
  state = rw (← c.self.view_is) c.tell.ensures.state;
  wakes = rw (← c.self.view_is) c.tell.ensures.wakes;
  at_most = c.tell.ensures.at_most;
}
