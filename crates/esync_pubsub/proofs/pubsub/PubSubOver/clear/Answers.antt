use Rattle.std.proofs.Common.{refl}
use Rattle.esync_pubsub.proofs.pubsub.PubSubOver.clear.Goals as goal

pub returns : goal.returns
returns g c = record {
  state = rw (← c.self.view_is, c.clear.ensures, c.wake.ensures.emptied) refl;
  wakes = rw (← c.self.view_is) c.wake.ensures.handed_out;
  at_most = c.wake.ensures.at_most;
}
