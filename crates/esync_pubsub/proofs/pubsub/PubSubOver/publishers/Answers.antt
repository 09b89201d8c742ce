use Rattle.std.proofs.Common.{refl}
use Rattle.esync_pubsub.proofs.pubsub.PubSubOver.publishers.Goals as goal

pub returns : goal.returns
returns g c = record {
  value = rw (← c.self.view_is) refl;
  within = c.self.invariant.0;
}
