use Rattle.std.proofs.Common.{refl}
use Rattle.esync_pubsub.proofs.pubsub.PubSubOver.to_read.Goals as goal

pub returns : goal.returns
returns g c = rw (← c.is_subscriber.ensures, c.if-not-is_subscriber.false) c.available.ensures

pub returns-then-not-is_subscriber : goal.returns-then-not-is_subscriber
returns-then-not-is_subscriber g c = rw (← c.is_subscriber.ensures, c.if-not-is_subscriber.true) refl
