use Rattle.std.proofs.Common.{refl}
use Rattle.esync_pubsub.proofs.pubsub.PubSubOver.try_publish.Goals as goal

pub returns-in-Ok : goal.returns-in-Ok
returns-in-Ok g c = record {
  log = rw (c.tell_news.ensures.state, ← c.self.view_is) c.in-Ok.ensures;
  rest = rw (c.tell_news.ensures.state, c.has_subscribers-has_subscribers.ensures, ← c.self.view_is) refl;
  wakes = rw (← c.self.view_is) (rw c.has_subscribers-has_subscribers.ensures at c.tell_news.ensures.wakes);
}
