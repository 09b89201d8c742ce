use Rattle.std.proofs.Common.{refl, sym}
use Rattle.std.proofs.lemmas.List.{append-nil}
use Rattle.esync_pubsub.proofs.pubsub.PubSubOver.publish_immediate.Goals as goal

pub returns-in-Ok : goal.returns-in-Ok
returns-in-Ok g c = record {
  log = rw (c.tell_news.ensures.state, ← c.self.view_is) c.in-Ok.ensures;
  rest = rw (c.tell_news.ensures.state, c.has_subscribers-has_subscribers.ensures, ← c.self.view_is) refl;
  wakes = rw (← c.self.view_is) (rw c.has_subscribers-has_subscribers.ensures at c.tell_news.ensures.wakes);
}

pub returns-in-Err : goal.returns-in-Err
returns-in-Err g c = record {
  log = rw (← c.self.view_is) c.in-Err.ensures;
  rest = rw (← c.self.view_is) refl;
  wakes = sym (append-nil c.args.wakes.now);
}
