use Rattle.std.proofs.Common.{refl, sym}
use Rattle.std.proofs.lemmas.List.{append-nil}
use Rattle.esync_pubsub.proofs.pubsub.PubSubOver.tell_news.Goals as goal

pub returns-else-has_subscribers : goal.returns-else-has_subscribers
returns-else-has_subscribers g c = record {
  state = rw c.if-has_subscribers.false refl;
  wakes = rw c.if-has_subscribers.false (sym (append-nil c.args.wakes.now));
}

pub returns-then-has_subscribers : goal.returns-then-has_subscribers
returns-then-has_subscribers g c = record {
  state = rw (c.if-has_subscribers.true, ← c.self.view_is, c.wake.ensures.emptied) refl;
  wakes = rw (c.if-has_subscribers.true, ← c.self.view_is) c.wake.ensures.handed_out;
}
