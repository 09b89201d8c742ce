use Rattle.esync_pubsub.proofs.pubsub.PubSubOver.reader_count.Goals as goal

pub returns : goal.returns
returns g c = record {
  held = rw (← c.self.view_is) c.reader_count.ensures.held;
  none = rw (← c.self.view_is) c.reader_count.ensures.none;
}
