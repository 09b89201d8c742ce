use Rattle.esync_pubsub.proofs.pubsub.PubSubOver.is_full.Goals as goal

pub returns : goal.returns
returns g c = rw (← c.self.view_is) c.is_full.ensures.answer
