use Rattle.esync_pubsub.proofs.pubsub.PubSubOver.available.Goals as goal

pub returns : goal.returns
returns g c = rw (← c.self.view_is, ← c.id.view_is) c.available.ensures
