use Rattle.esync_pubsub.proofs.pubsub.machine.EventsPrimitive.leaves.Goals as goal

pub returns : goal.returns
returns g c = rw (← c.self.view_is) (c.leaves.ensures c.self.inside.state.log)
