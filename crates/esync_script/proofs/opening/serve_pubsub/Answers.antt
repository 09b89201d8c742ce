use Rattle.esync_script.proofs.opening.serve_pubsub.Goals as goal

pub returns : goal.returns
returns g c = rw (c.places.ensures.value, c.subscribers.ensures.value, c.publishers.ensures.value) at c.serve_log.ensures
