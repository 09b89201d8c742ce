use Rattle.esync_script.proofs.opening.serve_fair.Goals as goal

pub returns : goal.returns
returns g c = rw c.places.ensures.value at c.serve_queue.ensures
