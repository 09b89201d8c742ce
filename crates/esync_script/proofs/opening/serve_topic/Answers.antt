use Rattle.esync_script.proofs.opening.serve_topic.Goals as goal

pub returns : goal.returns
returns g c = rw c.requires.registrations at (rw c.requires.object at c.play.ensures)
