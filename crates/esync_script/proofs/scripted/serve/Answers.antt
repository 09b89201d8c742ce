use Rattle.esync_script.proofs.scripted.serve.Goals as goal

pub returns : goal.returns
returns g c object registered new = rw (new _ c.begin.ensures).1 at (rw (new _ c.begin.ensures).0 at c.play.ensures)
