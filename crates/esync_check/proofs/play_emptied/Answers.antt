use Rattle.esync_check.proofs.play_emptied.Goals as goal

pub returns : goal.returns
returns g c = rw c.requires at c.play_bytes.ensures
