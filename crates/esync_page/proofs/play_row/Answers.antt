use Rattle.esync_page.proofs.play_row.Goals as goal

pub returns : goal.returns
returns g c = rw c.requires at c.play_bytes.ensures
