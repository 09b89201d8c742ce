use Rattle.esync_script.proofs.play_bytes.Goals as goal

pub returns : goal.returns
returns g c = rw c.new-lines.ensures at c.play_lines.ensures
