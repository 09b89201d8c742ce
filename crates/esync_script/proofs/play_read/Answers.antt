use Rattle.esync_script.proofs.play_read.Goals as goal

pub returns-in-Ok : goal.returns-in-Ok
returns-in-Ok g c = rw c.in-Ok.ensures.ok at c.play_lines.ensures
