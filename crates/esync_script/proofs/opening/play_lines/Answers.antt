use Rattle.std.proofs.Common.{inl}
use Rattle.esync_script.proofs.opening.play_lines.Goals as goal

pub returns-in-Ok : goal.returns-in-Ok
returns-in-Ok g c =
    inl (_, _, _, _, _, _, _, c.in-Ok.ensures.ok, rw c.in-Ok.ensures.number at c.serve_opening-played.ensures, c.close.ensures)
