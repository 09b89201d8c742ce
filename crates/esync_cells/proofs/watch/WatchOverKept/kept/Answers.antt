use Rattle.std.proofs.lemmas.Result.{IfOk-from_err}
use Rattle.esync_cells.proofs.watch.WatchOverKept.kept.Goals as goal

pub returns-in_err-kept : goal.returns-in_err-kept
returns-in_err-kept g c = IfOk-from_err c.from_residual.result _ c.from_residual.ensures.0

pub returns : goal.returns
returns g c = rw c.in_ok-kept.ensures c.self.view_is
