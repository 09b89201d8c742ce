use Rattle.std.proofs.lemmas.Result.{IfOk-from_err}
use Rattle.esync_cells.proofs.watch.machine.WatchedKept.kept.Goals as goal

pub returns-in_err-kept : goal.returns-in_err-kept
returns-in_err-kept g c = IfOk-from_err c.from_residual.result _ c.from_residual.ensures.0

pub returns-in_err-kept-2 : goal.returns-in_err-kept-2
returns-in_err-kept-2 g c = IfOk-from_err c.from_residual-in_err-kept-2.result _ c.from_residual-in_err-kept-2.ensures.0

pub invariant_of-result : goal.invariant_of-result
invariant_of-result g c = rw (c.in_ok-kept.ensures, c.in_ok-kept-2.ensures) c.self.invariant

pub returns : goal.returns
returns g c = rw (c.in_ok-kept.ensures, c.in_ok-kept-2.ensures) c.self.view_is
