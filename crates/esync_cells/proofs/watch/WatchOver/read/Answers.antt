use Rattle.std.proofs.Common.{refl, ap}
use Rattle.esync_cells.specs.Watch.{Watching}
use Rattle.esync_cells.proofs.Handed.{handed_on}
use Rattle.esync_cells.proofs.watch.WatchOver.read.Goals as goal

pub returns-in_err-value : goal.returns-in_err-value
returns-in_err-value g c = rw (handed_on c.from_residual.result c.in_err-value.field-0.0 c.from_residual.ensures) (record {
  answer = c.in_err-value.ensures;
  seen = refl;
})

pub returns-in-Some : goal.returns-in-Some
returns-in-Some g c = record {
  answer = rw c.in-Some.is at c.in_ok-value.ensures;
  seen = ap (λ (s : Watching _ _). s.version) c.self.view_is;
}

pub returns-in-None : goal.returns-in-None
returns-in-None g c = record {
  answer = rw c.in-None.is at c.in_ok-value.ensures;
  seen = rw c.if-marks.true (ap (λ (s : Watching _ _). s.version) c.self.view_is);
}

pub returns-in-None-2 : goal.returns-in-None-2
returns-in-None-2 g c = record {
  answer = rw c.in-None.is at c.in_ok-value.ensures;
  seen = rw c.if-marks.false refl;
}
