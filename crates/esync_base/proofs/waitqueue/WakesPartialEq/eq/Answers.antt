use Rattle.std.proofs.Common.{Some, ◌∙◌}
use Rattle.std.specs.Cmp.Derive.Mapped.{pointwise-map}
use Rattle.esync_base.proofs.waitqueue.WakesPartialEq.eq.Goals as goal

pub returns : goal.returns
returns g c = c.eq.ensures ∙ rw (c.filled.ensures, c.filled-2.ensures) (pointwise-map Some _ c.args.self.now c.args.other.now)
