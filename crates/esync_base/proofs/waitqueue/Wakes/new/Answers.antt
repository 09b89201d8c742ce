use Rattle.esync_base.proofs.Lists.{row_new, items_of-replicate}
use Rattle.esync_base.proofs.waitqueue.Wakes.new.Goals as goal

pub invariant_of-result : goal.invariant_of-result
invariant_of-result g c = row_new g.row.K

pub returns : goal.returns
returns g c = items_of-replicate g.row.K
