use Rattle.esync_base.proofs.Lists.{items_of-replicate}
use Rattle.esync_priority.proofs.Items.{new_heap}
use Rattle.esync_priority.proofs.prio.PrioQueue.new.Goals as goal

pub invariant_of-result : goal.invariant_of-result
invariant_of-result g c = rw c.new.ensures (new_heap g.K.Kind.above g.row.N)

pub returns : goal.returns
returns g c = rw c.new.ensures (items_of-replicate g.row.N)
