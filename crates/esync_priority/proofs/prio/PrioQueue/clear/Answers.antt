use Rattle.esync_base.proofs.Lists.{items_of-replicate}
use Rattle.esync_priority.proofs.Items.{new_heap}
use Rattle.esync_priority.proofs.prio.PrioQueue.clear.Goals as goal

pub invariant_of-self : goal.invariant_of-self
invariant_of-self g c = rw c.empty.ensures (new_heap g.K.Kind.above g.row.N)

pub returns : goal.returns
returns g c = rw c.empty.ensures (items_of-replicate g.row.N)
