use Rattle.esync_base.proofs.Rings.{new_ring}
use Rattle.esync_base.proofs.deque.Deque.new_at.Goals as goal

pub invariant_of-result : goal.invariant_of-result
invariant_of-result g c = rw c.new.ensures (new_ring g.row.N c.args.start c.requires).0

pub returns-clause-items : goal.returns-clause-items
returns-clause-items g c = rw c.new.ensures (new_ring g.row.N c.args.start c.requires).1
