use Rattle.std.proofs.Common.{length}
use Rattle.esync_priority.proofs.Items.{hole_at_end, heap_at_end, pushed_heap, pushed_items}
use Rattle.esync_priority.proofs.prio.push_into.Goals as goal

pub rise-requires-clause-hole : goal.rise-requires-clause-hole
rise-requires-clause-hole g c = hole_at_end g.K.Kind.above (length c.args.row.now) c.args.row.now c.args.last c.requires.heap c.requires.inside

pub rise-requires-clause-heap : goal.rise-requires-clause-heap
rise-requires-clause-heap g c = heap_at_end g.K.Kind.above (length c.args.row.now) c.args.row.now c.args.last c.requires.heap c.requires.inside

pub returns-clause-heap : goal.returns-clause-heap
returns-clause-heap g c =
    pushed_heap g.K.Kind.above (length c.args.row.now) c.args.row.now c.args.last c.requires.heap c.requires.inside c.args.item c.rise.new.row c.rise.ensures.permutation c.rise.ensures.heap

pub returns-clause-items : goal.returns-clause-items
returns-clause-items g c =
    pushed_items g.K.Kind.above (length c.args.row.now) c.args.row.now c.args.last c.requires.heap c.requires.inside c.args.item c.rise.new.row c.rise.ensures.permutation
