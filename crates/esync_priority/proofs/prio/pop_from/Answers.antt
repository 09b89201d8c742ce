use Rattle.std.proofs.Common.{◌+◌, ◌<◌, length, arith}
use Rattle.esync_priority.proofs.Items.{held_below, top_item, hole_on_top, heap_below_top, popped_heap, popped_items}
use Rattle.esync_priority.proofs.prio.pop_from.Goals as goal

pub take-item-requires : goal.take-item-requires
take-item-requires g c = held_below (length c.args.row.now) c.args.row.now (c.args.last + 1) c.args.last c.index-row-last.result c.requires.heap.items (omega arith)

pub take-top-requires : goal.take-top-requires
take-top-requires g c =
    let some : 0 < c.args.last = omega (arith, c.if-last-eq0.false) in
    rw c.take-item.ensures.empty
    (top_item g.K.Kind.above (length c.args.row.now) c.args.row.now c.args.last c.requires.heap c.take-item.result c.index-row-last.result c.take-item.ensures.item some c.index-row-0.result)

pub settle-requires-clause-hole : goal.settle-requires-clause-hole
settle-requires-clause-hole g c =
    let some : 0 < c.args.last = omega (arith, c.if-last-eq0.false) in
    rw (c.take-item.ensures.empty, c.take-top.ensures.empty)
    (hole_on_top g.K.Kind.above (length c.args.row.now) c.args.row.now c.args.last c.requires.heap c.take-item.result c.index-row-last.result c.take-item.ensures.item some)

pub settle-requires-clause-heap : goal.settle-requires-clause-heap
settle-requires-clause-heap g c =
    let some : 0 < c.args.last = omega (arith, c.if-last-eq0.false) in
    rw (c.take-item.ensures.empty, c.take-top.ensures.empty)
    (heap_below_top g.K.Kind.above (length c.args.row.now) c.args.row.now c.args.last c.requires.heap c.take-item.result c.index-row-last.result c.take-item.ensures.item some)

pub returns-clause-heap : goal.returns-clause-heap
returns-clause-heap g c =
    let some : 0 < c.args.last = omega (arith, c.if-last-eq0.false) in
    let moved = rw (c.take-item.ensures.empty, c.take-top.ensures.empty) at c.settle.ensures.permutation in
    rw c.take-item.ensures.empty
    (popped_heap g.K.Kind.above (length c.args.row.now) c.args.row.now c.args.last c.requires.heap c.take-item.result c.index-row-last.result c.take-item.ensures.item some c.settle.new.row moved c.settle.ensures.heap)

pub returns-clause-items : goal.returns-clause-items
returns-clause-items g c =
    let some : 0 < c.args.last = omega (arith, c.if-last-eq0.false) in
    let moved = rw (c.take-item.ensures.empty, c.take-top.ensures.empty) at c.settle.ensures.permutation in
    let top = rw c.take-item.ensures.empty at c.take-top.ensures.item in
    rw c.take-item.ensures.empty
    (popped_items g.K.Kind.above (length c.args.row.now) c.args.row.now c.args.last c.requires.heap c.take-item.result c.index-row-last.result c.take-item.ensures.item some c.settle.new.row moved c.take-top.result c.index-row-0.result top)
