use Rattle.std.proofs.Common.{◌<◌, None, arith}
use Rattle.esync_base.specs.Rows.{items_of}
use Rattle.esync_priority.proofs.Items.{held_below, item_of_row, top_of_heap}
use Rattle.esync_priority.proofs.PrioParts.{places_fit}
use Rattle.esync_priority.proofs.prio.PrioQueue.peek.Goals as goal

pub get-requires : goal.get-requires
get-requires g c =
    let row = c.self.inside.row in
    let r = c.self.invariant.items in
    let some : 0 < c.self.inside.len = omega (arith, c.if-self-eq0.false) in
    (places_fit g.row.T g.row.K g.row.N g.K.Kind c.requires-raw.1.1.1, (omega (arith, some, r.count, r.fits), held_below g.row.N row c.self.inside.len 0 None r some))

pub returns-else-self-eq0-clause-top : goal.returns-else-self-eq0-clause-top
returns-else-self-eq0-clause-top g c =
    let laws = g.met.K.Kind in
    let row = c.self.inside.row in
    let x = c.get.result.now in
    rw (← c.self.view_is) (top_of_heap g.K.Kind.above laws.irreflexive laws.ties (items_of row) x c.self.invariant.heap (item_of_row g.row.N row c.self.inside.len 0 x c.self.invariant.items c.get.ensures.item))
