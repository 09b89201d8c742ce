use Rattle.std.proofs.Common.{sym, ◌∙◌, ap}
use Rattle.esync_rows.specs.Place.{places_in}
use Rattle.esync_priority.proofs.Items.{none_yet, first_heap, first_items}
use Rattle.esync_priority.proofs.prio.push_row.Goals as goal

pub returns-in-None-clause-heap : goal.returns-in-None-clause-heap
returns-in-None-clause-heap g c =
    let r = c.requires.heap in
    let none = none_yet g.row.N c.args.row.now c.args.last r.items (sym c.row.view_is ∙ ap (λ cells. places_in g.row.N cells) c.in-None.is) in
    rw (c.put.ensures, c.row.view_is) (first_heap g.K.Kind.above g.row.N c.args.row.now c.args.last c.args.item r c.requires.inside none)

pub returns-in-None-clause-items : goal.returns-in-None-clause-items
returns-in-None-clause-items g c =
    rw (c.put.ensures, c.row.view_is) (first_items g.row.N c.args.row.now c.args.last c.args.item c.requires.heap.items c.requires.inside)
