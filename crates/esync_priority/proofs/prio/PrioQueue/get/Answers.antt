use Rattle.std.proofs.Common.{◌<◌, None, ap, length, sym, arith}
use Rattle.esync_base.specs.Rows.{items_of}
use Rattle.esync_priority.proofs.Items.{held_below, item_of_row}
use Rattle.esync_priority.proofs.PrioParts.{places_fit}
use Rattle.esync_priority.proofs.prio.PrioQueue.get.Goals as goal

pub get-requires : goal.get-requires
get-requires g c =
    let row = c.self.inside.row in
    let r = c.self.invariant.items in
    let some : c.args.i < c.self.inside.len = omega (arith, c.requires, ap length c.self.view_is, r.count) in
    (places_fit g.row.T g.row.K g.row.N g.K.Kind c.requires-raw.1.1.1.0, (omega (arith, some, r.count, r.fits), held_below g.row.N row c.self.inside.len c.args.i None r some))

pub returns : goal.returns
returns g c =
    rw (← c.self.view_is) (sym (item_of_row g.row.N c.self.inside.row c.self.inside.len c.args.i c.get.result.now c.self.invariant.items c.get.ensures.item))
