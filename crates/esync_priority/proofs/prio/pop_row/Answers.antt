use Rattle.std.proofs.Common.{◌≡◌, ◌+◌, sym, ◌∙◌, ap, arith}
use Rattle.esync_rows.specs.Place.{places_in}
use Rattle.esync_priority.proofs.Items.{none_yet}
use Rattle.esync_priority.proofs.prio.pop_row.Goals as goal

pub unreachable-requires : goal.unreachable-requires
unreachable-requires g c =
    let none : c.args.last + 1 ≡ 0 = none_yet g.row.N c.args.row.now (c.args.last + 1) c.requires.heap.items (sym c.row.view_is ∙ ap (λ cells. places_in g.row.N cells) c.in_default.is) in
    omega (arith, none)
