use Rattle.std.proofs.Common.{◌<◌, None, arith}
use Rattle.esync_priority.proofs.Items.{held_below}
use Rattle.esync_priority.proofs.PrioParts.{places_fit}
use Rattle.esync_priority.proofs.prio.PrioQueueDebug.fmt.Goals as goal

pub get-requires : goal.get-requires
get-requires g c =
    let r = c.self.invariant.items in
    let i = c.loop-i.i in
    let inside : i < c.self.inside.len = c.loop-i-test.true in
    (places_fit g.row.T g.row.K g.row.N g.K.Kind c.requires-raw.1.1.1.1, (omega (arith, inside, r.count, r.fits), held_below g.row.N c.self.inside.row c.self.inside.len i None r inside))
