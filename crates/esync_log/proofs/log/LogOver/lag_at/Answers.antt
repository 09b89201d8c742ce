use Rattle.std.proofs.Common.{arith}
use Rattle.esync_log.specs.LogLaws.{place_below}
use Rattle.std.specs.Prelude.{None, slice_index_or}
use Rattle.esync_log.specs.Log.{number_of}
use Rattle.esync_log.proofs.Logged.{log_position, log_lag}
use Rattle.esync_log.proofs.log.LogOver.lag_at.Goals as goal

pub invariant_of-self : goal.invariant_of-self
invariant_of-self g c =
    let a = c.self.inside in
    let live = rw (← c.self.view_is) at c.requires.live in
    let lags = rw (← c.self.view_is) at c.requires.lags in
    let within = rw (← c.self.view_is) at c.requires.within in
    let at = log_position g.H.Holds.capacity g.P.Places.extent (g.H.Holds.held a.held).messages (g.H.Holds.held a.held).counts a.next (g.P.Places.numbers a.positions) a.subscribers c.self.invariant c.args.place live in
    rw (c.put.ensures) (log_lag g.H.Holds.capacity g.P.Places.extent (g.H.Holds.held a.held).messages (g.H.Holds.held a.held).counts a.next (g.P.Places.numbers a.positions) a.subscribers c.self.invariant c.args.place (number_of (slice_index_or (g.P.Places.numbers a.positions) c.args.place None)) c.args.number at lags within)

pub put-requires : goal.put-requires
put-requires g c = omega (arith, place_below (g.P.Places.numbers c.self.inside.positions) c.args.place (rw (← c.self.view_is) at c.requires.live), c.self.invariant.places)
