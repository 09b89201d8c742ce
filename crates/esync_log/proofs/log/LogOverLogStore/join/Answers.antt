use Rattle.std.specs.Prelude.{Some, is_some, slice_set}
use Rattle.std.proofs.lemmas.List.Sums.{count_by-le-length}
use Rattle.esync_log.specs.LogLaws.{free_below}
use Rattle.std.proofs.Common.{arith}
use Rattle.esync_log.proofs.Logged.{log_join}
use Rattle.esync_log.proofs.log.LogOverLogStore.join.Goals as goal

pub invariant_of-self : goal.invariant_of-self
invariant_of-self g c =
    let a = c.self.inside in
    let found = c.in-Some.ensures in
    rw (c.put.ensures) (log_join g.H.Holds.capacity g.P.Places.extent (g.H.Holds.held a.held).messages (g.H.Holds.held a.held).counts a.next (g.P.Places.numbers a.positions) a.subscribers c.self.invariant c.in-Some.place found.found.free)

pub put-requires : goal.put-requires
put-requires g c = (omega (arith, free_below (g.P.Places.numbers c.self.inside.positions) c.in-Some.place c.in-Some.ensures.found.free, c.self.invariant.places))

pub overflow_add-self : goal.overflow_add-self
overflow_add-self g c =
    let a = c.self.inside in
    let joined = log_join g.H.Holds.capacity g.P.Places.extent (g.H.Holds.held a.held).messages (g.H.Holds.held a.held).counts a.next (g.P.Places.numbers a.positions) a.subscribers c.self.invariant c.in-Some.place c.in-Some.ensures.found.free in
    omega (arith, joined.live, joined.places, count_by-le-length is_some (slice_set (g.P.Places.numbers a.positions) c.in-Some.place (Some a.next)), c.in-Some.ensures.room)
