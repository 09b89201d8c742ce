use Rattle.std.proofs.Common.{arith, sym, ◌∙◌, length, ◌≤◌, ◌-◌}
use Rattle.esync_log.specs.LogLaws.{place_below}
use Rattle.esync_log.proofs.Logged.{log_some, log_lowers, log_leave, log_left}
use Rattle.esync_log.proofs.log.LogOverLogStore.leave.Goals as goal

pub overflow_sub-self : goal.overflow_sub-self
overflow_sub-self g c =
    let a = c.self.inside in
    log_some g.H.Holds.capacity g.P.Places.extent (g.H.Holds.held a.held).messages (g.H.Holds.held a.held).counts a.next (g.P.Places.numbers a.positions) a.subscribers c.self.invariant c.args.place c.in-Some.position (sym c.get.ensures ∙ c.in-Some.is)

pub lower_from-requires : goal.lower_from-requires
lower_from-requires g c =
    let a = c.self.inside in
    let o = rw (← c.self.view_is) at c.first_unread-from.ensures in
    λ k h l.
    (let b : c.in-Some.position - (a.next - length (g.H.Holds.held a.held).messages) ≤ k = omega (arith, o, h) in
    log_lowers g.H.Holds.capacity g.P.Places.extent (g.H.Holds.held a.held).messages (g.H.Holds.held a.held).counts a.next (g.P.Places.numbers a.positions) a.subscribers c.self.invariant c.args.place c.in-Some.position (sym c.get.ensures ∙ c.in-Some.is) k b l)

pub invariant_of-self : goal.invariant_of-self
invariant_of-self g c =
    let a = c.self.inside in
    let o = rw (← c.self.view_is) at c.first_unread-from.ensures in
    let f = c.lower_from.ensures in
    rw (c.free.ensures.messages, c.free.ensures.counts, c.lower_from.ensures.messages, c.put.ensures)
    (log_leave g.H.Holds.capacity g.P.Places.extent (g.H.Holds.held a.held).messages (g.H.Holds.held a.held).counts a.next (g.P.Places.numbers a.positions) a.subscribers c.self.invariant c.args.place c.in-Some.position (sym c.get.ensures ∙ c.in-Some.is)
    (g.H.Holds.held c.lower_from.new.self).counts c.first_unread-from.result o f.length f.before f.behind)

pub returns : goal.returns
returns g c =
    let a = c.self.inside in
    let o = rw (← c.self.view_is) at c.first_unread-from.ensures in
    let f = c.lower_from.ensures in
    rw (c.free.ensures.messages, c.lower_from.ensures.messages, c.put.ensures, ← c.self.view_is)
    (log_left g.H.Holds.capacity g.P.Places.extent (g.H.Holds.held a.held).messages (g.H.Holds.held a.held).counts a.next (g.P.Places.numbers a.positions) a.subscribers c.self.invariant c.args.place c.in-Some.position (sym c.get.ensures ∙ c.in-Some.is)
    (g.H.Holds.held c.lower_from.new.self).counts c.first_unread-from.result o f.length f.before f.behind)

pub put-requires : goal.put-requires
put-requires g c = omega (arith, place_below (g.P.Places.numbers c.self.inside.positions) c.args.place (rw (← c.self.view_is) at c.requires), c.self.invariant.places)
