use Rattle.std.specs.Prelude.{is_some}
use Rattle.esync_log.specs.LogLaws.{place_below}
use Rattle.std.proofs.Common.{ap, ◌<◌, ◌-◌, arith, length, rules, subst, sym}
use Rattle.std.specs.Prelude.{slice_index}
use Rattle.esync_log.proofs.Logged.{shared_more, log_take, log_took}
use Rattle.esync_log.proofs.log.LogOver.take_clone.Goals as goal

pub lower-requires : goal.lower-requires
lower-requires g c =
    let a = c.self.inside in
    let at = rw (← c.self.view_is) at c.requires.live in
    let from = rw (← c.self.view_is) at c.requires.from in
    let held = rw (← c.self.view_is) at c.requires.held in
    let o = rw (← c.self.view_is) at c.oldest.ensures in
    let shared = rw (← c.self.view_is) at c.requires.shared in
    let more = shared_more g.H.Holds.capacity g.P.Places.extent (g.H.Holds.held a.held).messages (g.H.Holds.held a.held).counts a.next (g.P.Places.numbers a.positions) a.subscribers c.self.invariant c.args.place c.args.position at from held shared in
    let some : 0 < slice_index (g.H.Holds.held a.held).counts (c.args.position - (a.next - length (g.H.Holds.held a.held).messages)) = omega (arith, more) in
    record { place = omega (arith, o, held, from, c.self.invariant.numbered); some = subst (λ n. 0 < slice_index (g.H.Holds.held a.held).counts (c.args.position - n)) (sym o) some }

pub invariant_of-self : goal.invariant_of-self
invariant_of-self g c =
    let a = c.self.inside in
    let at = rw (← c.self.view_is) at c.requires.live in
    let from = rw (← c.self.view_is) at c.requires.from in
    let held = rw (← c.self.view_is) at c.requires.held in
    let o = rw (← c.self.view_is) at c.oldest.ensures in
    let shared = rw (← c.self.view_is) at c.requires.shared in
    rw (c.lower.ensures.messages, c.lower.ensures.counts, c.put.ensures, o) (log_take g.H.Holds.capacity g.P.Places.extent (g.H.Holds.held a.held).messages (g.H.Holds.held a.held).counts a.next (g.P.Places.numbers a.positions) a.subscribers c.self.invariant c.args.place c.args.position at from held (shared_more g.H.Holds.capacity g.P.Places.extent (g.H.Holds.held a.held).messages (g.H.Holds.held a.held).counts a.next (g.P.Places.numbers a.positions) a.subscribers c.self.invariant c.args.place c.args.position at from held shared))

pub returns : goal.returns
returns g c = record {
  ok = search rules;
  state = (
      let a = c.self.inside in
      let at = rw (← c.self.view_is) at c.requires.live in
      let from = rw (← c.self.view_is) at c.requires.from in
      let held = rw (← c.self.view_is) at c.requires.held in
      let o = rw (← c.self.view_is) at c.oldest.ensures in
      let shared = rw (← c.self.view_is) at c.requires.shared in
      rw (c.lower.ensures.messages, c.put.ensures, ← c.self.view_is) (log_took g.H.Holds.capacity g.P.Places.extent (g.H.Holds.held a.held).messages (g.H.Holds.held a.held).counts a.next (g.P.Places.numbers a.positions) a.subscribers c.self.invariant c.args.place c.args.position at from held (shared_more g.H.Holds.capacity g.P.Places.extent (g.H.Holds.held a.held).messages (g.H.Holds.held a.held).counts a.next (g.P.Places.numbers a.positions) a.subscribers c.self.invariant c.args.place c.args.position at from held shared)));
  refused = search rules;
  err = search rules;
}

pub message-requires : goal.message-requires
message-requires g c = (search rules)

pub put-requires : goal.put-requires
put-requires g c =
    let at = rw (← c.self.view_is) at c.requires.live in
    (omega (arith, place_below (g.P.Places.numbers c.self.inside.positions) c.args.place (ap is_some at), c.self.invariant.places))

pub overflow_add-position : goal.overflow_add-position
overflow_add-position g c = (let held = rw (← c.self.view_is) at c.requires.held in search rules)
