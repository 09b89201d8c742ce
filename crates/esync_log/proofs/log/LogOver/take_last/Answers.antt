use Rattle.std.specs.Prelude.{is_some}
use Rattle.esync_log.specs.LogLaws.{place_below}
use Rattle.std.proofs.Common.{◌≡◌, ◌-◌, ◌∙◌, ap, length, arith, rules}
use Rattle.std.specs.Prelude.{slice_get}
use Rattle.esync_log.proofs.Logged.{has_first, last_one, log_front, log_take_last, log_took_last}
use Rattle.esync_log.proofs.log.LogOver.take_last.Goals as goal

pub invariant_of-self : goal.invariant_of-self
invariant_of-self g c =
    let a = c.self.inside in
    let at = rw (← c.self.view_is) at c.requires.live in
    let from = rw (← c.self.view_is) at c.requires.from in
    let held = rw (← c.self.view_is) at c.requires.held in
    let last = rw (← c.self.view_is) at c.requires.last in
    let one = last_one g.H.Holds.capacity g.P.Places.extent (g.H.Holds.held a.held).messages (g.H.Holds.held a.held).counts a.next (g.P.Places.numbers a.positions) a.subscribers c.self.invariant c.args.place c.args.position at from held last in
    rw (c.take_front.ensures.messages, c.take_front.ensures.counts, c.put.ensures) (log_take_last g.H.Holds.capacity g.P.Places.extent (g.H.Holds.held a.held).messages (g.H.Holds.held a.held).counts a.next (g.P.Places.numbers a.positions) a.subscribers c.self.invariant c.args.place c.args.position at from held one)

pub returns : goal.returns
returns g c =
    let a = c.self.inside in
    let at = rw (← c.self.view_is) at c.requires.live in
    let from = rw (← c.self.view_is) at c.requires.from in
    let held = rw (← c.self.view_is) at c.requires.held in
    let last = rw (← c.self.view_is) at c.requires.last in
    record {
      message = (
          let front = log_front g.H.Holds.capacity g.P.Places.extent (g.H.Holds.held a.held).messages (g.H.Holds.held a.held).counts a.next (g.P.Places.numbers a.positions) a.subscribers c.self.invariant c.args.place c.args.position at from held (last_one g.H.Holds.capacity g.P.Places.extent (g.H.Holds.held a.held).messages (g.H.Holds.held a.held).counts a.next (g.P.Places.numbers a.positions) a.subscribers c.self.invariant c.args.place c.args.position at from held last) in
          let zero : c.args.position - (a.next - length (g.H.Holds.held a.held).messages) ≡ 0 = omega (arith, front) in
          rw (← c.self.view_is) (ap (λ k. slice_get (g.H.Holds.held a.held).messages k) zero ∙ c.in-Some.ensures.item));
      state = (
          let one = last_one g.H.Holds.capacity g.P.Places.extent (g.H.Holds.held a.held).messages (g.H.Holds.held a.held).counts a.next (g.P.Places.numbers a.positions) a.subscribers c.self.invariant c.args.place c.args.position at from held last in
          rw (c.take_front.ensures.messages, c.put.ensures, ← c.self.view_is) (log_took_last g.H.Holds.capacity g.P.Places.extent (g.H.Holds.held a.held).messages (g.H.Holds.held a.held).counts a.next (g.P.Places.numbers a.positions) a.subscribers c.self.invariant c.args.place c.args.position at from held one));
    }

pub put-requires : goal.put-requires
put-requires g c =
    let at = rw (← c.self.view_is) at c.requires.live in
    (omega (arith, place_below (g.P.Places.numbers c.self.inside.positions) c.args.place (ap is_some at), c.self.invariant.places))

pub unreachable-requires : goal.unreachable-requires
unreachable-requires g c =
    let from = rw (← c.self.view_is) at c.requires.from in
    let held = rw (← c.self.view_is) at c.requires.held in
    has_first (g.H.Holds.held c.self.inside.held).messages c.in_default.ensures.item (omega (arith, from, held))

pub overflow_add-position : goal.overflow_add-position
overflow_add-position g c = (let held = rw (← c.self.view_is) at c.requires.held in search rules)
