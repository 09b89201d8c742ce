use Rattle.std.proofs.Common.{◌-◌, ◌∙◌, ap}
use Rattle.std.specs.Prelude.{◌==◌, slice_index}
use Rattle.esync_log.proofs.Logged.{last_test}
use Rattle.esync_log.proofs.log.LogOver.is_last.Goals as goal

pub returns : goal.returns
returns g c =
    let a = c.self.inside in
    let at = rw (← c.self.view_is) at c.requires.live in
    let from = rw (← c.self.view_is) at c.requires.from in
    let held = rw (← c.self.view_is) at c.requires.held in
    let o = rw (← c.self.view_is) at c.oldest.ensures in
    rw (← c.self.view_is) (ap (λ n. n == 1) (c.count.ensures ∙ ap (λ x. slice_index (g.H.Holds.held a.held).counts (c.args.position - x)) o) ∙ last_test g.H.Holds.capacity g.P.Places.extent (g.H.Holds.held a.held).messages (g.H.Holds.held a.held).counts a.next (g.P.Places.numbers a.positions) a.subscribers c.self.invariant c.args.place c.args.position at from held)
