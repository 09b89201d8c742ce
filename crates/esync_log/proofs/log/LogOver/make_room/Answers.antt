use Rattle.std.proofs.Common.{◌∙◌, length, arith, sym, ap, List}
use Rattle.std.proofs.lemmas.List.{length-drop}
use Rattle.esync_log.specs.Log.{Log}
use Rattle.esync_log.proofs.Logged.{full_tells, log_pop, room_none}
use Rattle.esync_log.proofs.log.LogOver.make_room.Goals as goal

pub invariant_of-self : goal.invariant_of-self
invariant_of-self g c =
    let a = c.self.inside in
    let held = rw (← c.self.view_is) at c.is_full.ensures.answer in
    let full = full_tells (length (g.H.Holds.held a.held).messages) g.H.Holds.capacity (sym c.if-is_full.true ∙ held) in
    rw (c.pop.ensures.messages, c.pop.ensures.counts) (log_pop g.H.Holds.capacity g.P.Places.extent (g.H.Holds.held a.held).messages (g.H.Holds.held a.held).counts a.next (g.P.Places.numbers a.positions) a.subscribers c.self.invariant (omega (arith, full, c.self.invariant.room)))

pub returns-then-is_full : goal.returns-then-is_full
returns-then-is_full g c =
    let a = c.self.inside in
    let held = rw (← c.self.view_is) at c.is_full.ensures.answer in
    let within = rw (← c.self.view_is) at c.is_full.ensures.within in
    let full = full_tells (length (g.H.Holds.held a.held).messages) g.H.Holds.capacity (sym c.if-is_full.true ∙ held) in
    record {
      state = (
          let f : List g.row.H-Message.Denot → Log g.row.H-Message.Denot = λ h. record { held = h; next = a.next; positions = (g.P.Places.numbers a.positions) } in
          rw (c.pop.ensures.messages, ← c.self.view_is) (ap f (sym (room_none g.H.Holds.capacity (g.H.Holds.held a.held).messages full))));
      room = rw c.pop.ensures.messages (omega (arith, length-drop 1 (g.H.Holds.held a.held).messages, within, c.self.invariant.room));
    }
