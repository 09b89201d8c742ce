use Rattle.std.proofs.Common.{inr, ap, ◌∙◌, sym}
use Rattle.esync_machine.specs.Wakings.{Handed}
use Rattle.esync_pipe.specs.PipeRules.{poll_hands}
use Rattle.esync_pipe.proofs.Kept.{polled_keeps, polled_quiet, polled_owed, not_refused}
use Rattle.esync_pipe.proofs.pipe.machine.PipeRowsOverPrimitive.poll.Goals as goal

pub returns-clause-exact : goal.returns-clause-exact
returns-clause-exact g c =
    let old = c.self.inside.state in
    let told = not_refused g.R.ByteStore.capacity old.ring c.turn.new.state.ring c.turn.result.answer c.turn.result.place old.slots (poll_hands g.W.PartialEq.eq g.R.ByteStore.capacity old.ring old.slots c.args.held c.args.waker) c.args.held c.turn.ensures.allowed in
    let e = rw c.from_waker.ensures at c.turn.ensures.exact in
    rw (← c.self.view_is) (e.0 ∙ sym (ap (λ (h : Handed _ _). h.wakes) told), e.1 ∙ sym (ap (λ (h : Handed _ _). h.after) told))

pub returns-clause-quiet : goal.returns-clause-quiet
returns-clause-quiet g c =
    let old = c.self.inside.state in
    let new = c.turn.new.state in
    let e = rw c.from_waker.ensures at c.turn.ensures.exact in
    rw (← c.self.view_is) (λ own pending same stays among. polled_quiet g.W.PartialEq.eq g.R.ByteStore.capacity old.ring new.ring old.slots c.turn.result.answer c.turn.result.place c.args.waker c.args.held c.turn.ensures.allowed c.turn.new.wakes new.slots e pending same stays among)

pub returns-clause-registered : goal.returns-clause-registered
returns-clause-registered g c pending =
    let old = c.self.inside.state in
    let new = c.turn.new.state in
    let e = rw c.from_waker.ensures at c.turn.ensures.exact in
    let t = polled_owed g.W.PartialEq.eq g.R.ByteStore.capacity old.ring new.ring old.slots c.turn.result.answer c.turn.result.place c.args.waker g.met.W.Eq.laws.refl c.args.held c.turn.ensures.allowed c.turn.new.wakes new.slots e pending in
    inr (rw t.1 t.2)

pub returns-clause-kept : goal.returns-clause-kept
returns-clause-kept g c =
    let old = c.self.inside.state in
    let new = c.turn.new.state in
    let e = rw c.from_waker.ensures at c.turn.ensures.exact in
    rw (← c.self.view_is) (λ other v f apart owed. polled_keeps g.W.PartialEq.eq g.R.ByteStore.capacity old.ring new.ring old.slots c.turn.result.answer c.turn.result.place c.args.waker c.args.held c.turn.ensures.allowed c.turn.new.wakes new.slots e other v owed)
