use Rattle.std.proofs.Common.{◌∙◌, sym, arith, rules}
use Rattle.std.specs.Prelude.{Some, None}
use Rattle.std.proofs.lemmas.List.{append-nil}
use Rattle.esync_base.proofs.Lists.{hand_next, hand_all, hand_within}
use Rattle.esync_base.proofs.waitqueue.multi_waker.WakerRegistrations.wake.Goals.{in-Some, in_default}
use Rattle.esync_base.proofs.waitqueue.multi_waker.WakerRegistrations.wake.Goals as goal

pub loop-i-preserved : goal.loop-i-preserved
loop-i-preserved g c = elim c.match-get.branch [
  | in-Some w ↦ w.wakes-is ∙ w.push.ensures ∙ hand_next c.args.wakes.now (g.L.WakerList.wakers c.self.inside.wakers) c.loop-i.wakes c.loop-i.i (Some w.in-Some.waker) (sym c.get.ensures ∙ w.in-Some.is) c.loop-i.invariant
  | in_default w ↦ w.wakes-is ∙ sym (append-nil c.loop-i.wakes) ∙ hand_next c.args.wakes.now (g.L.WakerList.wakers c.self.inside.wakers) c.loop-i.wakes c.loop-i.i None (sym c.get.ensures ∙ w.in_default.is) c.loop-i.invariant
]

pub push-requires : goal.push-requires
push-requires g c =
    (search rules, omega (arith, hand_within c.args.wakes.now (g.L.WakerList.wakers c.self.inside.wakers) c.loop-i.wakes c.loop-i.i c.loop-i.invariant, c.requires, c.loop-i-test.true, c.len-len.ensures.value, c.len-len.ensures.within))

pub returns-then-len-gt0-clause-handed_out : goal.returns-then-len-gt0-clause-handed_out
returns-then-len-gt0-clause-handed_out g c =
    rw (← c.self.view_is) (hand_all c.args.wakes.now (g.L.WakerList.wakers c.self.inside.wakers) c.loop-i.wakes c.loop-i.i (omega (arith, c.loop-i-test.false, c.len-len.ensures.value)) c.loop-i.invariant)

pub returns-then-len-gt0-clause-at_most : goal.returns-then-len-gt0-clause-at_most
returns-then-len-gt0-clause-at_most g c =
    omega (arith, hand_within c.args.wakes.now (g.L.WakerList.wakers c.self.inside.wakers) c.loop-i.wakes c.loop-i.i c.loop-i.invariant, c.len-len.ensures.value, c.len-len.ensures.within)

pub returns-else-len-gt0-clause-handed_out : goal.returns-else-len-gt0-clause-handed_out
returns-else-len-gt0-clause-handed_out g c =
    rw (← c.self.view_is) (hand_all c.args.wakes.now (g.L.WakerList.wakers c.self.inside.wakers) c.loop-i.wakes c.loop-i.i (omega (arith, c.loop-i-test.false, c.len-len.ensures.value)) c.loop-i.invariant)

pub returns-else-len-gt0-clause-at_most : goal.returns-else-len-gt0-clause-at_most
returns-else-len-gt0-clause-at_most g c =
    omega (arith, hand_within c.args.wakes.now (g.L.WakerList.wakers c.self.inside.wakers) c.loop-i.wakes c.loop-i.i c.loop-i.invariant, c.len-len.ensures.value, c.len-len.ensures.within)
