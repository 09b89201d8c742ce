use Rattle.std.proofs.Common.{◌≡◌, ◌-◌, ◌+◌, suc, set, ◌∙◌, sym, ap, subst, arith, length, length-set, get_or}
use Rattle.std.specs.Prelude.{Some, None}
use Rattle.esync_base.specs.Ring.{next, slot}
use Rattle.esync_base.specs.Places.{closed, HoldsBehind}
use Rattle.esync_base.proofs.Places.{next-within}
use Rattle.esync_base.proofs.Rings.{gap_free, gap_held, set_or_not}
use Rattle.esync_base.proofs.deque.close.Goals as goal

pub take-item-requires : goal.take-item-requires
take-item-requires g c =
    let n = g.row.N in
    let l = c.loop-moved in
    let w = next-within n l.gap in
    let below = l.invariant.below in
    let more = c.loop-moved-test.true in
    (c.requires-raw.1.1.0, (rw c.behind-next.ensures (omega (arith, w, below)), rw c.behind-next.ensures (l.invariant.held 0 (omega (arith, more)))))

pub put-requires : goal.put-requires
put-requires g c =
    let l = c.loop-moved in
    (c.requires-raw.1.1.0, (l.invariant.below, rw c.take-item.ensures.places (set_or_not l.row c.behind-next.result l.gap l.invariant.empty)))

pub loop-moved-preserved : goal.loop-moved-preserved
loop-moved-preserved g c =
    let n = g.row.N in
    let l = c.loop-moved in
    let i = l.invariant in
    let j = next n l.gap in
    let k = c.args.count - (l._moved + 1) in
    let within = next-within n l.gap in
    let fewer = c.requires.fewer in
    let test = c.loop-moved-test.true in
    let more : c.args.count - l._moved ≡ suc k = omega arith in
    let v = Some c.take-item.result in
    let item : get_or l.row j None ≡ v = rw c.behind-next.ensures at c.take-item.ensures.item in
    let row : c.put.new.self ≡ set (set l.row j None) l.gap v =
    c.put.ensures ∙ ap (λ p. set p l.gap v) c.take-item.ensures.places ∙ ap (λ p. set (set l.row p None) l.gap v) c.behind-next.ensures in
    let held : HoldsBehind n l.row l.gap (suc k) = rw more at i.held in
    record {
      rest = ap (λ p. closed n p c.behind-next.result k) row
          ∙ ap (λ p. closed n (set (set l.row j None) l.gap v) p k) c.behind-next.ensures
          ∙ ap (λ w. closed n (set (set l.row j None) l.gap w) j k) (sym item)
          ∙ sym (ap (closed n l.row l.gap) more)
          ∙ i.rest;
      place = c.behind-next.ensures ∙ ap (next n) i.place ∙ ap (slot n c.args.gap) (let e : suc l._moved ≡ l._moved + 1 = omega arith in e);
      below = rw c.behind-next.ensures (omega (arith, within, i.below));
      long = ap length row ∙ length-set (set l.row j None) l.gap v ∙ length-set l.row j None ∙ i.long;
      empty = rw (row, c.behind-next.ensures) (gap_free n l.row l.gap k i.below (omega arith) i.long i.empty held v);
      held = subst (λ p. HoldsBehind n c.put.new.self p k) (sym c.behind-next.ensures) (subst (λ p. HoldsBehind n p j k) (sym row) (gap_held n l.row l.gap k i.below (omega arith) i.long i.empty held v));
    }
