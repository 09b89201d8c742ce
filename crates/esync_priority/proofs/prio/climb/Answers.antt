use Rattle.std.proofs.Common.{◌≡◌, ◌≢◌, ◌-◌, ◌/◌, ◌<◌, length, Some, None, true, sym, ◌∙◌, get_or, arith}
use Rattle.esync_priority.specs.Heap.{above_in_place, IsChild, MovesPlace}
use Rattle.esync_priority.proofs.Counts.{halved, last_level}
use Rattle.esync_priority.proofs.Heap.{risen, risen_below, settled}
use Rattle.esync_priority.proofs.Moves.{moves_on, moves_further, at_target, at_others, hole_moves}
use Rattle.esync_priority.proofs.Places.{place-one_way, place-ties}
use Rattle.esync_priority.proofs.prio.climb.Goals as goal

pub returns-then-not-is_above-clause-cost : goal.returns-then-not-is_above-clause-cost
returns-then-not-is_above-clause-cost g c =
    let asked = c.is_above.ensures.counted in
    last_level c.args.comparisons.now c.loop-place.comparisons c.is_above.new.comparisons c.loop-place.place c.args.start
    c.loop-place.invariant.more (omega (arith, asked)) (omega (arith, asked)) (omega arith) c.loop-place.invariant.few

pub returns-clause-heap : goal.returns-clause-heap
returns-clause-heap g c =
    settled (above_in_place g.K.Kind.above) None c.loop-place.row c.loop-place.place (Some c.args.item.now) c.loop-place.invariant.inside c.loop-place.invariant.heap c.loop-place.invariant.below (λ p h. absurd (omega arith))

pub loop-place-preserved : goal.loop-place-preserved
loop-place-preserved g c =
    let above = above_in_place g.K.Kind.above in
    let laws = g.met.K.Kind in
    let asked = c.is_above.ensures.counted in
    let row = c.loop-place.row in
    let new = c.shift.new.row in
    let item = Some c.args.item.now in
    let place = c.loop-place.place in
    let parent = (place - 1) / 2 in
    let inside : place < length row = c.loop-place.invariant.inside in
    let above_it : parent < length row = omega arith in
    let apart : place ≢ parent = omega arith in
    let child : IsChild row parent place = record { behind = omega arith; within = omega arith; inside = inside } in
    let over : above item (get_or row parent None) ≡ true = sym c.is_above.ensures.value ∙ c.if-not-is_above.false in
    let under = place-one_way g.K.Kind.above laws.irreflexive laws.transitive item (get_or row parent None) over in
    let ties = place-ties g.K.Kind.above laws.ties in
    let there = at_target row new place parent None None inside c.shift.ensures in
    let stays = at_others row new place parent None None c.shift.ensures in
    let moved : MovesPlace row new place parent = moves_on row new place parent None None inside above_it apart c.shift.ensures in
    record {
      inside = omega (arith, moved.length_kept);
      hole = hole_moves row new place parent inside above_it apart c.loop-place.invariant.hole c.shift.ensures;
      heap = risen above None row new place parent moved.length_kept there stays ties child c.loop-place.invariant.heap;
      below = risen_below above None row new place parent moved.length_kept there stays ties item child under c.loop-place.invariant.heap;
      moved = moves_further c.args.row.now row new c.args.start place parent c.loop-place.invariant.moved moved;
      more = omega (arith, c.loop-place.invariant.more, asked);
      few = halved c.args.comparisons.now c.loop-place.comparisons c.is_above.new.comparisons place parent c.args.start
          c.loop-place.invariant.more (omega (arith, asked)) (omega (arith, asked)) (omega arith) c.loop-place.invariant.few;
    }
