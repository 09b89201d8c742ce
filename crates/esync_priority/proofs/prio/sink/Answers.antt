use Rattle.std.proofs.Common.{◌≡◌, ◌≢◌, ℕ, ◌+◌, ◌*◌, ◌<◌, Bool, List, Option, length, get_or, set, None, arith}
use Rattle.esync_priority.specs.Heap.{above_in_place, IsChild, IsHeapBut, IsHole, NoneAbove, MovesPlace}
use Rattle.esync_priority.proofs.Counts.{costs_more}
use Rattle.esync_priority.proofs.Heap.{sunk}
use Rattle.esync_priority.proofs.Moves.{moves_on, moves_further, at_target, at_others, hole_moves}
use Rattle.esync_priority.proofs.prio.sink.Goals as goal

-- what the loop keeps, but for the comparisons
record Sunk {A : Type 0} (above : Option A → Option A → Bool) (first row : List (Option A)) (place : ℕ) : Type 0 where
  inside : place < length row
  hole : IsHole row place
  heap : IsHeapBut above None row place
  moved : MovesPlace first row 0 place

down : {A : Type 0} (above : Option A → Option A → Bool) (first row new : List (Option A)) (place child : ℕ) → Sunk above first row place → IsChild row place child → NoneAbove above None row place (get_or row child None)
    → new ≡ set (set row child None) place (get_or row child None) → Sunk above first new child
down above first row new place child s is_child upper e =
    let apart : place ≢ child = omega (arith, is_child.behind) in
    let moved : MovesPlace row new place child = moves_on row new place child None None s.inside is_child.inside apart e in
    record {
      inside = omega (arith, is_child.inside, moved.length_kept);
      hole = hole_moves row new place child s.inside is_child.inside apart s.hole e;
      heap = sunk above None row new place child moved.length_kept (at_target row new place child None None s.inside e) (at_others row new place child None None e) is_child upper s.heap;
      moved = moves_further first row new 0 place child s.moved moved;
    }

pub loop-place-preserved-then-right_is_upper : goal.loop-place-preserved-then-right_is_upper
loop-place-preserved-then-right_is_upper g c =
    let i = c.loop-place.invariant in
    let place = c.loop-place.place in
    let child = rw c.if-right_is_upper.true at c.right_is_upper.ensures.child in
    let upper = rw c.if-right_is_upper.true at c.right_is_upper.ensures.upper in
    let s = down (above_in_place g.K.Kind.above) c.args.row.now c.loop-place.row c.shift.new.row place (2 * place + 1 + 1) (record { inside = i.inside; hole = i.hole; heap = i.heap; moved = i.moved }) child upper c.shift.ensures in
    record {
      inside = s.inside;
      hole = s.hole;
      heap = s.heap;
      moved = s.moved;
      cost = costs_more c.args.comparisons.now c.loop-place.comparisons c.right_is_upper.new.comparisons (place + 1) (2 * place + 1 + 1 + 1) i.cost c.right_is_upper.ensures.more c.right_is_upper.ensures.once (omega arith);
    }

pub loop-place-preserved : goal.loop-place-preserved
loop-place-preserved g c =
    let i = c.loop-place.invariant in
    let place = c.loop-place.place in
    let child = rw c.if-right_is_upper.false at c.right_is_upper.ensures.child in
    let upper = rw c.if-right_is_upper.false at c.right_is_upper.ensures.upper in
    let s = down (above_in_place g.K.Kind.above) c.args.row.now c.loop-place.row c.shift-else-right_is_upper.new.row place (2 * place + 1) (record { inside = i.inside; hole = i.hole; heap = i.heap; moved = i.moved }) child upper c.shift-else-right_is_upper.ensures in
    record {
      inside = s.inside;
      hole = s.hole;
      heap = s.heap;
      moved = s.moved;
      cost = costs_more c.args.comparisons.now c.loop-place.comparisons c.right_is_upper.new.comparisons (place + 1) (2 * place + 1 + 1) i.cost c.right_is_upper.ensures.more c.right_is_upper.ensures.once (omega arith);
    }
