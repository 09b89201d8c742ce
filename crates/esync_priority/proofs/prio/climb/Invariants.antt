use Rattle.std.proofs.Common.{◌+◌, ◌-◌, ◌*◌, ◌^◌, ◌<◌, ◌≤◌, length, Some, None}
use Rattle.esync_priority.specs.Heap.{above_in_place, IsHeapBut, IsHole, NoneAbove, MovesPlace}
use Rattle.esync_priority.proofs.prio.climb.Given as goal

abbrev pub invariant-loop-place : goal.invariant-loop-place
invariant-loop-place g l = record {
  inside : l.place < length l.row;
  hole : IsHole l.row l.place;
  heap : IsHeapBut (above_in_place g.K.Kind.above) None l.row l.place;
  below : NoneAbove (above_in_place g.K.Kind.above) None l.row l.place (Some l.item);
  moved : MovesPlace l.fn.row l.row l.start l.place;
  more : l.fn.comparisons ≤ l.comparisons;
  few : 2 ^ (l.comparisons - l.fn.comparisons) * (l.place + 1) ≤ l.start + 1;
}

abbrev pub decreases-loop-place : goal.decreases-loop-place
decreases-loop-place g l = l.place
