use Rattle.std.proofs.Common.{◌+◌, ◌-◌, ◌<◌, length, None}
use Rattle.esync_priority.specs.Heap.{above_in_place, IsHeapBut, IsHole, MovesPlace, CostsWithin}
use Rattle.esync_priority.proofs.prio.sink.Given as goal

abbrev pub invariant-loop-place : goal.invariant-loop-place
invariant-loop-place g l = record {
  inside : l.place < length l.row;
  hole : IsHole l.row l.place;
  heap : IsHeapBut (above_in_place g.K.Kind.above) None l.row l.place;
  moved : MovesPlace l.fn.row l.row 0 l.place;
  cost : CostsWithin l.fn.comparisons l.comparisons (l.place + 1);
}

abbrev pub decreases-loop-place : goal.decreases-loop-place
decreases-loop-place g l = length l.row - l.place
