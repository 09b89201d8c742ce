use Rattle.std.proofs.Common.{◌≡◌, ◌<◌, ◌-◌, None, length, get_or}
use Rattle.esync_base.specs.Ring.{slot}
use Rattle.esync_base.specs.Places.{closed, HoldsBehind}
use Rattle.esync_base.proofs.deque.close.Given as goal

abbrev pub invariant-loop-moved : goal.invariant-loop-moved
invariant-loop-moved g l = record {
  rest : closed g.row.N l.row l.gap (l.count - l._moved) ≡ closed g.row.N l.initial.row l.initial.gap l.count;
  place : l.gap ≡ slot g.row.N l.initial.gap l._moved;
  below : l.gap < g.row.N;
  long : length l.row ≡ g.row.N;
  empty : get_or l.row l.gap None ≡ None;
  held : HoldsBehind g.row.N l.row l.gap (l.count - l._moved);
}
