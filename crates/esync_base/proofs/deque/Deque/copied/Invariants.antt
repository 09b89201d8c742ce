use Rattle.std.proofs.Common.{◌≡◌, take}
use Rattle.esync_base.proofs.deque.Deque.copied.Given as goal

abbrev pub invariant-loop-i : goal.invariant-loop-i
invariant-loop-i g l = record {
  items : l.copy.items ≡ take l.i l.self.items;
  front : l.copy.front ≡ l.self.front;
}
