use Rattle.std.proofs.Common.{◌≡◌, ◌-◌, length}
use Rattle.esync_base.proofs.deque.Deque.clear.Given as goal

abbrev pub invariant-loop-item : goal.invariant-loop-item
invariant-loop-item g l = length l.self.items ≡ length l.initial.self.items - l._item
