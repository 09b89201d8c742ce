use Rattle.std.proofs.Common.{◌≡◌, ℕ, ◌<◌, ◌≤◌, None, length, get_or}
use Rattle.esync_priority.proofs.prio.empty.Given as goal

abbrev pub invariant-loop-i : goal.invariant-loop-i
invariant-loop-i g l = record {
  long : length l.row ≡ length l.fn.row;
  free : (k : ℕ) → k < l.i → get_or l.row k None ≡ None;
  kept : (k : ℕ) → l.i ≤ k → get_or l.row k None ≡ get_or l.fn.row k None;
}
