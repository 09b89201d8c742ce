use Rattle.std.proofs.Common.{◌≡◌, ℕ, ◌<◌, ◌≤◌, None, length, get_or}
use Rattle.esync_priority.proofs.prio.copied.Given as goal

abbrev pub invariant-loop-i : goal.invariant-loop-i
invariant-loop-i g l = record {
  long : length l.copy ≡ length l.row;
  same : (k : ℕ) → k < l.i → get_or l.copy k None ≡ get_or l.row k None;
  free : (k : ℕ) → l.i ≤ k → get_or l.copy k None ≡ None;
}
