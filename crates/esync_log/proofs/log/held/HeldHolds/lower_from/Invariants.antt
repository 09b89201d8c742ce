use Rattle.std.proofs.Common.{◌≡◌, ℕ, suc, ◌<◌, ◌≤◌, length}
use Rattle.std.specs.Prelude.{slice_index}
use Rattle.esync_log.proofs.log.held.HeldHolds.lower_from.Given as goal

-- the counts before i are one lower, from `from` on, and the others are as they were
abbrev pub invariant-loop-i : goal.invariant-loop-i
invariant-loop-i g l =
    (l.self.messages ≡ l.initial.self.messages)
    × (length l.self.counts ≡ length l.initial.self.counts)
    × ((k : ℕ) → k < l.from → slice_index l.self.counts k ≡ slice_index l.initial.self.counts k)
    × ((k : ℕ) → l.from ≤ k → k < l.i → k < length l.initial.self.messages → suc (slice_index l.self.counts k) ≡ slice_index l.initial.self.counts k)
    × ((k : ℕ) → l.i ≤ k → slice_index l.self.counts k ≡ slice_index l.initial.self.counts k)
