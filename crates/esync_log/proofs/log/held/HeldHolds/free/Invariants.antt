use Rattle.std.proofs.Common.{◌≡◌, ◌-◌, length, drop}
use Rattle.esync_log.specs.Counts.{unread}
use Rattle.esync_log.proofs.log.held.HeldHolds.free.Given as goal

-- what is still to leave is what was to leave; there are as many counts as turns
abbrev pub invariant-loop-message : goal.invariant-loop-message
invariant-loop-message g l =
    (length l.self.counts ≡ l._message-end - l._message)
    × (drop (unread l.self.counts) l.self.messages ≡ drop (unread l.initial.self.counts) l.initial.self.messages)
    × (drop (unread l.self.counts) l.self.counts ≡ drop (unread l.initial.self.counts) l.initial.self.counts)
