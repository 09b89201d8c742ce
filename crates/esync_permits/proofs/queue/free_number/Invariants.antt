use Rattle.std.proofs.Common.{◌≡◌, ℕ, ◌<◌, true}
use Rattle.esync_base.specs.Listed.{is_in}
use Rattle.esync_permits.specs.Queue.{numbers}
use Rattle.esync_permits.proofs.queue.free_number.Given as goal

abbrev pub invariant-loop-number : goal.invariant-loop-number
invariant-loop-number g l = (k : ℕ) → k < l.number → is_in k (numbers l.entries.items) ≡ true
