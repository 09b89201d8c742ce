use Rattle.std.proofs.Common.{◌≡◌, ℕ, ◌<◌, false, take, length, get_or}
use Rattle.esync_base.specs.Listed.{is_in}
use Rattle.esync_permits.specs.Queue.{numbers}
use Rattle.esync_permits.proofs.queue.used_numbers.Given as goal

abbrev pub invariant-loop-place : goal.invariant-loop-place
invariant-loop-place g l = (length l.used ≡ g.row.N) × ((n : ℕ) → n < g.row.N → get_or l.used n false ≡ is_in n (numbers (take l.place l.entries.items)))
