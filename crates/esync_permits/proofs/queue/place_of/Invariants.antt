use Rattle.std.proofs.Common.{◌≡◌, false, take}
use Rattle.esync_base.specs.Listed.{is_in}
use Rattle.esync_permits.specs.Queue.{numbers}
use Rattle.esync_permits.proofs.queue.place_of.Given as goal

abbrev pub invariant-loop-i : goal.invariant-loop-i
invariant-loop-i g l = is_in l.number (numbers (take l.i l.entries.items)) ≡ false
