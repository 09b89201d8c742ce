use Rattle.std.proofs.Common.{arith}
use Rattle.esync_permits.proofs.semaphore.machine.greedy.GreedyStatePrimitive.call.Goals as goal

pub release-requires : goal.release-requires
release-requires g c = (c.requires-raw.1.1.0, rw c.requires.empty (omega (arith, c.requires.room)))

pub set-requires : goal.set-requires
set-requires g c = (c.requires-raw.1.1.0, rw c.requires.empty (omega (arith, c.requires.room)))
