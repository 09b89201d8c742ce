use Rattle.std.proofs.Common.{arith}
use Rattle.esync_permits.proofs.semaphore.machine.greedy.GreedyStatePrimitive.poll.Goals as goal

pub poll-requires : goal.poll-requires
poll-requires g c = (c.requires-raw.1.1.0, rw c.requires.empty (omega (arith, c.requires.room)))
