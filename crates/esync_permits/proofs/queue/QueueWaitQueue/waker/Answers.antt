use Rattle.std.proofs.Common.{arith}
use Rattle.esync_permits.proofs.Entries.{waker_at, no_waker_at}
use Rattle.esync_permits.proofs.queue.QueueWaitQueue.waker.Goals as goal

pub returns-then-i-len : goal.returns-then-i-len
returns-then-i-len g c = rw (← c.self.view_is) (waker_at c.args.i c.self.inside.entries.items c.get.result.now c.get.ensures)

pub returns-else-i-len : goal.returns-else-i-len
returns-else-i-len g c = rw (← c.self.view_is) (no_waker_at c.args.i c.self.inside.entries.items (omega (arith, c.if-i-len.false, c.len.ensures.value)))
