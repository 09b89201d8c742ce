use Rattle.esync_permits.proofs.Entries.{empty_next}
use Rattle.esync_permits.proofs.queue.QueueWaitQueue.is_empty.Goals as goal

pub returns : goal.returns
returns g c = empty_next c.is_empty.result c.args.self.now (rw c.self.view_is at c.is_empty.ensures)
