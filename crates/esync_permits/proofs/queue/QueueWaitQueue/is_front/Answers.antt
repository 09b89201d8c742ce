use Rattle.esync_permits.proofs.Entries.{front_is, no_front}
use Rattle.esync_permits.proofs.queue.QueueWaitQueue.is_front.Goals as goal

pub returns-in-Some : goal.returns-in-Some
returns-in-Some g c = front_is c.args.number c.args.self.now c.in-Some.front.now (rw c.self.view_is at c.in-Some.ensures)

pub returns-in-None : goal.returns-in-None
returns-in-None g c = no_front c.args.number c.args.self.now (rw c.self.view_is at c.in-None.ensures)
