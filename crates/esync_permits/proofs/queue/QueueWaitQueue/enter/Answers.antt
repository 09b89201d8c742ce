use Rattle.esync_permits.proofs.Parts.{entries_fit}
use Rattle.esync_permits.proofs.queue.QueueWaitQueue.enter.Goals as goal

pub is_full-requires : goal.is_full-requires
is_full-requires g c = entries_fit g.row.W g.row.N c.requires-raw.1.1

pub free_number-number-requires : goal.free_number-number-requires
free_number-number-requires g c = entries_fit g.row.W g.row.N c.requires-raw.1.1

pub push_back-requires : goal.push_back-requires
push_back-requires g c = entries_fit g.row.W g.row.N c.requires-raw.1.1
