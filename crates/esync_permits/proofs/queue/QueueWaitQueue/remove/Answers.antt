use Rattle.std.proofs.Common.{sym}
use Rattle.esync_permits.proofs.Entries.{stands-below, stands-remove, left_by-none}
use Rattle.esync_permits.proofs.Parts.{entries_fit}
use Rattle.esync_permits.proofs.queue.QueueWaitQueue.remove.Goals as goal

pub returns-in-Some : goal.returns-in-Some
returns-in-Some g c = rw (c.remove.ensures.items, ← c.self.view_is) (stands-remove c.args.number c.in-Some.i c.self.inside.entries.items c.in-Some.ensures.found)

pub returns-in_default : goal.returns-in_default
returns-in_default g c = sym (left_by-none c.args.number c.args.self.now (rw c.self.view_is at c.in_default.ensures.none))

pub place_of-requires : goal.place_of-requires
place_of-requires g c = entries_fit g.row.W g.row.N c.requires-raw.1.1

pub remove-requires : goal.remove-requires
remove-requires g c = (entries_fit g.row.W g.row.N c.requires-raw.1.1, stands-below c.args.number c.in-Some.i c.self.inside.entries.items c.in-Some.ensures.found)
