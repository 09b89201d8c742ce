use Rattle.std.proofs.Common.{sym}
use Rattle.esync_permits.proofs.Entries.{stands-below, stands-set, with_waker-none}
use Rattle.esync_permits.proofs.Parts.{entries_fit}
use Rattle.esync_permits.proofs.queue.QueueWaitQueue.set_waker.Goals as goal

pub returns-in-Some : goal.returns-in-Some
returns-in-Some g c = rw (c.replace.ensures.items, ← c.self.view_is) (stands-set c.args.number c.in-Some.i c.self.inside.entries.items c.in-Some.ensures.found c.args.waker)

pub returns-in_default : goal.returns-in_default
returns-in_default g c = sym (with_waker-none c.args.number c.args.waker c.args.self.now (rw c.self.view_is at c.in_default.ensures.none))

pub place_of-requires : goal.place_of-requires
place_of-requires g c = entries_fit g.row.W g.row.N c.requires-raw.1.1

pub replace-requires : goal.replace-requires
replace-requires g c = (entries_fit g.row.W g.row.N c.requires-raw.1.1, stands-below c.args.number c.in-Some.i c.self.inside.entries.items c.in-Some.ensures.found)
