use Rattle.std.proofs.Common.{length}
use Rattle.esync_log.proofs.Beside.{count_at}
use Rattle.esync_log.proofs.Parts.{messages_fit}
use Rattle.esync_log.proofs.log.held.HeldHolds.count.Goals as goal

pub returns : goal.returns
returns g c =
    let a = c.self.inside in
    let h = rw (← c.self.view_is) at c.requires in
    rw (← c.self.view_is) (count_at g.row.N a.messages.front a.counts.row (length a.messages.items) c.args.i c.slot_of.result c.get.result h c.slot_of.ensures.place c.get.ensures)

pub slot_of-requires : goal.slot_of-requires
slot_of-requires g c = (messages_fit g.row.T g.row.C g.C.Extent g.row.N c.requires-raw.1.1.1.0, rw (← c.self.view_is) at c.requires)
