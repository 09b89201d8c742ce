use Rattle.std.proofs.Common.{length}
use Rattle.esync_log.proofs.Beside.{length_beside}
use Rattle.esync_log.proofs.Parts.{messages_fit}
use Rattle.esync_log.proofs.log.held.HeldHolds.len.Goals as goal

pub returns-clause-paired : goal.returns-clause-paired
returns-clause-paired g c =
    let a = c.self.inside in
    rw (← c.self.view_is) (length_beside g.row.N a.messages.front a.counts.row (length a.messages.items))

pub len-requires : goal.len-requires
len-requires g c = messages_fit g.row.T g.row.C g.C.Extent g.row.N c.requires-raw.1.1.1
