use Rattle.esync_log.proofs.Parts.{messages_fit}
use Rattle.esync_log.proofs.log.held.HeldHolds.is_empty.Goals as goal

pub is_empty-requires : goal.is_empty-requires
is_empty-requires g c = messages_fit g.row.T g.row.C g.C.Extent g.row.N c.requires-raw.1.1.1
