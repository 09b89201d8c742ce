use Rattle.esync_log.proofs.Parts.{messages_fit}
use Rattle.esync_log.proofs.log.held.HeldHolds.clear.Goals as goal

pub clear-requires : goal.clear-requires
clear-requires g c = messages_fit g.row.T g.row.C g.C.Extent g.row.N c.requires-raw.1.1.1
