use Rattle.esync_log.proofs.Parts.{messages_fit, counts_fit}
use Rattle.esync_log.proofs.log.held.Held.new.Goals as goal

pub new-requires : goal.new-requires
new-requires g c = messages_fit g.row.T g.row.C g.C.Extent g.row.N c.requires-raw.1.1.1.0

pub new-requires-2 : goal.new-requires-2
new-requires-2 g c = counts_fit g.row.T g.row.C g.C.Extent g.row.N c.requires-raw.1.1.1.0
