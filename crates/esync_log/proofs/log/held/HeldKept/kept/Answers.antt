use Rattle.esync_log.proofs.Parts.{copied_messages_fit, copied_counts_fit}
use Rattle.esync_log.proofs.log.held.HeldKept.kept.Goals as goal

pub kept-requires : goal.kept-requires
kept-requires g c = copied_messages_fit g.row.T g.row.C g.C.Extent g.row.N c.requires-raw.1.1.1

pub kept-requires-2 : goal.kept-requires-2
kept-requires-2 g c = copied_counts_fit g.row.T g.row.C g.C.Extent g.row.N c.requires-raw.1.1.1
