use Rattle.esync_log.proofs.Parts.{messages_fit}
use Rattle.esync_log.proofs.log.held.HeldHolds.message.Goals as goal

pub get-requires : goal.get-requires
get-requires g c = (messages_fit g.row.T g.row.C g.C.Extent g.row.N c.requires-raw.1.1.1.0, rw (← c.self.view_is) at c.requires)
