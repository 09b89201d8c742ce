use Rattle.esync_log.proofs.log.held.HeldHolds.pop.Goals as goal

pub take_front-requires : goal.take_front-requires
take_front-requires g c = c.requires-raw.1.1.1
