use Rattle.esync_history.proofs.Entries.{was_recorded}
use Rattle.esync_history.proofs.recorded.Recorded.call.Goals as goal

pub returns-clause-recorded : goal.returns-clause-recorded
returns-clause-recorded g c = was_recorded g.M.Machine.semantics c.record.result _ _ _ _ _ c.record.ensures.recorded c.record.ensures.replays c.record.ensures.within
