use Rattle.esync_history.specs.JournalLaws.{replays, owing}
use Rattle.esync_history.proofs.recorded.Book.journal.Goals as goal

pub returns-clause-replays : goal.returns-clause-replays
returns-clause-replays g c = rw (← c.self.view_is) (replays g.M.Machine.semantics g.met.M.Machine.idle c.self.inside.opening c.self.inside.machine c.self.inside.journal.items c.self.invariant.0)

pub returns-clause-owing : goal.returns-clause-owing
returns-clause-owing g c = rw (← c.self.view_is) (owing g.M.Machine.semantics g.met.M.Machine.idle c.self.inside.opening c.self.inside.machine c.self.inside.journal.items c.self.invariant.0)
