use Rattle.esync_streams.proofs.Flushed.{flushes_as}
use Rattle.esync_streams.proofs.SinkAdapterSinkMessage.poll_ready.Goals as goal

pub returns-clause-flushes : goal.returns-clause-flushes
returns-clause-flushes g c = rw (← c.self.view_is) (flushes_as c.self.inside.sink c.poll_ready.result c.poll_ready.new.self c.told.result c.told.ensures c.poll_ready.ensures)
