use Rattle.esync_log.proofs.Logged.{log_new}
use Rattle.esync_log.proofs.log.LogOver.over.Goals as goal

pub invariant_of-result : goal.invariant_of-result
invariant_of-result g c = rw (c.requires.held, c.requires.positions) (log_new g.H.Holds.capacity g.P.Places.extent c.args.next c.requires.messages)
