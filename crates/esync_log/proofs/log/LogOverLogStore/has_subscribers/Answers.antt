use Rattle.esync_log.proofs.Logged.{live_test}
use Rattle.esync_log.proofs.log.LogOverLogStore.has_subscribers.Goals as goal

pub returns : goal.returns
returns g c = rw (← c.self.view_is) (live_test (g.P.Places.numbers c.self.inside.positions) c.self.inside.subscribers c.self.invariant.live)
