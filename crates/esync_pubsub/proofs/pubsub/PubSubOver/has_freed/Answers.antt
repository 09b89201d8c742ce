use Rattle.std.proofs.Common.{ap}
use Rattle.std.specs.Prelude.{nat_lt}
use Rattle.esync_pubsub.proofs.pubsub.PubSubOver.has_freed.Goals as goal

pub returns : goal.returns
returns g c = rw (← c.self.view_is) (ap (λ n. nat_lt n c.args.held) c.len.ensures.value)
