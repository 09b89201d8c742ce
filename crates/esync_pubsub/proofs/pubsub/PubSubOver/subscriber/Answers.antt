use Rattle.std.proofs.Common.{sym, ◌∙◌}
use Rattle.esync_pubsub.proofs.pubsub.PubSubOver.subscriber.Goals as goal

pub returns-in-Some-clause-live : goal.returns-in-Some-clause-live
returns-in-Some-clause-live g c = c.requires.named.live c.args.s c.in-Some.place (sym c.place.ensures ∙ c.in-Some.is)
