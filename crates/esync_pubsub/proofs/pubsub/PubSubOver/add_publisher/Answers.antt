use Rattle.std.proofs.Common.{refl, arith}
use Rattle.esync_pubsub.proofs.pubsub.PubSubOver.add_publisher.Goals as goal

pub returns-clause-count : goal.returns-clause-count
returns-clause-count g c = rw (← c.self.view_is) (omega (arith, c.if-self-room.false, c.room.ensures), refl)

pub returns-then-self-room-clause-count : goal.returns-then-self-room-clause-count
returns-then-self-room-clause-count g c = (rw (← c.self.view_is) (omega (arith, c.if-self-room.true, c.room.ensures, c.self.invariant.0)), refl)
