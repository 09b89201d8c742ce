use Rattle.esync_pubsub.proofs.pubsub.shared.SharedPubSubPubSubBehavior.poll_next.Goals as goal

pub step-new-requires : goal.step-new-requires
step-new-requires g c = c.step-guard.ensures _ c.args.self.now.small

pub poll_stream-requires : goal.poll_stream-requires
poll_stream-requires g c = (c.step-guard.ensures _ c.args.self.now.small, (c.step-new.ensures, c.args.self.now.room))

pub step-wake-requires : goal.step-wake-requires
step-wake-requires g c = c.step-guard.ensures _ c.args.self.now.small
