use Rattle.esync_pubsub.proofs.pubsub.shared.SharedPubSubPubSubBehavior.poll_message_pure.Goals as goal

pub step-new-requires : goal.step-new-requires
step-new-requires g c = c.step-guard.ensures _ c.args.self.now.small

pub poll_message_pure-requires : goal.poll_message_pure-requires
poll_message_pure-requires g c = (c.step-guard.ensures _ c.args.self.now.small, (c.step-new.ensures, c.args.self.now.room))

pub step-wake-requires : goal.step-wake-requires
step-wake-requires g c = c.step-guard.ensures _ c.args.self.now.small
