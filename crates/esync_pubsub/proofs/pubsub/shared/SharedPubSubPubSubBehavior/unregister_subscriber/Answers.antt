use Rattle.esync_pubsub.proofs.pubsub.shared.SharedPubSubPubSubBehavior.unregister_subscriber.Goals as goal

pub step-new-requires : goal.step-new-requires
step-new-requires g c = c.step-guard.ensures _ c.args.self.now.small

pub unregister_subscriber-requires : goal.unregister_subscriber-requires
unregister_subscriber-requires g c = (c.step-guard.ensures _ c.args.self.now.small, (c.step-new.ensures, c.args.self.now.room))

pub step-wake-requires : goal.step-wake-requires
step-wake-requires g c = c.step-guard.ensures _ c.args.self.now.small
