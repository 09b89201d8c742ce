use Rattle.esync_pubsub.proofs.pubsub.shared.SharedPubSubPubSubBehavior.try_next_message_pure.Goals as goal

pub step-new-requires : goal.step-new-requires
step-new-requires g c = c.step-guard.ensures _ c.args.self.now.small

pub read_on-requires : goal.read_on-requires
read_on-requires g c = (c.step-guard.ensures _ c.args.self.now.small, (c.step-new.ensures, c.args.self.now.room))

pub step-wake-requires : goal.step-wake-requires
step-wake-requires g c = c.step-guard.ensures _ c.args.self.now.small
