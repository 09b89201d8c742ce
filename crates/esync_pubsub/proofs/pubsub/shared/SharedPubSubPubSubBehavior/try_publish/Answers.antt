use Rattle.esync_pubsub.proofs.Shared.{room_subscribers}
use Rattle.esync_pubsub.proofs.pubsub.shared.SharedPubSubPubSubBehavior.try_publish.Goals as goal

pub step-new-requires : goal.step-new-requires
step-new-requires g c = c.step-guard.ensures _ c.args.self.now.small

pub try_publish-requires : goal.try_publish-requires
try_publish-requires g c = (c.step-guard.ensures _ c.args.self.now.small, room_subscribers g.S.WakerList.room g.P.WakerList.room g.row.K _ c.args.self.now.room c.step-new.ensures)

pub step-wake-requires : goal.step-wake-requires
step-wake-requires g c = c.step-guard.ensures _ c.args.self.now.small
