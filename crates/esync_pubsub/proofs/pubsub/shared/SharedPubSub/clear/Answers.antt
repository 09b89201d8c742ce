use Rattle.esync_pubsub.proofs.Shared.{room_publishers}
use Rattle.esync_pubsub.proofs.pubsub.shared.SharedPubSub.clear.Goals as goal

pub step-new-requires : goal.step-new-requires
step-new-requires g c = c.step-guard.ensures _ c.args.self.now.small

pub clear-requires : goal.clear-requires
clear-requires g c = (c.step-guard.ensures _ c.args.self.now.small, room_publishers g.S.WakerList.room g.P.WakerList.room g.row.K _ c.args.self.now.room c.step-new.ensures)

pub step-wake-requires : goal.step-wake-requires
step-wake-requires g c = c.step-guard.ensures _ c.args.self.now.small
