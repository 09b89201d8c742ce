use Rattle.std.proofs.Common.{rules}
use Rattle.esync_pubsub.proofs.Shared.{room_publishers}
use Rattle.esync_pubsub.proofs.pubsub.PubSubOver.unregister_subscriber.Goals as goal

pub leave-requires : goal.leave-requires
leave-requires g c =
    (search rules, (search rules, room_publishers g.S.WakerList.room g.P.WakerList.room g.row.K c.args.wakes.now c.requires.room c.requires.empty))
