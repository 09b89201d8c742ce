use Rattle.std.proofs.Common.{None}
use Rattle.esync_log.specs.Log.{position}
use Rattle.esync_pubsub.proofs.Told.{next_told, refused_told}
use Rattle.esync_pubsub.proofs.pubsub.PubSubOver.try_next.Goals as goal

pub returns-in-Ok : goal.returns-in-Ok
returns-in-Ok g c =
    let told = next_told _ g.S.Waker.PartialEq.eq g.G.Message.Clone.is_clone g.G.Message.Clone.is_infallible g.S.WakerList.room g.P.WakerList.room c.args.id.now c.args.self.now c.read_next.new.self c.read_next.new.wakes c.requires.live c.numbered.ensures None c.in-Ok.answer c.in-Ok.ensures.step in
    record { allowed = told.does; exact = told.exact; publishers = told.publishers }

pub returns-in-Err : goal.returns-in-Err
returns-in-Err g c =
    let told = refused_told g.G.Message.Clone.is_infallible c.args.id.now (position c.args.id.now c.args.self.now.log) c.args.self.now c.read_next.new.self c.read_next.new.wakes _ c.requires.live c.numbered.ensures c.in-Err.ensures.step in
    record { allowed = told.does; exact = told.exact; publishers = told.publishers }
