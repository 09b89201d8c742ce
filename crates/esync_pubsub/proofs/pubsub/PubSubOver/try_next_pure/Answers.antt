use Rattle.std.proofs.Common.{None}
use Rattle.esync_log.specs.Log.{position, caught}
use Rattle.esync_pubsub.proofs.Told.{on_told, refused_told}
use Rattle.esync_pubsub.proofs.pubsub.PubSubOver.try_next_pure.Goals as goal

pub returns-in-Ok : goal.returns-in-Ok
returns-in-Ok g c =
    let told = on_told _ g.S.Waker.PartialEq.eq g.G.Message.Clone.is_clone g.G.Message.Clone.is_infallible g.S.WakerList.room g.P.WakerList.room c.args.id.now c.args.self.now c.read_on.new.self c.read_on.new.wakes c.requires.live c.numbered.ensures None c.in-Ok.answer c.in-Ok.ensures.step in
    record { allowed = told.does; exact = told.exact; publishers = told.publishers }

pub returns-in-Err : goal.returns-in-Err
returns-in-Err g c =
    let told = refused_told g.G.Message.Clone.is_infallible c.args.id.now (position c.args.id.now (caught c.args.id.now c.args.self.now.log)) c.args.self.now c.read_on.new.self c.read_on.new.wakes _ c.requires.live c.numbered.ensures c.in-Err.ensures.step in
    record { allowed = told.does; exact = told.exact; publishers = told.publishers }
