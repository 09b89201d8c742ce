use Rattle.std.proofs.Common.{None, Some}
use Rattle.esync_log.specs.Log.{position}
use Rattle.esync_pubsub.proofs.Told.{next_told, refused_told}
use Rattle.esync_pubsub.proofs.pubsub.PubSubOver.turn_message.Goals as goal

pub returns-in-Ok-Ready : goal.returns-in-Ok-Ready
returns-in-Ok-Ready g c =
    let step = rw c.in-Ok-Ready.field-0-is at c.in-Ok-Ready.ensures.step in
    let told = next_told _ g.S.Waker.PartialEq.eq g.G.Message.Clone.is_clone g.G.Message.Clone.is_infallible g.S.WakerList.room g.P.WakerList.room c.args.id.now c.args.self.now c.poll_message.new.self c.poll_message.new.wakes c.requires.live c.numbered.ensures (Some c.args.cx.now) (Some c.in-Ok-Ready.answer) step in
    record { allowed = rw c.over.ensures.answer told.does; place = rw c.over.ensures.answer c.over.ensures.place; exact = rw c.over.ensures.answer told.exact; publishers = told.publishers }

pub returns-in-Ok-Pending : goal.returns-in-Ok-Pending
returns-in-Ok-Pending g c =
    let step = rw c.in-Ok-Pending.field-0-is at c.in-Ok-Pending.ensures.step in
    let told = next_told _ g.S.Waker.PartialEq.eq g.G.Message.Clone.is_clone g.G.Message.Clone.is_infallible g.S.WakerList.room g.P.WakerList.room c.args.id.now c.args.self.now c.poll_message.new.self c.poll_message.new.wakes c.requires.live c.numbered.ensures (Some c.args.cx.now) None step in
    record { allowed = rw c.waits.ensures.answer told.does.1; place = rw c.waits.ensures.answer c.waits.ensures.place; exact = rw c.waits.ensures.answer told.exact; publishers = told.publishers }

pub returns-in-Err : goal.returns-in-Err
returns-in-Err g c =
    let told = refused_told g.G.Message.Clone.is_infallible c.args.id.now (position c.args.id.now c.args.self.now.log) c.args.self.now c.poll_message.new.self c.poll_message.new.wakes _ c.requires.live c.numbered.ensures c.in-Err.ensures.step in
    record { allowed = rw c.refused.ensures.answer told.does; place = rw c.refused.ensures.answer c.refused.ensures.place; exact = rw c.refused.ensures.answer told.exact; publishers = told.publishers }
