use Rattle.std.proofs.Common.{◌≡◌, true, rules}
use Rattle.esync_log.specs.Log.{is_live}
use Rattle.esync_pubsub.proofs.Shared.{polls_next, room_subscribers, room_publishers}
use Rattle.esync_pubsub.proofs.pubsub.PubSubOver.poll_message.Goals as goal

pub get_message_with_context-requires : goal.get_message_with_context-requires
get_message_with_context-requires g c =
    (search rules, (search rules, (room_subscribers g.S.WakerList.room g.P.WakerList.room g.row.K c.args.wakes.now c.requires.room c.requires.empty, room_publishers g.S.WakerList.room g.P.WakerList.room g.row.K c.args.wakes.now c.requires.room c.requires.empty)))

pub returns : goal.returns
returns g c =
    let live : is_live c.args.id.now c.args.self.now.log ≡ true = search rules in
    let done = c.get_message_with_context.ensures in
    record {
      step = polls_next g.S.Waker.PartialEq.eq g.G.Message.Clone.is_clone g.G.Message.Clone.is_infallible g.S.WakerList.room c.args.id.now c.args.self.now c.get_message_with_context.new.self c.args.wakes.now c.get_message_with_context.new.wakes c.requires.empty live c.args.cx.now c.get_message_with_context.result
          (record { ok = done.ok; rest = done.rest; woken = done.wakes; refused = done.refused; unchanged = done.unchanged; unwoken = done.unwoken });
    }
