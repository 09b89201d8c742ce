use Rattle.std.proofs.Common.{◌≡◌, true, rules}
use Rattle.esync_log.specs.Log.{is_live}
use Rattle.esync_pubsub.proofs.Shared.{streams, room_subscribers, room_publishers, room_one}
use Rattle.esync_pubsub.proofs.pubsub.PubSubOver.poll_stream.Goals as goal

pub poll_next-requires : goal.poll_next-requires
poll_next-requires g c =
    (search rules, (search rules, (room_subscribers g.S.WakerList.room g.P.WakerList.room g.row.K c.args.wakes.now c.requires.room c.requires.empty, (room_publishers g.S.WakerList.room g.P.WakerList.room g.row.K c.args.wakes.now c.requires.room c.requires.empty, room_one g.S.WakerList.room g.P.WakerList.room g.row.K c.args.wakes.now c.requires.room c.requires.empty))))

pub returns : goal.returns
returns g c =
    let live : is_live c.args.id.now c.args.self.now.log ≡ true = search rules in
    let done = c.poll_next.ensures in
    record {
      step = streams g.S.Waker.PartialEq.eq g.G.Message.Clone.is_clone g.G.Message.Clone.is_infallible g.S.WakerList.room c.args.id.now c.args.self.now c.poll_next.new.self c.args.wakes.now c.poll_next.new.wakes c.requires.empty live c.args.cx.now c.poll_next.result
          (record { ok = done.ok; rest = done.rest; woken = done.wakes; refused = done.refused; unchanged = done.unchanged; unwoken = done.unwoken });
    }
