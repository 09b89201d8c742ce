use Rattle.std.proofs.Common.{◌≡◌, true, None, rules}
use Rattle.esync_log.specs.Log.{is_live}
use Rattle.esync_pubsub.proofs.Shared.{reads_on, room_publishers}
use Rattle.esync_pubsub.proofs.pubsub.PubSubOver.read_on.Goals as goal

pub try_next_message_pure-requires : goal.try_next_message_pure-requires
try_next_message_pure-requires g c =
    (search rules, (search rules, room_publishers g.S.WakerList.room g.P.WakerList.room g.row.K c.args.wakes.now c.requires.room c.requires.empty))

pub returns : goal.returns
returns g c =
    let live : is_live c.args.id.now c.args.self.now.log ≡ true = search rules in
    let done = c.try_next_message_pure.ensures in
    record {
      step = reads_on g.S.Waker.PartialEq.eq g.G.Message.Clone.is_clone g.G.Message.Clone.is_infallible g.S.WakerList.room c.args.id.now c.args.self.now c.try_next_message_pure.new.self c.args.wakes.now c.try_next_message_pure.new.wakes c.requires.empty live None c.try_next_message_pure.result
          (record { ok = done.ok; rest = done.rest; woken = done.wakes; refused = done.refused; unchanged = done.unchanged; unwoken = done.unwoken });
    }
