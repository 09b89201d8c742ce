use Rattle.std.proofs.Common.{◌<◌, refl, sym, ◌∙◌, arith, rules}
use Rattle.esync_pubsub.proofs.Shared.{room_subscribers, room_publishers, still_there, counted, uncounted, polling_publish, waiting_publish}
use Rattle.esync_pubsub.proofs.pubsub.PubSubOver.poll_publish.Goals as goal

pub poll_state-requires : goal.poll_state-requires
poll_state-requires g c =
    (search rules, (room_subscribers g.S.WakerList.room g.P.WakerList.room g.row.K c.args.wakes.now c.requires.room c.requires.empty, (omega (arith, c.publishers.ensures.within, c.if-publishers-eq0.false), (room_publishers g.S.WakerList.room g.P.WakerList.room g.row.K c.args.wakes.now c.requires.room c.requires.empty, c.requires.unfinished))))

pub returns-then-publishers-eq0 : goal.returns-then-publishers-eq0
returns-then-publishers-eq0 g c = record {
  request = still_there c.args.request.now;
  step = waiting_publish g.S.Waker.PartialEq.eq g.G.LogStore.capacity g.P.WakerList.room c.args.cx.now c.args.self.now c.args.self.now c.args.wakes.now c.args.wakes.now c.requires.empty _ c.args.request.now (uncounted c.args.self.now.publishers (sym c.publishers.ensures.value ∙ c.if-publishers-eq0.true)) refl refl c.requires.empty;
}

pub returns : goal.returns
returns g c =
    let some : 0 < c.args.self.now.publishers = omega (arith, c.publishers.ensures.value, c.if-publishers-eq0.false) in
    record {
      request = c.poll_state.ensures.request;
      step = polling_publish g.S.Waker.PartialEq.eq g.G.LogStore.capacity g.P.WakerList.room c.args.cx.now c.args.self.now c.poll_state.new.state c.args.wakes.now c.poll_state.new.wakes c.requires.empty c.poll_state.result c.args.request.now (counted c.args.self.now.publishers some) c.poll_state.ensures.log c.poll_state.ensures.rest c.poll_state.ensures.wakes;
    }
