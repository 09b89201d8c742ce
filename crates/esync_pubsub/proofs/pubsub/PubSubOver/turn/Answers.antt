use Rattle.std.proofs.Common.{refl}
use Rattle.esync_pubsub.specs.PubSubRules.{topic_of}
use Rattle.esync_pubsub.proofs.Named.{named_same}
use Rattle.esync_pubsub.proofs.Turns.{here_by, polls_by, polled_keeps}
use Rattle.esync_pubsub.proofs.pubsub.PubSubOver.turn.Goals as goal

pub returns : goal.returns
returns g c = record {
  allowed = polls_by g.G.Message.Clone.is_clone g.G.Message.Clone.is_infallible g.G.LogStore.capacity (topic_of c.args.self.now c.args.tables.now) (topic_of c.turn_named.new.self c.args.tables.now) c.args.held c.turn_named.result.answer c.turn_named.result.place c.requires.fits c.turn_named.ensures.allowed refl c.turn_named.ensures.place;
  named = (
      let old = topic_of c.args.self.now c.args.tables.now in
      let new = topic_of c.turn_named.new.self c.args.tables.now in
      let polls = polls_by g.G.Message.Clone.is_clone g.G.Message.Clone.is_infallible g.G.LogStore.capacity old new c.args.held c.turn_named.result.answer c.turn_named.result.place c.requires.fits c.turn_named.ensures.allowed refl c.turn_named.ensures.place in
      let keeps = polled_keeps g.G.Message.Clone.is_clone g.G.Message.Clone.is_infallible g.G.LogStore.capacity g.S.Waker.PartialEq.eq g.S.WakerList.room g.P.WakerList.room old c.args.self.now.lists c.args.waker new c.args.held c.turn_named.result.answer c.turn_named.result.place c.turn_named.new.wakes c.turn_named.new.self.lists (here_by old c.requires.named.live) c.requires.fits polls (rw c.from_waker.ensures at c.turn_named.ensures.exact) in
      named_same g.G.LogStore.capacity g.P.WakerList.room g.row.NAMES c.args.self.now c.turn_named.new.self c.args.tables.now.subscribers c.args.tables.now.publishers c.requires.named c.turn_named.ensures.publishers keeps.live);
  exact = rw c.from_waker.ensures at c.turn_named.ensures.exact;
}
