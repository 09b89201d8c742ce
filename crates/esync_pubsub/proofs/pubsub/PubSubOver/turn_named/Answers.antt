use Rattle.std.proofs.Common.{rules, sym, ◌∙◌}
use Rattle.esync_pubsub.specs.PubSubRules.{topic_of}
use Rattle.esync_pubsub.proofs.Named.{one_counted}
use Rattle.esync_pubsub.proofs.Turns.{message_log, message_hands, pure_log, pure_poll_hands, stream_log, stream_poll_hands}
use Rattle.esync_pubsub.proofs.pubsub.PubSubOver.turn_named.Goals as goal

pub turn_publish-requires : goal.turn_publish-requires
turn_publish-requires g c = (search rules, (c.requires.empty, (c.requires.room, one_counted g.G.LogStore.capacity g.P.WakerList.room g.row.NAMES c.args.self.now c.args.tables.now c.requires.named c.in-Publish.p (rw c.in-Publish.is at c.requires.fits))))

pub returns-in-Some : goal.returns-in-Some
returns-in-Some g c = record {
  allowed = (
      let here = sym c.subscriber.ensures.place ∙ c.in-Some.is in
      message_log g.G.Message.Clone.is_clone g.G.Message.Clone.is_infallible g.G.LogStore.capacity g.S.WakerList.room g.P.WakerList.room g.S.Waker.PartialEq.eq (topic_of c.args.self.now c.args.tables.now) c.args.self.now.lists c.turn_message.new.self.lists c.args.cx.now c.turn_message.new.wakes c.turn_message.result.answer c.turn_message.new.self.log c.args.held c.in-Message.s c.in-Some.id here c.in-Message.is c.turn_message.ensures.allowed);
  exact = (
      let here = sym c.subscriber.ensures.place ∙ c.in-Some.is in
      message_hands g.G.Message.Clone.is_clone g.G.Message.Clone.is_infallible g.G.LogStore.capacity g.S.WakerList.room g.P.WakerList.room g.S.Waker.PartialEq.eq (topic_of c.args.self.now c.args.tables.now) c.args.self.now.lists c.turn_message.new.self.lists c.args.cx.now c.turn_message.new.wakes c.turn_message.result.answer c.turn_message.new.self.log c.args.held c.in-Message.s c.in-Some.id here c.in-Message.is c.turn_message.ensures.exact);
  place = rw c.in-Message.is c.turn_message.ensures.place;
  publishers = c.turn_message.ensures.publishers;
}

pub returns-in-Some-subscriber : goal.returns-in-Some-subscriber
returns-in-Some-subscriber g c = record {
  allowed = (
      let here = sym c.subscriber-in-MessagePure.ensures.place ∙ c.in-Some-subscriber.is in
      pure_log g.G.Message.Clone.is_clone g.G.Message.Clone.is_infallible g.G.LogStore.capacity g.S.WakerList.room g.P.WakerList.room g.S.Waker.PartialEq.eq (topic_of c.args.self.now c.args.tables.now) c.args.self.now.lists c.turn_pure.new.self.lists c.args.cx.now c.turn_pure.new.wakes c.turn_pure.result.answer c.turn_pure.new.self.log c.args.held c.in-MessagePure.s c.in-Some-subscriber.id here c.in-MessagePure.is c.turn_pure.ensures.allowed);
  exact = (
      let here = sym c.subscriber-in-MessagePure.ensures.place ∙ c.in-Some-subscriber.is in
      pure_poll_hands g.G.Message.Clone.is_clone g.G.Message.Clone.is_infallible g.G.LogStore.capacity g.S.WakerList.room g.P.WakerList.room g.S.Waker.PartialEq.eq (topic_of c.args.self.now c.args.tables.now) c.args.self.now.lists c.turn_pure.new.self.lists c.args.cx.now c.turn_pure.new.wakes c.turn_pure.result.answer c.turn_pure.new.self.log c.args.held c.in-MessagePure.s c.in-Some-subscriber.id here c.in-MessagePure.is c.turn_pure.ensures.exact);
  place = rw c.in-MessagePure.is c.turn_pure.ensures.place;
  publishers = c.turn_pure.ensures.publishers;
}

pub returns-in-Some-subscriber-2 : goal.returns-in-Some-subscriber-2
returns-in-Some-subscriber-2 g c = record {
  allowed = (
      let here = sym c.subscriber-in-Stream.ensures.place ∙ c.in-Some-subscriber-2.is in
      stream_log g.G.Message.Clone.is_clone g.G.Message.Clone.is_infallible g.G.LogStore.capacity g.S.WakerList.room g.P.WakerList.room g.S.Waker.PartialEq.eq (topic_of c.args.self.now c.args.tables.now) c.args.self.now.lists c.turn_stream.new.self.lists c.args.cx.now c.turn_stream.new.wakes c.turn_stream.result.answer c.turn_stream.new.self.log c.args.held c.in-Stream.s c.in-Some-subscriber-2.id here c.in-Stream.is c.turn_stream.ensures.allowed);
  exact = (
      let here = sym c.subscriber-in-Stream.ensures.place ∙ c.in-Some-subscriber-2.is in
      stream_poll_hands g.G.Message.Clone.is_clone g.G.Message.Clone.is_infallible g.G.LogStore.capacity g.S.WakerList.room g.P.WakerList.room g.S.Waker.PartialEq.eq (topic_of c.args.self.now c.args.tables.now) c.args.self.now.lists c.turn_stream.new.self.lists c.args.cx.now c.turn_stream.new.wakes c.turn_stream.result.answer c.turn_stream.new.self.log c.args.held c.in-Stream.s c.in-Some-subscriber-2.id here c.in-Stream.is c.turn_stream.ensures.exact);
  place = rw c.in-Stream.is c.turn_stream.ensures.place;
  publishers = c.turn_stream.ensures.publishers;
}

pub returns-in-Publish : goal.returns-in-Publish
returns-in-Publish g c = record {
  allowed = rw c.in-Publish.is c.turn_publish.ensures.allowed;
  exact = rw c.in-Publish.is c.turn_publish.ensures.exact;
  place = rw c.in-Publish.is c.turn_publish.ensures.place;
  publishers = c.turn_publish.ensures.publishers;
}
