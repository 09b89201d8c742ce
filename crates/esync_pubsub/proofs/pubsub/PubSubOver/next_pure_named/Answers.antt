use Rattle.std.proofs.Common.{None, refl, sym, ◌∙◌}
use Rattle.esync_machine.specs.Wakings.{IsHanded, unless_refused}
use Rattle.esync_pubsub.specs.PubSubRules.{topic_of, WithLog, TriesPure, pure_hands, pure_of}
use Rattle.esync_pubsub.proofs.Turns.{at_named, where_named}
use Rattle.esync_pubsub.proofs.pubsub.PubSubOver.next_pure_named.Goals as goal

pub returns : goal.returns
returns g c =
    let here = sym c.subscriber.ensures.place ∙ c.in-Some.is in
    record {
      allowed = (
          let old = topic_of c.args.self.now c.args.tables.now in
          let new = topic_of c.try_next_pure.new.self c.args.tables.now in
          where_named old new c.try_next_pure.result c.args.s c.in-Some.id (λ n. TriesPure g.G.Message.Clone.is_clone g.G.Message.Clone.is_infallible n old.log c.try_next_pure.result new.log × WithLog old new) here (c.try_next_pure.ensures.allowed, refl));
      exact = (
          let s = c.args.self.now in
          at_named (topic_of s c.args.tables.now) c.args.s c.in-Some.id (λ n. IsHanded (unless_refused c.try_next_pure.result s.lists (pure_hands g.S.Waker.PartialEq.eq g.S.WakerList.room g.P.WakerList.room n s.log None (pure_of c.try_next_pure.result) s.lists)) c.try_next_pure.new.wakes c.try_next_pure.new.self.lists) here c.try_next_pure.ensures.exact);
      publishers = c.try_next_pure.ensures.publishers;
    }
