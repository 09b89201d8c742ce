use Rattle.std.proofs.Common.{None, refl, sym, ◌∙◌}
use Rattle.esync_machine.specs.Wakings.{IsHanded, unless_refused}
use Rattle.esync_pubsub.specs.PubSubRules.{topic_of, WithLog, Tries, read_hands, read_of}
use Rattle.esync_pubsub.proofs.Turns.{at_named, where_named}
use Rattle.esync_pubsub.proofs.pubsub.PubSubOver.next_named.Goals as goal

pub returns : goal.returns
returns g c =
    let here = sym c.subscriber.ensures.place ∙ c.in-Some.is in
    record {
      allowed = (
          let old = topic_of c.args.self.now c.args.tables.now in
          let new = topic_of c.try_next.new.self c.args.tables.now in
          where_named old new c.try_next.result c.args.s c.in-Some.id (λ n. Tries g.G.Message.Clone.is_clone g.G.Message.Clone.is_infallible n old.log c.try_next.result new.log × WithLog old new) here (c.try_next.ensures.allowed, refl));
      exact = (
          let s = c.args.self.now in
          at_named (topic_of s c.args.tables.now) c.args.s c.in-Some.id (λ n. IsHanded (unless_refused c.try_next.result s.lists (read_hands g.S.Waker.PartialEq.eq g.S.WakerList.room g.P.WakerList.room n s.log None (read_of c.try_next.result) s.lists)) c.try_next.new.wakes c.try_next.new.self.lists) here c.try_next.ensures.exact);
      publishers = c.try_next.ensures.publishers;
    }
