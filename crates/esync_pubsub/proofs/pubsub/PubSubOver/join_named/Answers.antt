use Rattle.std.proofs.Common.{rules, arith, sym, ap, ◌∙◌}
use Rattle.esync_machine.specs.NamesLaws.{free_below}
use Rattle.esync_log.specs.Log.{is_live}
use Rattle.esync_pubsub.specs.PubSubRules.{topic_of}
use Rattle.esync_pubsub.proofs.Named.{refused_same, named_same, named_join}
use Rattle.esync_pubsub.proofs.Turns.{where_true}
use Rattle.esync_pubsub.proofs.pubsub.PubSubOver.join_named.Goals as goal

pub put_subscriber-requires : goal.put_subscriber-requires
put_subscriber-requires g c =
    let free = sym c.is_subscriber_free.ensures ∙ c.if-not-is_subscriber_free.false in
    (search rules, omega (arith, free_below c.args.tables.now.subscribers c.args.s free, c.requires.named.subscribers))

pub returns-in-Ok : goal.returns-in-Ok
returns-in-Ok g c =
    let free = sym c.is_subscriber_free.ensures ∙ c.if-not-is_subscriber_free.false in
    record {
      allowed = (
          let put = rw c.place_of.ensures at c.put_subscriber.ensures in
          where_true _ (topic_of c.args.self.now c.args.tables.now) _ _ _ free (c.in-Ok.id, c.in-Ok.ensures.log, ap (λ t. topic_of c.subscribe.new.self t) put));
      named = (
          rw (c.put_subscriber.ensures, c.place_of.ensures)
          (named_join g.G.LogStore.capacity g.P.WakerList.room g.row.NAMES c.args.self.now c.subscribe.new.self c.args.tables.now.subscribers c.args.tables.now.publishers c.requires.named c.args.s c.in-Ok.id c.in-Ok.ensures.log free (ap (λ x. x.publishers) c.in-Ok.ensures.rest)));
      lists = search rules;
    }

pub returns-in-Err : goal.returns-in-Err
returns-in-Err g c = record {
  allowed = search rules;
  named = named_same g.G.LogStore.capacity g.P.WakerList.room g.row.NAMES c.args.self.now c.subscribe.new.self c.args.tables.now.subscribers c.args.tables.now.publishers c.requires.named (ap (λ x. x.publishers) c.in-Err.ensures.rest) (λ q. ap (λ x. is_live q x) (refused_same c.in-Err.error c.args.self.now.log c.subscribe.new.self.log c.in-Err.ensures.log));
  lists = search rules;
}
