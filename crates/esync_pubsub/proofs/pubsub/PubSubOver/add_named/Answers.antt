use Rattle.std.proofs.Common.{rules, arith, sym, ap, ◌∙◌}
use Rattle.esync_machine.specs.NamesLaws.{free_below}
use Rattle.esync_log.specs.Log.{is_live}
use Rattle.esync_pubsub.specs.PubSubRules.{topic_of}
use Rattle.esync_pubsub.proofs.Named.{counted_as, refused_count, refused_publisher, named_same, named_publisher}
use Rattle.esync_pubsub.proofs.Turns.{where_true}
use Rattle.esync_pubsub.proofs.pubsub.PubSubOver.add_named.Goals as goal

pub put_publisher-requires : goal.put_publisher-requires
put_publisher-requires g c =
    let free = sym c.is_publisher_free.ensures ∙ c.if-not-is_publisher_free.false in
    (search rules, omega (arith, free_below c.args.tables.now.publishers c.args.p free, c.requires.named.publishers))

pub returns-in-Ok : goal.returns-in-Ok
returns-in-Ok g c = record {
  allowed = search rules;
  named = (
      let free = sym c.is_publisher_free.ensures ∙ c.if-not-is_publisher_free.false in
      rw c.put_publisher.ensures
      (named_publisher g.G.LogStore.capacity g.P.WakerList.room g.row.NAMES c.args.self.now c.add_publisher.new.self c.args.tables.now.subscribers c.args.tables.now.publishers c.requires.named c.args.p free c.in-Ok.ensures.count.0 (counted_as g.P.WakerList.room c.args.self.now c.add_publisher.new.self c.in-Ok.ensures.rest _ c.in-Ok.ensures.count.1)));
  lists = search rules;
}

pub returns-in-Err : goal.returns-in-Err
returns-in-Err g c = record {
  allowed = (
      let free = sym c.is_publisher_free.ensures ∙ c.if-not-is_publisher_free.false in
      where_true _ (topic_of c.args.self.now c.args.tables.now) _ _ _ free (refused_publisher g.P.WakerList.room c.args.self.now c.add_publisher.new.self c.in-Err.ensures.rest c.args.tables.now c.args.p c.in-Err.error c.requires.named.counted c.in-Err.ensures.count));
  named = named_same g.G.LogStore.capacity g.P.WakerList.room g.row.NAMES c.args.self.now c.add_publisher.new.self c.args.tables.now.subscribers c.args.tables.now.publishers c.requires.named (refused_count g.P.WakerList.room c.args.self.now c.add_publisher.new.self c.in-Err.ensures.rest c.in-Err.error c.in-Err.ensures.count) (λ q. ap (λ x. is_live q x.log) c.in-Err.ensures.rest);
  lists = search rules;
}
