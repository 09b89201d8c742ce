use Rattle.std.proofs.Common.{rules, arith, sym, ◌∙◌}
use Rattle.esync_machine.specs.Numbers.{at_number}
use Rattle.esync_machine.specs.NamesLaws.{number_below}
use Rattle.esync_pubsub.proofs.Named.{some_there, named_retire}
use Rattle.esync_pubsub.proofs.pubsub.PubSubOver.retire_named.Goals as goal

pub put_publisher-requires : goal.put_publisher-requires
put_publisher-requires g c =
    let here = sym c.is_publisher.ensures ∙ c.if-not-is_publisher.false in
    let named = some_there (at_number c.args.tables.now.publishers c.args.p) here in
    (search rules, omega (arith, number_below c.args.tables.now.publishers c.args.p named.0 named.1, c.requires.named.publishers))

pub returns : goal.returns
returns g c = record {
  allowed = search rules;
  named = (
      let here = sym c.is_publisher.ensures ∙ c.if-not-is_publisher.false in
      let named = some_there (at_number c.args.tables.now.publishers c.args.p) here in
      rw c.put_publisher.ensures
      (named_retire g.G.LogStore.capacity g.P.WakerList.room g.row.NAMES c.args.self.now c.unregister_publisher.new.self c.args.tables.now.subscribers c.args.tables.now.publishers c.requires.named c.args.p named.0 named.1 c.unregister_publisher.ensures));
  lists = search rules;
}
