use Rattle.std.proofs.Common.{◌≡◌, None, refl, sym, ap, rules, arith, ◌∙◌}
use Rattle.std.specs.Prelude.{slice_set}
use Rattle.esync_machine.specs.NamesLaws.{number_below}
use Rattle.esync_machine.specs.Wakings.{IsHanded}
use Rattle.esync_machine.specs.declared.primitive.Answer.{Answer}
use Rattle.esync_machine.specs.declared.primitive.Answer.TheVariants.{Done}
use Rattle.esync_log.specs.Log.{left}
use Rattle.esync_pubsub.specs.PubSub.{frees}
use Rattle.esync_pubsub.specs.PubSubRules.{topic_of, room_hands}
use Rattle.esync_pubsub.specs.declared.pubsub.machine.PubSubHeard.{PubSubHeard}
use Rattle.esync_pubsub.proofs.Named.{named_leave}
use Rattle.esync_pubsub.proofs.Told.{leave_told}
use Rattle.esync_pubsub.proofs.Turns.{at_named, where_named}
use Rattle.esync_pubsub.proofs.pubsub.PubSubOver.leave_named.Goals as goal

pub put_subscriber-requires : goal.put_subscriber-requires
put_subscriber-requires g c =
    let here = sym c.subscriber.ensures.place ∙ c.in-Some.is in
    (search rules, omega (arith, number_below c.args.tables.now.subscribers c.args.s c.in-Some.id here, c.requires.named.subscribers))

pub returns : goal.returns
returns g c =
    let here = sym c.subscriber.ensures.place ∙ c.in-Some.is in
    let old = c.args.self.now in
    let new = c.unregister_subscriber.new.self in
    let o = topic_of old c.args.tables.now in
    let o2 = record o { log = new.log; subscribers = slice_set o.subscribers c.args.s None } in
    let done : Answer (PubSubHeard g.row.G-Message.Denot) = Done in
    let step = leave_told c.in-Some.id old new c.unregister_subscriber.new.wakes c.in-Some.ensures.live c.unregister_subscriber.ensures.step in
    record {
      allowed = rw c.put_subscriber.ensures (where_named o o2 done c.args.s c.in-Some.id (λ n. (done ≡ done) × (o2 ≡ record o { log = left n o.log; subscribers = slice_set o.subscribers c.args.s None })) here (refl, ap (λ x. record o { log = x.log; subscribers = slice_set o.subscribers c.args.s None }) step.0));
      exact = at_named o c.args.s c.in-Some.id (λ n. IsHanded (room_hands (frees old.log (left n old.log)) old.lists) c.unregister_subscriber.new.wakes new.lists) here (step.1, ap (λ x. x.lists) step.0);
      named = (
          rw c.put_subscriber.ensures
          (named_leave g.G.LogStore.capacity g.P.WakerList.room g.row.NAMES old new c.args.tables.now.subscribers c.args.tables.now.publishers c.requires.named c.args.s c.in-Some.id here (ap (λ x. x.log) step.0) (ap (λ x. x.publishers) step.0)));
    }
