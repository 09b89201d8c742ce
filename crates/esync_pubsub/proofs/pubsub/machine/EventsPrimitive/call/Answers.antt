use Rattle.std.proofs.Common.{◌≡◌, false, sym, subst}
use Rattle.esync_machine.specs.Rules.{ended}
use Rattle.esync_pubsub.specs.Events.{Eventing}
use Rattle.esync_pubsub.specs.PubSub.{PubSub}
use Rattle.esync_pubsub.specs.PubSubRules.{topic_of, reach, pubsub_rules}
use Rattle.esync_pubsub.proofs.Machine.{call_stays}
use Rattle.esync_pubsub.proofs.Turns.{all_apart}
use Rattle.esync_pubsub.proofs.pubsub.machine.EventsPrimitive.call.Goals as goal

pub returns-clause-exact : goal.returns-clause-exact
returns-clause-exact g c = rw (← c.self.view_is) c.perform.ensures.exact

pub returns-clause-kept : goal.returns-clause-kept
returns-clause-kept g c other v f apart n o =
    let fits = rw (← c.self.view_is) at f in
    let stays = subst (λ (m : Eventing (PubSub g.row.G-Message.Denot g.row.S-Waker.Denot)). ended (pubsub_rules g.G.Message.Clone.is_clone g.G.Message.Clone.is_infallible g.G.LogStore.capacity g.P.WakerList.room) (topic_of m.state m.tables) (reach c.args.call) c.args.call other ≡ false) (sym c.self.view_is) n in
    let owed = rw (← c.self.view_is) at o in
    (call_stays g.G.Message.Clone.is_clone g.G.Message.Clone.is_infallible g.G.LogStore.capacity g.S.WakerList.room g.P.WakerList.room g.row.NAMES g.S.Waker.PartialEq.eq c.self.inside.state c.perform.new.self c.self.inside.tables c.self.invariant c.perform.new.wakes c.perform.new.tables c.args.call c.perform.result c.perform.ensures.allowed c.perform.ensures.exact other fits stays).owed v owed

pub returns-clause-others : goal.returns-clause-others
returns-clause-others g c other f apart n =
    let fits = rw (← c.self.view_is) at f in
    let stays = subst (λ (m : Eventing (PubSub g.row.G-Message.Denot g.row.S-Waker.Denot)). ended (pubsub_rules g.G.Message.Clone.is_clone g.G.Message.Clone.is_infallible g.G.LogStore.capacity g.P.WakerList.room) (topic_of m.state m.tables) (reach c.args.call) c.args.call other ≡ false) (sym c.self.view_is) n in
    ((call_stays g.G.Message.Clone.is_clone g.G.Message.Clone.is_infallible g.G.LogStore.capacity g.S.WakerList.room g.P.WakerList.room g.row.NAMES g.S.Waker.PartialEq.eq c.self.inside.state c.perform.new.self c.self.inside.tables c.self.invariant c.perform.new.wakes c.perform.new.tables c.args.call c.perform.result c.perform.ensures.allowed c.perform.ensures.exact other fits stays).names, all_apart _ other)
