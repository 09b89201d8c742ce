use Rattle.esync_pubsub.specs.Events.{Eventing}
use Rattle.esync_pubsub.specs.PubSub.{PubSub}
use Rattle.esync_pubsub.specs.PubSubRules.{topic_of, OwesFor}
use Rattle.esync_pubsub.specs.declared.pubsub.machine.PubSubAsk.{PubSubAsk}
use Rattle.esync_pubsub.proofs.Machine.{turn_kept, turn_quiet, turn_registered, turn_names, turn_fits}
use Rattle.esync_pubsub.proofs.Turns.{all_apart}
use Rattle.esync_pubsub.proofs.pubsub.machine.EventsPrimitive.poll.Goals as goal

pub returns-clause-registered : goal.returns-clause-registered
returns-clause-registered g c a =
    let fits = rw (← c.self.view_is) at c.requires.fits in
    let owes : Eventing (PubSub g.row.G-Message.Denot g.row.S-Waker.Denot) → PubSubAsk g.row.G-Message.Denot → g.row.S-Waker.Denot → Type 0 = λ m k v. OwesFor g.S.Waker.PartialEq.eq g.G.LogStore.capacity (topic_of m.state m.tables) m.state.lists k v in
    turn_registered g.G.Message.Clone.is_clone g.G.Message.Clone.is_infallible g.G.LogStore.capacity g.S.WakerList.room g.P.WakerList.room g.row.NAMES g.S.Waker.PartialEq.eq c.self.inside.state c.turn.new.self c.self.inside.tables c.self.invariant c.turn.new.wakes c.args.held c.args.waker c.turn.result.answer c.turn.result.place fits c.turn.ensures.allowed c.turn.ensures.exact owes (record { state = c.turn.new.self; tables = c.self.inside.tables }) (λ k x. x) g.met.S.Waker.Eq.laws.refl a

pub returns-clause-kept : goal.returns-clause-kept
returns-clause-kept g c other v f apart o =
    let fits = rw (← c.self.view_is) at c.requires.fits in
    let owed = rw (← c.self.view_is) at o in
    turn_kept g.G.Message.Clone.is_clone g.G.Message.Clone.is_infallible g.G.LogStore.capacity g.S.WakerList.room g.P.WakerList.room g.row.NAMES g.S.Waker.PartialEq.eq c.self.inside.state c.turn.new.self c.self.inside.tables c.self.invariant c.turn.new.wakes c.args.held c.args.waker c.turn.result.answer c.turn.result.place fits c.turn.ensures.allowed c.turn.ensures.exact other v owed

pub returns-clause-quiet : goal.returns-clause-quiet
returns-clause-quiet g c itself pending same place among =
    let fits = rw (← c.self.view_is) at c.requires.fits in
    turn_quiet g.G.Message.Clone.is_clone g.G.Message.Clone.is_infallible g.G.LogStore.capacity g.S.WakerList.room g.P.WakerList.room g.row.NAMES g.S.Waker.PartialEq.eq c.self.inside.state c.turn.new.self c.self.inside.tables c.self.invariant c.turn.new.wakes c.args.held c.args.waker c.turn.result.answer c.turn.result.place fits c.turn.ensures.allowed c.turn.ensures.exact pending (rw (← c.self.view_is) at same) among

pub returns-clause-others : goal.returns-clause-others
returns-clause-others g c other named apart =
    let fits = rw (← c.self.view_is) at c.requires.fits in
    (turn_names g.G.Message.Clone.is_clone g.G.Message.Clone.is_infallible g.G.LogStore.capacity g.S.WakerList.room g.P.WakerList.room g.row.NAMES g.S.Waker.PartialEq.eq c.self.inside.state c.turn.new.self c.self.inside.tables c.self.invariant c.turn.new.wakes c.args.held c.args.waker c.turn.result.answer c.turn.result.place fits c.turn.ensures.allowed c.turn.ensures.exact other (rw (← c.self.view_is) at named), all_apart _ other)

pub returns-clause-fits : goal.returns-clause-fits
returns-clause-fits g c =
    let fits = rw (← c.self.view_is) at c.requires.fits in
    turn_fits g.G.Message.Clone.is_clone g.G.Message.Clone.is_infallible g.G.LogStore.capacity g.S.WakerList.room g.P.WakerList.room g.row.NAMES g.S.Waker.PartialEq.eq c.self.inside.state c.turn.new.self c.self.inside.tables c.self.invariant c.turn.new.wakes c.args.held c.args.waker c.turn.result.answer c.turn.result.place fits c.turn.ensures.allowed c.turn.ensures.exact
