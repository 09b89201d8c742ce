use Rattle.std.proofs.Common.{Some, rules, refl, sym, subst}
use Rattle.std.proofs.lemmas.List.{append-nil}
use Rattle.esync_log.specs.Log.{Reads}
use Rattle.esync_pubsub.proofs.pubsub.PubSubOver.try_next_message.Goals as goal

pub returns-in-Ok-Some : goal.returns-in-Ok-Some
returns-in-Ok-Some g c = record {
  place = rw (← c.id.view_is) c.in-Ok-Some.ensures.place;
  ok = (
      let read = rw c.in-Ok-Some.field-0-is at c.in-Ok-Some.ensures.ok in
      let named = subst (λ i. Reads g.G.Message.Clone.is_clone i (g.G.LogStore.log c.self.inside.log) (Some c.in-Ok-Some.answer) (g.G.LogStore.log c.read.new.self)) c.id.view_is read in
      let viewed = subst (λ s. Reads g.G.Message.Clone.is_clone c.args.id.now s.log (Some c.in-Ok-Some.answer) (g.G.LogStore.log c.read.new.self)) c.self.view_is named in
      subst (λ s. Reads g.G.Message.Clone.is_clone c.args.id.now c.args.self.now.log (Some c.in-Ok-Some.answer) s.log) (sym c.tell_room.ensures.state) viewed);
  rest = rw (c.tell_room.ensures.state, c.len-held.ensures.value, ← c.self.view_is) refl;
  wakes = rw (c.tell_room.ensures.state, ← c.self.view_is) (rw c.len-held.ensures.value at c.tell_room.ensures.wakes);
  refused = search rules;
  unchanged = search rules;
  unwoken = search rules;
}

pub returns-in-Ok-None : goal.returns-in-Ok-None
returns-in-Ok-None g c = record {
  place = rw (← c.id.view_is) c.in-Ok-None.ensures.place;
  ok = rw (← c.self.view_is, ← c.id.view_is) (rw c.in-Ok-None.field-0-is at c.in-Ok-None.ensures.ok);
  rest = rw (← c.self.view_is) refl;
  wakes = sym (append-nil c.args.wakes.now);
  refused = search rules;
  unchanged = search rules;
  unwoken = search rules;
}

pub returns-in-Err : goal.returns-in-Err
returns-in-Err g c = record {
  place = rw (← c.id.view_is) c.in-Err.ensures.place;
  ok = search rules;
  rest = search rules;
  wakes = search rules;
  refused = rw (← c.self.view_is, ← c.id.view_is) c.in-Err.ensures.refused;
  unchanged = rw (← c.self.view_is, c.in-Err.ensures.err) refl;
  unwoken = refl;
}
