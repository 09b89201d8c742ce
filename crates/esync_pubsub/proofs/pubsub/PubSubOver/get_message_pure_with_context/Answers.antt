use Rattle.std.proofs.Common.{rules}
use Rattle.std.proofs.lemmas.List.{append-nil}
use Rattle.esync_pubsub.proofs.pubsub.PubSubOver.get_message_pure_with_context.Goals as goal

pub returns-in-Ok-None : goal.returns-in-Ok-None
returns-in-Ok-None g c = record {
  ok = search rules;
  rest = search rules;
  wakes = (
      let unwoken = rw (c.in-Ok-None.field-0-is, append-nil c.args.wakes.now) at c.in-Ok-None.ensures.wakes in
      rw (c.register.ensures.displaced, unwoken) (search rules));
  refused = search rules;
  unchanged = search rules;
  unwoken = search rules;
}

pub returns-in-Ok-Some : goal.returns-in-Ok-Some
returns-in-Ok-Some g c = record {
  ok = rw c.in-Ok-Some.field-0-is at c.in-Ok-Some.ensures.ok;
  rest = rw c.in-Ok-Some.field-0-is at c.in-Ok-Some.ensures.rest;
  wakes = rw c.in-Ok-Some.field-0-is at c.in-Ok-Some.ensures.wakes;
  refused = search rules;
  unchanged = search rules;
  unwoken = search rules;
}

pub returns-in-Err : goal.returns-in-Err
returns-in-Err g c = record {
  ok = search rules;
  rest = search rules;
  wakes = search rules;
  refused = c.in-Err.ensures.refused;
  unchanged = c.in-Err.ensures.unchanged;
  unwoken = c.in-Err.ensures.unwoken;
}
