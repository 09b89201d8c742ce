use Rattle.std.proofs.Common.{rules}
use Rattle.std.proofs.lemmas.List.{append-nil}
use Rattle.esync_pubsub.proofs.pubsub.PubSubOver.publish_or_wait.Goals as goal

pub returns-in-Err-Full : goal.returns-in-Err-Full
returns-in-Err-Full g c = record {
  log = search rules;
  rest = search rules;
  wakes = (
      let unwoken = rw (c.in-Err-Full.field-0-is, append-nil c.args.wakes.now) at c.in-Err-Full.ensures.wakes in
      rw (c.register.ensures.displaced, unwoken) (search rules));
}

pub returns-in-Ok : goal.returns-in-Ok
returns-in-Ok g c = record {
  log = c.in-Ok.ensures.log;
  rest = search rules;
  wakes = search rules;
}
