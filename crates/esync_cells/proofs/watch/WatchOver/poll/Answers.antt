use Rattle.std.proofs.Common.{rules, refl, sym, arith}
use Rattle.std.proofs.lemmas.List.{append-nil}
use Rattle.esync_cells.proofs.Handed.{handed_on}
use Rattle.esync_cells.proofs.watch.WatchOver.poll.Goals as goal

pub returns-in_err-value : goal.returns-in_err-value
returns-in_err-value g c = rw (handed_on c.from_residual.result c.in_err-value.field-0.0 c.from_residual.ensures) (record {
  answer = c.in_err-value.ensures.answer;
  seen = c.in_err-value.ensures.seen;
  state = refl;
  wakes = sym (append-nil c.args.wakes.now);
  at_most = omega arith;
})

pub returns-in-Some : goal.returns-in-Some
returns-in-Some g c = record {
  answer = rw c.in-Some.is at c.in_ok-value.ensures.answer;
  seen = rw c.in-Some.is at c.in_ok-value.ensures.seen;
  state = refl;
  wakes = sym (append-nil c.args.wakes.now);
  at_most = omega arith;
}

pub returns-in-None : goal.returns-in-None
returns-in-None g c = record {
  answer = rw c.in-None.is at c.in_ok-value.ensures.answer;
  seen = rw c.in-None.is at c.in_ok-value.ensures.seen;
  state = search rules;
  wakes = search rules;
  at_most = search rules;
}
