use Rattle.std.proofs.Common.{◌≡◌, length, sum, take}
use Rattle.bench_states.proofs.carrier.wait_and_wake.Given as goal

abbrev pub invariant-loop-message : goal.invariant-loop-message
invariant-loop-message g l = record {
  empty : length (g.C.Carrier.held l.carrier) ≡ 0;
  total : l.total ≡ sum (take l.message-index l.messages);
}
