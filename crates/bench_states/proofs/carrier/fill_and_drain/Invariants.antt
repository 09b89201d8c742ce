use Rattle.std.proofs.Common.{◌≡◌, ◌+◌, length, sum}
use Rattle.bench_states.proofs.carrier.fill_and_drain.Given as goal

abbrev pub invariant-loop-rest : goal.invariant-loop-rest
invariant-loop-rest g l = record {
  empty : length (g.C.Carrier.held l.carrier) ≡ 0;
  total : l.total + sum l.rest ≡ sum l.messages;
}

abbrev pub decreases-loop-rest : goal.decreases-loop-rest
decreases-loop-rest g l = length l.rest
