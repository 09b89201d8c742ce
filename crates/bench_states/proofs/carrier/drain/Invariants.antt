use Rattle.std.proofs.Common.{◌≡◌, ◌+◌, length, sum}
use Rattle.bench_states.proofs.carrier.drain.Given as goal

abbrev pub invariant-loop : goal.invariant-loop
invariant-loop g l = record {
  held : length (g.C.Carrier.held l.carrier) + l.counter ≡ length (g.C.Carrier.held l.initial.carrier);
  total : l.total + sum (g.C.Carrier.held l.carrier) ≡ sum (g.C.Carrier.held l.initial.carrier);
}
