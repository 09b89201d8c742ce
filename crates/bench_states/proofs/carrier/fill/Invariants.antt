use Rattle.std.proofs.Common.{◌≡◌, ◌+◌, length, sum, take}
use Rattle.bench_states.proofs.carrier.fill.Given as goal

abbrev pub invariant-loop-message : goal.invariant-loop-message
invariant-loop-message g l = record {
  held : length (g.C.Carrier.held l.carrier) ≡ length (g.C.Carrier.held l.initial.carrier) + l.message-index;
  total : sum (g.C.Carrier.held l.carrier) ≡ sum (g.C.Carrier.held l.initial.carrier) + sum (take l.message-index l.messages);
}
