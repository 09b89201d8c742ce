use Rattle.std.proofs.Common.{◌≡◌, ◌-◌, ◌^◌, sum, take, []}
use Rattle.bench_states.proofs.pool.acquire_and_release.Given as goal

abbrev pub invariant-loop-message : goal.invariant-loop-message
invariant-loop-message g l = record {
  available : g.P.Pool.available l.pool ≡ 2 ^ 32 - 1;
  nobody : g.P.Pool.waiting l.pool ≡ [];
  total : l.total ≡ sum (take l.message-index l.messages);
}
