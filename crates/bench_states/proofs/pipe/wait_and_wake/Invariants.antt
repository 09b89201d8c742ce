use Rattle.std.proofs.Common.{◌≡◌, length, sum, take}
use Rattle.bench_states.proofs.pipe.wait_and_wake.Given as goal

abbrev pub invariant-loop-message : goal.invariant-loop-message
invariant-loop-message g l = record {
  empty : length l.state.ring.items ≡ 0;
  block : length l.block ≡ length l.initial.block;
  row : length l.row ≡ length l.initial.row;
  total : l.total ≡ sum (take l.message-index l.messages);
}
