use Rattle.std.proofs.Common.{◌≡◌, sum, take}
use Rattle.bench_states.proofs.signal.signal_and_take.Given as goal

abbrev pub invariant-loop-message : goal.invariant-loop-message
invariant-loop-message l = l.total ≡ sum (take l.message-index l.messages)
