use Rattle.std.proofs.Common.{◌≡◌, sum, take, false}
use Rattle.bench_states.proofs.mutex.lock_and_unlock.Given as goal

abbrev pub invariant-loop-message : goal.invariant-loop-message
invariant-loop-message l = (l.total ≡ sum (take l.message-index l.messages)) × (l.state.held ≡ false)
