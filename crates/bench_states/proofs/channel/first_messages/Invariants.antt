use Rattle.std.proofs.Common.{◌≡◌, sum, take}
use Rattle.bench_states.proofs.channel.first_messages.Given as goal

abbrev pub invariant-loop-message : goal.invariant-loop-message
invariant-loop-message g l = l.total ≡ sum (take l.message-index l.messages)
