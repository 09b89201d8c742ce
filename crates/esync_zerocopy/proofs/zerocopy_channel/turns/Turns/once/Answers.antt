use Rattle.std.proofs.Common.{subst}
use Rattle.esync_zerocopy.specs.Slots.{EachOnce}
use Rattle.esync_zerocopy.proofs.Rounds.{once_of_round}
use Rattle.esync_zerocopy.proofs.zerocopy_channel.turns.Turns.once.Goals as goal

pub returns : goal.returns
returns g c = subst (λ t. EachOnce t.sides) c.self.view_is (once_of_round _ _ _ _ _ _ _ c.self.invariant.0 c.self.invariant.1)
