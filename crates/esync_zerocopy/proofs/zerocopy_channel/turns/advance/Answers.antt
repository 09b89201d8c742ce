use Rattle.esync_zerocopy.proofs.Rounds.{round_advanced}
use Rattle.esync_zerocopy.proofs.zerocopy_channel.turns.advance.Goals as goal

pub returns-clause-round : goal.returns-clause-round
returns-clause-round c = rw c.behind-from.ensures (round_advanced _ _ _ _ _ c.requires.round c.requires.some)
