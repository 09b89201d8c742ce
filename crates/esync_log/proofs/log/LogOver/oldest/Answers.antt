use Rattle.std.proofs.Common.{refl}
use Rattle.esync_log.proofs.log.LogOver.oldest.Goals as goal

pub returns : goal.returns
returns g c = rw (← c.self.view_is, ← c.len.ensures.value) refl
