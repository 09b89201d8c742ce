use Rattle.std.proofs.Common.{Some, ◌∙◌, ap}
use Rattle.esync_log.proofs.log.LogOverLogStore.reader_count.Goals as goal

pub returns-then-index-len-clause-held : goal.returns-then-index-len-clause-held
returns-then-index-len-clause-held g c = rw (← c.self.view_is) (λ h. ap Some (c.count.ensures ∙ c.self.invariant.counted.each c.args.index h))
