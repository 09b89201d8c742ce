use Rattle.std.proofs.Common.{refl, sym, ◌∙◌}
use Rattle.esync_log.proofs.log.LogOverLogStore.available.Goals as goal

pub overflow_sub-result : goal.overflow_sub-result
overflow_sub-result g c = c.self.invariant.within c.args.place c.in-Some.position (sym c.get.ensures ∙ c.in-Some.is)

pub returns-in-Some : goal.returns-in-Some
returns-in-Some g c = rw (← c.self.view_is, sym c.get.ensures ∙ c.in-Some.is) refl
