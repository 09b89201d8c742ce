use Rattle.std.proofs.Common.{◌≡◌, [], refl, sym}
use Rattle.esync_history.proofs.Kept.{not_all_ended}
use Rattle.esync_history.proofs.executor.Executor.outcome.Goals as goal

pub returns-then-not-is_empty-clause-tells : goal.returns-then-not-is_empty-clause-tells
returns-then-not-is_empty-clause-tells g c =
    let a = c.self.inside in
    let full : a.queue.numbers ≡ [] → ⊥ = λ e. (let t = c.if-not-is_empty.ensures.1 e in absurd cc) in
    rw (sym c.self.view_is) (not_all_ended a.tasks.items a.queue a.queue.numbers c.self.invariant.orderly refl full, full)
