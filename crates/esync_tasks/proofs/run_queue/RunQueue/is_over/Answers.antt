use Rattle.std.proofs.Common.{ap, sym, ◌∙◌, subst}
use Rattle.std.specs.Prelude.{All}
use Rattle.esync_base.specs.ListedLaws.{same_number, equal_number}
use Rattle.esync_tasks.specs.RunQueue.{HasEnded}
use Rattle.esync_tasks.proofs.Orderly.{all_from_none_left, none_left_from_all}
use Rattle.esync_tasks.proofs.run_queue.RunQueue.is_over.Goals as goal

pub returns : goal.returns
returns g c =
    let states = ap (λ t. t.states) c.self.view_is in (
      (λ h. subst (All HasEnded) states (all_from_none_left _ (sym c.self.invariant.left ∙ same_number _ _ h))),
      (λ all. equal_number _ _ (c.self.invariant.left ∙ none_left_from_all _ (subst (All HasEnded) (sym states) all))),
    )
