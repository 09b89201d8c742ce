use Rattle.std.proofs.Common.{◌∙◌, sym, rules}
use Rattle.std.specs.List.{list_any}
use Rattle.std.proofs.lemmas.Iterator.{YieldsList-from_slice}
use Rattle.std.proofs.lemmas.Iterator.Search.{any_from_yields_List}
use Rattle.esync_history.specs.Suited.{awaits_at}
use Rattle.esync_history.proofs.Fitting.{any-items}
use Rattle.esync_history.proofs.suited.some_awaits_at.Goals as goal

pub returns : goal.returns
returns g c =
    any_from_yields_List (λ v. list_any (awaits_at c.args.r) v.items) _ _ c.any.result c.any.ensures.ran (YieldsList-from_slice c.args.tasks.now cc) (λ x b q k. search rules)
    ∙ sym (any-items (awaits_at c.args.r) (λ v. v.items) c.args.tasks.now)
