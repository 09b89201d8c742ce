use Rattle.std.proofs.Common.{◌∷◌, ◌++◌, [], sym, ap, ◌∙◌}
use Rattle.esync_history.proofs.Answering.{last_told}
use Rattle.esync_history.proofs.act.Heard.into_last.Goals as goal

pub returns : goal.returns
returns g c =
    let told = last_told c.args.self.first c.args.self.second in
    (told.0, told.1 ∙ ap (λ x. told.0 ++ x ∷ []) (sym c.unwrap_or.ensures))
