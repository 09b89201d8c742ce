use Rattle.std.proofs.Common.{◌∙◌, ap}
use Rattle.std.specs.Prelude.{take}
use Rattle.std.proofs.lemmas.List.{take-replicate}
use Rattle.esync_script.proofs.zerocopy.zeros.Goals as goal

pub returns : goal.returns
returns g c = c.truncate.ensures.items ∙ ap (take c.args.count) c.from-values.ensures.0 ∙ take-replicate c.args.count g.row.N 0 c.requires
