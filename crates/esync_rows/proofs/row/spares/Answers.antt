use Rattle.std.proofs.Common.{rules}
use Rattle.esync_rows.proofs.Held.{all_none}
use Rattle.esync_rows.proofs.row.spares.Goals as goal

pub returns : goal.returns
returns g c = all_none c.from_fn.result g.row.N c.from_fn.ensures.items.long (λ i e h. let k = c.from_fn.ensures.items.at i e h in search rules)
