use Rattle.std.proofs.Common.{◌≡◌, ◌-◌, ap, arith, None, ◌∙◌}
use Rattle.std.proofs.Math.ListN.{replicate}
use Rattle.esync_base.specs.Rows.{row_of}
use Rattle.esync_priority.proofs.prio.PrioQueue.into_row.Goals as goal

pub returns : goal.returns
returns g c =
    let n = g.row.N in
    c.self.invariant.items.shape ∙ ap (λ xs. row_of n xs) (c.self.view_is ∙ c.requires) ∙ ap (λ k. replicate k None) (let e : n - 0 ≡ n = omega arith in e)
