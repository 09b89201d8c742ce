use Rattle.std.proofs.Common.{◌∙◌, ap}
use Rattle.esync_base.specs.Ring.{Ringed}
use Rattle.esync_base.proofs.Rings.{empty_row}
use Rattle.esync_base.proofs.deque.Deque.into_row.Goals as goal

pub returns : goal.returns
returns g c =
    let a = c.self.inside in
    empty_row g.row.N a.row a.start a.end a.full c.self.invariant (ap (λ (v : Ringed _). v.items) c.self.view_is ∙ c.requires)
