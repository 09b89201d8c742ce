use Rattle.std.specs.Prelude.{refl}
use Rattle.esync_base.proofs.Rings.{is_empty, not_true}
use Rattle.esync_base.proofs.deque.Deque.is_empty.Goals as goal

pub returns-then-self : goal.returns-then-self
returns-then-self g c =
    let a = c.self.inside in
    let e = is_empty g.row.N a.row a.start a.end a.full c.self.invariant in
    rw (← c.self.view_is) (λ t. e.0 (c.if-self.true, not_true a.full t), λ h. rw (e.1 h).1 refl)
