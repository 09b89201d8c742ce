use Rattle.std.proofs.Common.{inl, inr, arith}
use Rattle.esync_base.proofs.Rings.{between}
use Rattle.esync_base.proofs.deque.Deque.len.Goals as goal

pub returns-then-self-2-clause-value : goal.returns-then-self-2-clause-value
returns-then-self-2-clause-value g c =
    let a = c.self.inside in
    rw (← c.self.view_is) (elim (between g.row.N a.row a.start a.end a.full c.self.invariant c.if-self.false) [ inl s ↦ s.1 | inr s ↦ omega arith ])

pub returns-else-self-2 : goal.returns-else-self-2
returns-else-self-2 g c =
    let a = c.self.inside in
    elim (between g.row.N a.row a.start a.end a.full c.self.invariant c.if-self.false) [ inl s ↦ omega arith | inr s ↦ record { value = rw (← c.self.view_is) s.1; within = s.2 } ]
