use Rattle.std.proofs.Common.{inl, inr, arith}
use Rattle.esync_base.proofs.Places.{slot-is}
use Rattle.esync_base.proofs.deque.Deque.slot_of.Goals as goal

pub returns-then-i-before_end-clause-place : goal.returns-then-i-before_end-clause-place
returns-then-i-before_end-clause-place g c =
    let f = c.self.invariant.fits in
    let h = rw (← c.self.view_is) at c.requires in
    rw (← c.self.view_is) (elim (slot-is g.row.N c.self.inside.start c.args.i c.self.invariant.first (omega arith)) [ inl e ↦ omega arith | inr e ↦ omega arith ])

pub returns-else-i-before_end-clause-place : goal.returns-else-i-before_end-clause-place
returns-else-i-before_end-clause-place g c =
    let f = c.self.invariant.fits in
    let h = rw (← c.self.view_is) at c.requires in
    rw (← c.self.view_is) (elim (slot-is g.row.N c.self.inside.start c.args.i c.self.invariant.first (omega arith)) [ inl e ↦ omega arith | inr e ↦ omega arith ])
