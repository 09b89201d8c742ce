use Rattle.std.proofs.Common.{inl, inr, arith}
use Rattle.esync_base.proofs.Places.{slot-is}
use Rattle.esync_base.proofs.ring_buffer.behind.Goals as goal

pub returns-then-count-before_end : goal.returns-then-count-before_end
returns-then-count-before_end c = elim (slot-is c.args.n c.args.place c.args.count c.requires.place (omega arith)) [ inl e ↦ omega arith | inr e ↦ omega arith ]

pub returns-else-count-before_end : goal.returns-else-count-before_end
returns-else-count-before_end c = elim (slot-is c.args.n c.args.place c.args.count c.requires.place (omega arith)) [ inl e ↦ omega arith | inr e ↦ omega arith ]
