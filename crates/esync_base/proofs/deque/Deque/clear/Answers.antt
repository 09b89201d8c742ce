use Rattle.std.proofs.Common.{◌≡◌, length, ap, ◌∙◌, arith}
use Rattle.std.proofs.lemmas.List.{nil_from_length}
use Rattle.esync_base.specs.Ring.{Ringed}
use Rattle.esync_base.proofs.Rings.{cleared}
use Rattle.esync_base.proofs.deque.Deque.clear.Goals as goal

pub invariant_of-self : goal.invariant_of-self
invariant_of-self g c =
    let a = c.self-2.inside in
    let none : length c.loop-item.self.items ≡ 0 = omega arith in
    (cleared g.row.N a.row a.start a.end a.full c.self-2.invariant (nil_from_length _ (ap (λ (v : Ringed _). length v.items) c.self-2.view_is ∙ none))).0

pub returns-clause-items : goal.returns-clause-items
returns-clause-items g c =
    let a = c.self-2.inside in
    let none : length c.loop-item.self.items ≡ 0 = omega arith in
    (cleared g.row.N a.row a.start a.end a.full c.self-2.invariant (nil_from_length _ (ap (λ (v : Ringed _). length v.items) c.self-2.view_is ∙ none))).1
