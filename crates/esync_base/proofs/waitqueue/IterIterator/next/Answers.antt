use Rattle.std.proofs.Common.{◌∙◌, sym, ap, subst}
use Rattle.std.specs.Prelude.{◌≡◌, Some, map}
use Rattle.std.specs.Iterator.{YieldsFirst}
use Rattle.esync_base.specs.Rows.{items_of}
use Rattle.esync_base.proofs.Lists.{filled_rest, filled_first}
use Rattle.esync_base.proofs.waitqueue.IterIterator.next.Goals as goal

pub invariant_of-self : goal.invariant_of-self
invariant_of-self g c =
    let split = c.in_ok-first.ensures.cases.0 in
    filled_rest c.in_ok-first.first.now c.in_ok-first.rest.now (subst (λ row. row ≡ map Some (items_of row)) split c.self.invariant)

pub returns-clause-steps : goal.returns-clause-steps
returns-clause-steps g c =
    let split = c.in_ok-first.ensures.cases.0 in
    let filled = subst (λ row. row ≡ map Some (items_of row)) split c.self.invariant in
    let seen = sym (ap items_of split) ∙ c.self.view_is in
    subst (λ xs. YieldsFirst (λ s. s) xs c.in_ok-first.first.now (items_of c.in_ok-first.rest.now)) seen (filled_first c.in_ok-first.first.now c.in_ok-first.rest.now filled)
