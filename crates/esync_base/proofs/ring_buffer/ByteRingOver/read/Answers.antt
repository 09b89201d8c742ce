use Rattle.std.proofs.Common.{◌≡◌, ◌≤◌, ◌++◌, length, take, drop, ap, arith}
use Rattle.std.proofs.lemmas.List.{length-take-le}
use Rattle.esync_base.proofs.Stretches.{laid-left, laid-rest, oldest-to-end}
use Rattle.esync_base.proofs.ring_buffer.ByteRingOver.read.Goals as goal
use Rattle.esync_base.proofs.ring_buffer.ByteRingOver.read.Goals.{then-to-held, else-to-held}

pub invariant_of-self : goal.invariant_of-self
invariant_of-self g c =
    let a = c.self.inside in
    let there : c.if-to-held.n ≤ a.ring.count = elim c.if-to-held.branch [ then-to-held w ↦ omega arith | else-to-held w ↦ omega arith ] in
    (c.self.invariant.0, rw c.pop.ensures (laid-left g.E.Extent.extent (take g.E.Extent.extent a.row.bytes) a.ring c.if-to-held.n c.self.invariant.1 there))

pub returns-clause-bytes : goal.returns-clause-bytes
returns-clause-bytes g c =
    let a = c.self.inside in
    let n = c.if-to-held.n in
    let there : n ≤ a.ring.count = elim c.if-to-held.branch [ then-to-held w ↦ omega arith | else-to-held w ↦ omega arith ] in
    let small : n ≤ length c.args.to.now = elim c.if-to-held.branch [ then-to-held w ↦ omega arith | else-to-held w ↦ omega arith ] in
    let t : length (take n c.args.to.now) ≡ n = length-take-le n c.args.to.now small in
    ap (λ x. x ++ drop n c.args.to.now) (rw (c.copy_out_runs.ensures, c.first-start.ensures.value, c.places-places.ensures, t, ← c.self.view_is) (oldest-to-end g.E.Extent.extent (take g.E.Extent.extent a.row.bytes) a.ring n c.self.invariant.1 there))

pub returns-clause-items : goal.returns-clause-items
returns-clause-items g c =
    let a = c.self.inside in
    let there : c.if-to-held.n ≤ a.ring.count = elim c.if-to-held.branch [ then-to-held w ↦ omega arith | else-to-held w ↦ omega arith ] in
    rw (c.pop.ensures, ← c.self.view_is) (laid-rest g.E.Extent.extent (take g.E.Extent.extent a.row.bytes) a.ring c.if-to-held.n c.self.invariant.1 there)
