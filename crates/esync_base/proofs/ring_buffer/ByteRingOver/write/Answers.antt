use Rattle.std.proofs.Common.{◌≡◌, ◌≤◌, ◌-◌, length, take, arith}
use Rattle.std.proofs.lemmas.List.{length-take-le}
use Rattle.esync_base.proofs.Stretches.{laid-in-first}
use Rattle.esync_base.proofs.ring_buffer.ByteRingOver.write.Goals as goal
use Rattle.esync_base.proofs.ring_buffer.ByteRingOver.write.Goals.{then-from-free, else-from-free}

pub returns-clause-items : goal.returns-clause-items
returns-clause-items g c =
    let a = c.self.inside in
    let ys = take c.if-from-free.n c.args.from.now in
    let small : c.if-from-free.n ≤ length c.args.from.now = elim c.if-from-free.branch [ then-from-free w ↦ omega arith | else-from-free w ↦ omega arith ] in
    let room : c.if-from-free.n ≤ g.E.Extent.extent - a.ring.count = elim c.if-from-free.branch [ then-from-free w ↦ omega arith | else-from-free w ↦ omega arith ] in
    let t : length ys ≡ c.if-from-free.n = length-take-le c.if-from-free.n c.args.from.now small in
    let held = rw t at (laid-in-first g.E.Extent.extent a.row.bytes a.ring ys c.self.invariant.1 (let f = c.self.invariant.1.fits in omega arith)) in
    rw (c.push.ensures, c.copy_in_runs.ensures, c.end-start.ensures.value, c.places-places.ensures, ← c.self.view_is) held
