use Rattle.std.proofs.Common.{arith}
use Rattle.std.proofs.lemmas.Bool.Decides.{Decides-eqb}
use Rattle.esync_base.specs.Ring.{next}
use Rattle.esync_base.proofs.DequeParts.{places_fit}
use Rattle.esync_base.proofs.Rings.{pushed, free_at_end}
use Rattle.esync_base.proofs.Stretches.{slot-within}
use Rattle.esync_base.proofs.deque.Deque.append.Goals as goal

pub behind-next-requires : goal.behind-next-requires
behind-next-requires g c =
    let r = c.self.invariant in
    omega (arith, r.last, slot-within g.row.N c.self.inside.start _ r.first r.fits)

pub put-requires : goal.put-requires
put-requires g c =
    let a = c.self.inside in
    let r = c.self.invariant in
    let h = rw (← c.self.view_is) at c.requires in
    (places_fit g.row.T g.row.N c.requires-raw.1.1.0, (omega (arith, r.last, h, slot-within g.row.N c.self.inside.start _ r.first r.fits), free_at_end g.row.N a.row a.start a.end a.full r h))

pub invariant_of-self : goal.invariant_of-self
invariant_of-self g c =
    let a = c.self.inside in
    let r = c.self.invariant in
    let h = rw (← c.self.view_is) at c.requires in
    rw (c.put.ensures, c.behind-next.ensures) (pushed g.row.N a.row a.start a.end a.full r h c.args.item _ (Decides-eqb (next g.row.N a.end) a.start)).0

pub returns-clause-items : goal.returns-clause-items
returns-clause-items g c =
    let a = c.self.inside in
    let r = c.self.invariant in
    let h = rw (← c.self.view_is) at c.requires in
    rw (c.put.ensures, ← c.self.view_is) (pushed g.row.N a.row a.start a.end a.full r h c.args.item _ (Decides-eqb (next g.row.N a.end) a.start)).1
