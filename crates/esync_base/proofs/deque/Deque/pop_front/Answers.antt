use Rattle.std.proofs.Common.{◌<◌, length, arith}
use Rattle.esync_base.proofs.Lists.{some_items}
use Rattle.esync_base.proofs.DequeParts.{places_fit}
use Rattle.esync_base.proofs.Rings.{pops, held_at}
use Rattle.esync_base.proofs.deque.Deque.pop_front.Goals as goal

pub invariant_of-self : goal.invariant_of-self
invariant_of-self g c =
    let a = c.self.inside in
    let p = pops g.row.N a.row a.start a.end a.full c.self.invariant c.args.self.now c.self.view_is _ _ _ (λ e. let k = c.is_empty.ensures.1 e in cc) c.take-item.ensures.item c.take-item.ensures.places c.behind-self-inside.ensures in
    p.ring

pub returns-clause-item : goal.returns-clause-item
returns-clause-item g c =
    let a = c.self.inside in
    let p = pops g.row.N a.row a.start a.end a.full c.self.invariant c.args.self.now c.self.view_is _ _ _ (λ e. let k = c.is_empty.ensures.1 e in cc) c.take-item.ensures.item c.take-item.ensures.places c.behind-self-inside.ensures in
    p.items

pub returns-clause-places : goal.returns-clause-places
returns-clause-places g c =
    let a = c.self.inside in
    let p = pops g.row.N a.row a.start a.end a.full c.self.invariant c.args.self.now c.self.view_is _ _ _ (λ e. let k = c.is_empty.ensures.1 e in cc) c.take-item.ensures.item c.take-item.ensures.places c.behind-self-inside.ensures in
    p.places

pub take-item-requires : goal.take-item-requires
take-item-requires g c =
    let a = c.self.inside in
    let all : 0 < length c.args.self.now.items = some_items c.is_empty.result c.args.self.now.items c.is_empty.ensures c.if-is_empty.false in
    let some = rw (← c.self.view_is) at all in
    (places_fit g.row.T g.row.N c.requires-raw.1.1, (omega (arith, some, c.self.invariant.fits, c.self.invariant.first), held_at g.row.N a.row a.start a.end a.full c.self.invariant 0 some))
