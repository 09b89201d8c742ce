use Rattle.std.proofs.Common.{arith}
use Rattle.esync_base.proofs.Rings.{is_held, item_seen, holds_behind, removed_seen}
use Rattle.esync_base.proofs.DequeParts.{places_fit}
use Rattle.esync_base.proofs.deque.Deque.remove.Goals as goal

pub take-removed-requires : goal.take-removed-requires
take-removed-requires g c =
    let a = c.self.inside in
    (places_fit g.row.T g.row.N c.requires-raw.1.1.0, (c.slot_of-gap.ensures.below, is_held g.row.N a.row a.start a.end a.full c.self.invariant c.args.self.now c.self.view_is c.args.i _ c.requires c.slot_of-gap.ensures.place))

pub close-self-inside-requires : goal.close-self-inside-requires
close-self-inside-requires g c =
    let a = c.self.inside in
    let l = c.len.ensures.value in
    let h = holds_behind g.row.N a.row a.start a.end a.full c.self.invariant c.args.self.now c.self.view_is c.args.i _ _ c.requires c.slot_of-gap.ensures.place (omega (arith, c.requires)) _ c.take-removed.ensures.places in
    (places_fit g.row.T g.row.N c.requires-raw.1.1.0, (c.slot_of-gap.ensures.below, (h.0, (h.1, (h.2, h.3)))))

pub invariant_of-self : goal.invariant_of-self
invariant_of-self g c =
    let a = c.self.inside in
    let l = c.len.ensures.value in
    (removed_seen g.row.N a.row a.start a.end a.full c.self.invariant c.args.self.now c.self.view_is c.args.i _ _ c.requires c.slot_of-gap.ensures.place (omega (arith, c.requires)) _ _ _ c.take-removed.ensures.places c.close-self-inside.ensures.places c.close-self-inside.ensures.gap).0

pub returns-clause-items : goal.returns-clause-items
returns-clause-items g c =
    let a = c.self.inside in
    let l = c.len.ensures.value in
    (removed_seen g.row.N a.row a.start a.end a.full c.self.invariant c.args.self.now c.self.view_is c.args.i _ _ c.requires c.slot_of-gap.ensures.place (omega (arith, c.requires)) _ _ _ c.take-removed.ensures.places c.close-self-inside.ensures.places c.close-self-inside.ensures.gap).1

pub returns-clause-removed : goal.returns-clause-removed
returns-clause-removed g c =
    let a = c.self.inside in
    item_seen g.row.N a.row a.start a.end a.full c.self.invariant c.args.self.now c.self.view_is c.args.i _ _ c.requires c.slot_of-gap.ensures.place c.take-removed.ensures.item
