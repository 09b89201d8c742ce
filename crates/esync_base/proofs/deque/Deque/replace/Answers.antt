use Rattle.std.proofs.Common.{◌∙◌, ap, None, get_or}
use Rattle.esync_base.proofs.Rings.{is_held, item_seen, replaced_seen, none_after_none}
use Rattle.esync_base.proofs.DequeParts.{places_fit}
use Rattle.esync_base.proofs.deque.Deque.replace.Goals as goal

pub take-replaced-requires : goal.take-replaced-requires
take-replaced-requires g c =
    let a = c.self.inside in
    (places_fit g.row.T g.row.N c.requires-raw.1.1.0, (c.slot_of-place.ensures.below, is_held g.row.N a.row a.start a.end a.full c.self.invariant c.args.self.now c.self.view_is c.args.i _ c.requires c.slot_of-place.ensures.place))

pub put-requires : goal.put-requires
put-requires g c =
    let a = c.self.inside in
    (places_fit g.row.T g.row.N c.requires-raw.1.1.0, (c.slot_of-place.ensures.below, ap (λ t. get_or t c.slot_of-place.result None) c.take-replaced.ensures.places ∙ none_after_none a.row c.slot_of-place.result))

pub invariant_of-self : goal.invariant_of-self
invariant_of-self g c =
    let a = c.self.inside in
    (replaced_seen g.row.N a.row a.start a.end a.full c.self.invariant c.args.self.now c.self.view_is c.args.i _ c.requires c.slot_of-place.ensures.place c.args.item _ _ c.take-replaced.ensures.places c.put.ensures).0

pub returns-clause-items : goal.returns-clause-items
returns-clause-items g c =
    let a = c.self.inside in
    (replaced_seen g.row.N a.row a.start a.end a.full c.self.invariant c.args.self.now c.self.view_is c.args.i _ c.requires c.slot_of-place.ensures.place c.args.item _ _ c.take-replaced.ensures.places c.put.ensures).1

pub returns-clause-replaced : goal.returns-clause-replaced
returns-clause-replaced g c =
    let a = c.self.inside in
    item_seen g.row.N a.row a.start a.end a.full c.self.invariant c.args.self.now c.self.view_is c.args.i _ _ c.requires c.slot_of-place.ensures.place c.take-replaced.ensures.item
