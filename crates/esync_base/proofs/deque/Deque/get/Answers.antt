use Rattle.esync_base.proofs.Rings.{is_held, item_seen}
use Rattle.esync_base.proofs.DequeParts.{places_fit}
use Rattle.esync_base.proofs.deque.Deque.get.Goals as goal

pub get-requires : goal.get-requires
get-requires g c =
    let a = c.self.inside in
    (places_fit g.row.T g.row.N c.requires-raw.1.1.0, (c.slot_of.ensures.below, is_held g.row.N a.row a.start a.end a.full c.self.invariant c.args.self.now c.self.view_is c.args.i _ c.requires c.slot_of.ensures.place))

pub returns : goal.returns
returns g c =
    let a = c.self.inside in
    item_seen g.row.N a.row a.start a.end a.full c.self.invariant c.args.self.now c.self.view_is c.args.i _ _ c.requires c.slot_of.ensures.place c.get.ensures.item
