use Rattle.std.proofs.Common.{rules, ◌<◌, length, arith}
use Rattle.esync_log.proofs.Beside.{count_push}
use Rattle.esync_log.proofs.Parts.{messages_fit}
use Rattle.esync_log.proofs.log.held.HeldHolds.push.Goals as goal

pub returns : goal.returns
returns g c = record {
  messages = search rules;
  counts = (
      let a = c.self.inside in
      let room : length a.messages.items < g.row.N = (let few = rw (← c.self.view_is) at c.requires in omega (arith, few, c.self.invariant.2)) in
      let pushed = c.in-Ok.ensures in
      let next = c.slot_of_next-place in
      let below : next.result < g.row.N = omega (arith, next.ensures.within) in
      rw (c.put.ensures, ← c.self.view_is) (count_push g.row.N a.counts.row a.messages.front c.push_back.new.self.front a.messages.items c.push_back.new.self.items c.args.message next.result c.args.count c.self.invariant.0 room pushed.ok pushed.front next.ensures.place below));
}

pub slot_of_next-place-requires : goal.slot_of_next-place-requires
slot_of_next-place-requires g c = messages_fit g.row.T g.row.C g.C.Extent g.row.N c.requires-raw.1.1.1.0
