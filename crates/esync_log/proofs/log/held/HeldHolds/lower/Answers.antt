use Rattle.std.proofs.Common.{rules, length, arith}
use Rattle.esync_log.proofs.Beside.{count_at, count_lower}
use Rattle.esync_log.proofs.Parts.{messages_fit}
use Rattle.esync_log.proofs.log.held.HeldHolds.lower.Goals as goal

pub overflow_sub-readers : goal.overflow_sub-readers
overflow_sub-readers g c =
    let a = c.self.inside in
    let h = rw (← c.self.view_is) at c.requires.place in
    let some = rw (← c.self.view_is) at c.requires.some in
    omega (arith, some, count_at g.row.N a.messages.front a.counts.row (length a.messages.items) c.args.i c.slot_of-place.result c.get-readers.result h c.slot_of-place.ensures.place c.get-readers.ensures)

pub returns : goal.returns
returns g c = record {
  messages = search rules;
  counts = (
      let a = c.self.inside in
      let h = rw (← c.self.view_is) at c.requires.place in
      let s = c.slot_of-place.ensures in
      rw (c.put.ensures, ← c.self.view_is) (count_lower g.row.N a.messages.front a.counts.row (length a.messages.items) c.args.i c.slot_of-place.result c.get-readers.result c.self.invariant.0 (omega (arith, c.self.invariant.1, c.self.invariant.2)) h s.place s.below c.get-readers.ensures));
}

pub slot_of-place-requires : goal.slot_of-place-requires
slot_of-place-requires g c = (messages_fit g.row.T g.row.C g.C.Extent g.row.N c.requires-raw.1.1.1.0, rw (← c.self.view_is) at c.requires.place)
