use Rattle.std.proofs.Common.{◌<◌, ◌∙◌, sym, inl, inr, None, arith}
use Rattle.std.proofs.Math.ListN.{replicate}
use Rattle.std.proofs.lemmas.List.{ext_get_or, length-replicate}
use Rattle.esync_priority.proofs.Items.{held_below, free_behind, row_length, none_in, below_or_behind, one_less}
use Rattle.esync_priority.proofs.prio.empty.Goals as goal

pub take-requires : goal.take-requires
take-requires g c =
    let i = c.loop-i.i in
    let inside : i < c.args.len = c.loop-i-test.true in
    (c.requires-raw.1.1.0, (omega (arith, inside, c.requires.count, c.requires.fits), rw (c.loop-i.invariant.kept i (omega arith)) (held_below g.row.N c.args.row.now c.args.len i None c.requires inside)))

pub loop-i-preserved : goal.loop-i-preserved
loop-i-preserved g c =
    let s = one_less c.args.row.now c.loop-i.row c.take.new.self c.loop-i.i c.loop-i.invariant.long c.loop-i.invariant.free c.loop-i.invariant.kept c.take.ensures.places in
    record { long = s.0; free = s.1; kept = s.2 }

pub returns : goal.returns
returns g c =
    let row = c.loop-i.row in
    let many = row_length g.row.N c.args.row.now c.args.len c.requires in
    ext_get_or None row (replicate g.row.N None) (c.loop-i.invariant.long ∙ many ∙ sym (length-replicate g.row.N None))
    (λ k h. elim (below_or_behind k c.loop-i.i) [
      | inl l ↦ c.loop-i.invariant.free k l
      | inr l ↦ c.loop-i.invariant.kept k l ∙ free_behind g.row.N c.args.row.now c.args.len k c.requires (let e = c.loop-i-test.false in omega (arith, e, l))
    ] ∙ sym (none_in g.row.N k))
