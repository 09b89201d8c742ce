use Rattle.std.proofs.Common.{◌<◌, ◌∙◌, sym, inl, inr, None, arith}
use Rattle.std.proofs.lemmas.List.{ext_get_or}
use Rattle.esync_priority.proofs.Items.{held_below, free_behind, row_length, below_or_behind, one_more}
use Rattle.esync_priority.proofs.prio.copied.Goals as goal

pub get-requires : goal.get-requires
get-requires g c =
    let i = c.loop-i.i in
    let inside : i < c.args.len = c.loop-i-test.true in
    (c.requires-raw.1.1.0, (omega (arith, inside, c.requires.count, c.requires.fits), held_below g.row.N c.args.row.now c.args.len i None c.requires inside))

pub loop-i-preserved : goal.loop-i-preserved
loop-i-preserved g c =
    let many = row_length g.row.N c.args.row.now c.args.len c.requires in
    let inside : c.loop-i.i < c.args.len = c.loop-i-test.true in
    let s = one_more c.args.row.now c.loop-i.copy c.put.new.self c.loop-i.i (omega (arith, many, inside, c.requires.count, c.requires.fits)) c.loop-i.invariant.long c.loop-i.invariant.same c.loop-i.invariant.free c.get.result.now c.get.ensures.item c.put.ensures in
    record { long = s.0; same = s.1; free = s.2 }

pub returns : goal.returns
returns g c =
    let copy = c.loop-i.copy in
    ext_get_or None copy c.args.row.now c.loop-i.invariant.long
    (λ k h. elim (below_or_behind k c.loop-i.i) [
      | inl l ↦ c.loop-i.invariant.same k l
      | inr l ↦ c.loop-i.invariant.free k l ∙ sym (free_behind g.row.N c.args.row.now c.args.len k c.requires (let e = c.loop-i-test.false in omega (arith, e, l)))
    ])
