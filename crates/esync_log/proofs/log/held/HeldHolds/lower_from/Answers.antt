use Rattle.std.proofs.Common.{◌-◌, ◌<◌, ◌∙◌, length, arith}
use Rattle.std.specs.Prelude.{slice_index}
use Rattle.std.proofs.lemmas.List.{length-set}
use Rattle.esync_log.proofs.Counted.{lowered_before, lowered_behind, lowered_rest}
use Rattle.esync_log.proofs.log.held.HeldHolds.lower_from.Goals as goal

pub loop-i-preserved : goal.loop-i-preserved
loop-i-preserved g c =
    let cs0 = c.args.self.now.counts in
    let cs = c.loop-i.self.counts in
    let i = c.loop-i.i in
    let n = length c.args.self.now.messages in
    let v = c.loop-i.invariant in
    let len = c.len-i-end.ensures in
    let start = c.loop-i.auto.i in
    let here : i < length cs = omega (arith, v.1, len.value, len.paired, c.loop-i-test.true) in
    let some = c.requires i start (omega (arith, len.value, c.loop-i-test.true)) in
    rw (c.lower.ensures.messages, c.lower.ensures.counts) (
      v.0,
      length-set cs i (slice_index cs i - 1) ∙ v.1,
      lowered_before cs0 cs c.args.from i n start here some v.4 v.2,
      lowered_behind cs0 cs c.args.from i n start here some v.4 v.3,
      lowered_rest cs0 cs c.args.from i n start here some v.4,
    )

pub len-i-end-requires : goal.len-i-end-requires
len-i-end-requires g c = c.requires-raw.1.1.1.0

pub lower-requires : goal.lower-requires
lower-requires g c =
    let v = c.loop-i.invariant in
    let i = c.loop-i.i in
    let start = c.loop-i.auto.i in
    let below : i < length c.args.self.now.messages = omega (arith, c.len-i-end.ensures.value, c.loop-i-test.true) in
    (c.requires-raw.1.1.1.0, (rw v.0 below, rw (v.4 i (omega arith)) (c.requires i start below)))
