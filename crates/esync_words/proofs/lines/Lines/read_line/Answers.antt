use Rattle.std.proofs.Common.{arith, true}
use Rattle.std.proofs.lemmas.Grind.{common_steps}
use Rattle.esync_words.specs.LinesLaws.{read_feed, read_last, read_long, plain_more}
use Rattle.esync_words.proofs.Known.{consumes_more, append-nil-consumed}
use Rattle.esync_words.proofs.lines.Lines.read_line.Goals as goal

pub returns-in-Some-eq10-clause-line : goal.returns-in-Some-eq10-clause-line
returns-in-Some-eq10-clause-line g c =
    let e = rw (c.in-Some-eq10.is, c.in-Some-eq10.field-0-test) at c.in_ok-next_byte.ensures in
    read_feed g.R.ByteSource.longest c.loop-self.self-inside.number c.loop-self.self-inside.ended c.loop-self.self-inside.line.items c.loop-self.invariant.plain _ _ (consumes_more _ _ _ _ _ c.loop-self.invariant.consumed e) (grind (arith, common_steps))

pub loop-self-preserved : goal.loop-self-preserved
loop-self-preserved g c =
    let e = rw c.in-Some.is at c.in_ok-next_byte.ensures in
    record {
      consumed = rw c.push.ensures.items (consumes_more _ _ _ _ _ c.loop-self.invariant.consumed e);
      plain = rw c.push.ensures.items (plain_more _ c.in-Some.byte c.in-Some.byte-test.1 c.loop-self.invariant.plain);
      number = c.loop-self.invariant.number;
      more = c.loop-self.invariant.more;
    }

pub returns-in-None-clause-line : goal.returns-in-None-clause-line
returns-in-None-clause-line g c =
    let e = rw c.in-None.is at c.in_ok-next_byte.ensures in
    read_last g.R.ByteSource.longest c.loop-self.self-inside.number true c.loop-self.self-inside.line.items c.loop-self.invariant.plain _ _ (append-nil-consumed _ _ _ (consumes_more _ _ _ _ _ c.loop-self.invariant.consumed e.0)) e.1 (grind (arith, common_steps)) c.is_empty.result c.is_empty.ensures

pub returns-clause-line : goal.returns-clause-line
returns-clause-line g c = read_long g.R.ByteSource.longest c.loop-self.self-inside.number c.loop-self.self-inside.ended c.loop-self.self-inside.line.items c.loop-self.invariant.plain _ _ c.loop-self.invariant.consumed (grind (arith, common_steps))
