use Rattle.std.proofs.Common.{◌<◌, ◌∙◌, ◌∷◌, ◌++◌, [], length, sym, refl}
use Rattle.esync_check.proofs.Recorded.{shorter, not_empty, line_read, differ, alike, next_line}
use Rattle.esync_check.proofs.difference.first_difference.Goals as goal

pub returns-then-ne : goal.returns-then-ne
returns-then-ne c =
    let kept = c.loop-others.invariant in
    let others = not_empty c.loop-others.others.now (sym c.is_empty.ensures ∙ c.loop-others-test.true) in
    let owns = not_empty c.loop-others.owns.now (sym c.is_empty-in-loop-others.ensures ∙ c.if-not-is_empty.true) in (
      length kept.same,
      record {
        same = kept.same;
        recorded_rest = c.split_line.result.1.now;
        given_rest = c.split_line-in-loop-others.result.1.now;
        recorded_read = line_read _ kept.same _ _ _ kept.recorded others c.split_line.ensures.line c.split_line.ensures.rest;
        given_read = line_read _ kept.same _ _ _ kept.given owns c.split_line-in-loop-others.ensures.line c.split_line-in-loop-others.ensures.rest;
        counted = refl;
        differ = differ _ _ _ c.ne.ensures c.if-ne.true;
      },
      kept.line,
    )

pub loop-others-smaller : goal.loop-others-smaller
loop-others-smaller c =
    let owns = not_empty c.loop-others.owns.now (sym c.is_empty-in-loop-others.ensures ∙ c.if-not-is_empty.true) in
    let s : length c.split_line-in-loop-others.result.1.now < length c.loop-others.owns.now = rw c.split_line-in-loop-others.ensures.rest (shorter c.loop-others.owns.now owns) in s

pub loop-others-preserved : goal.loop-others-preserved
loop-others-preserved c =
    let kept = c.loop-others.invariant in
    let others = not_empty c.loop-others.others.now (sym c.is_empty.ensures ∙ c.loop-others-test.true) in
    let owns = not_empty c.loop-others.owns.now (sym c.is_empty-in-loop-others.ensures ∙ c.if-not-is_empty.true) in
    let line = c.split_line.result.0.now in
    let same = alike _ _ _ c.ne.ensures c.if-ne.false in
    record {
      same = kept.same ++ line ∷ [];
      recorded = line_read _ kept.same _ line _ kept.recorded others c.split_line.ensures.line c.split_line.ensures.rest;
      given = line_read _ kept.same _ line _ kept.given owns (same ∙ c.split_line-in-loop-others.ensures.line) c.split_line-in-loop-others.ensures.rest;
      line = next_line kept.same line _ _ kept.line c.saturating_add-line.ensures;
    }
