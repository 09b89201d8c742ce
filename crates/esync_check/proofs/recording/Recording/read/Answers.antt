use Rattle.std.proofs.Common.{◌∙◌, sym}
use Rattle.esync_check.proofs.Recorded.{not_empty, read_apart}
use Rattle.esync_check.proofs.recording.Recording.read.Goals as goal

pub returns-clause-ok : goal.returns-clause-ok
returns-clause-ok g c =
    let more = not_empty c.args.text.now (sym c.is_empty.ensures ∙ c.if-is_empty.false) in
    read_apart c.args.text.now c.split_line.result.0.now c.split_line.result.1.now _ _ _ _ _ c.read_entries.result more c.split_line.ensures.line c.split_line.ensures.rest c.clear.ensures c.clear-2.ensures c.in_ok-append_line.ensures.ok c.read_entries.ensures.ok
