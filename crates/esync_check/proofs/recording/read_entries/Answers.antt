use Rattle.std.proofs.Common.{◌≡◌, ◌<◌, ◌∙◌, length, sym}
use Rattle.esync_check.specs.Recorded.{Entry, entry_line}
use Rattle.esync_check.proofs.Recorded.{shorter, not_empty, entry_added}
use Rattle.esync_check.proofs.recording.read_entries.Goals as goal

pub loop-rest-smaller : goal.loop-rest-smaller
loop-rest-smaller g c =
    let more = not_empty c.loop-rest.rest.now (sym c.is_empty.ensures ∙ c.loop-rest-test.true) in
    let s : length c.split_line.result.1.now < length c.loop-rest.rest.now = rw c.split_line.ensures.rest (shorter c.loop-rest.rest.now more) in s

pub loop-rest-preserved : goal.loop-rest-preserved
loop-rest-preserved g c =
    let entry : Entry = record { command = c.in-Some.command.now; reply = c.in-Some.reply.now } in
    let parts = c.split_entry.ensures in
    let here : c.split_line.result.0.now ≡ entry_line entry = rw c.in-Some.is at parts in
    let more = not_empty c.loop-rest.rest.now (sym c.is_empty.ensures ∙ c.loop-rest-test.true) in
    entry_added c.args.lines.now c.loop-rest.rest.now _ _ _ _ _ _ _ _ _ entry c.loop-rest.invariant more (sym here ∙ c.split_line.ensures.line) c.split_line.ensures.rest c.in_ok-append_line.ensures.ok c.in_ok-append_line-2.ensures.ok c.saturating_add-commands.ensures
