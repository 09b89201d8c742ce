use Rattle.esync_check.proofs.Checked.{finds}
use Rattle.esync_check.proofs.check_script.Goals as goal

pub returns-clause-ok : goal.returns-clause-ok
returns-clause-ok g c =
    let read = c.in_ok-recording in
    finds c.args.text.now c.written.result.now c.written-2.result.now c.written-3.result.now _ _ _ read.recording.commands read.recording.is_whole _ c.written.ensures c.written-2.ensures c.written-3.ensures read.ensures.ok c.play_into-outcome.ensures.plays c.judge.result c.judge.ensures.ok
