use Rattle.std.specs.Option.{unwrap_or}
use Rattle.esync_history.proofs.Answering.{last_told, not_noted, is_noted}
use Rattle.esync_history.proofs.turn.note.Goals as goal

pub returns-then-not-over : goal.returns-then-not-over
returns-then-not-over g c =
    let told = last_told c.args.heard.first c.args.heard.second in
    (unwrap_or c.args.heard.second c.args.heard.first, told.0, told.1, not_noted c.args.replies.now c.args.number c.args.over _ c.if-not-over.true)

pub returns : goal.returns
returns g c =
    let told = c.into_last.ensures in
    (c.into_last.result, told.0, told.1, is_noted c.args.replies.now c.push.new.self c.args.number c.args.over c.into_last.result c.if-not-over.false c.push.ensures)
