use Rattle.std.proofs.Common.{◌++◌}
use Rattle.esync_base.specs.Rows.{items_of}
use Rattle.esync_words.specs.Text.{answer_text, each_text}
use Rattle.esync_words.specs.Diagram.{command_text, reply_text, wait_text, wake_text}
use Rattle.esync_words.proofs.Known.{appends_more}
use Rattle.esync_words.proofs.diagram.print_step.Goals as goal

pub returns-clause-ok : goal.returns-clause-ok
returns-clause-ok g c =
    let command = command_text c.args.giver c.args.number c.args.line.now in
    let reply = reply_text c.args.giver (answer_text g.V.Vocabulary.text c.args.answer.now) in
    let wait = wait_text c.args.giver c.args.answer.now in
    appends_more _ _ _ ((command ++ reply) ++ wait) (each_text wake_text (items_of c.args.wakers.now)) (appends_more _ _ _ (command ++ reply) wait (appends_more _ _ _ command reply c.in_ok-print_command.ensures c.in_ok-print_reply.ensures.ok) c.in_ok-print_wait.ensures) c.in_ok-print_wakes.ensures
