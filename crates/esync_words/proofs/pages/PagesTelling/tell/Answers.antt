use Rattle.esync_base.specs.Rows.{items_of}
use Rattle.esync_words.specs.Diagram.{break_text, step_text}
use Rattle.esync_words.proofs.Known.{appends_more}
use Rattle.esync_words.proofs.pages.PagesTelling.tell.Goals as goal

pub returns-clause-ok : goal.returns-clause-ok
returns-clause-ok g c =
    let h = c.in_ok-print_step.ensures.ok in
    let k = c.in_ok-turned.ensures in
    appends_more _ _ _ (break_text c.args.number c.args.self.now) (step_text g.V.Vocabulary.text c.args.number c.args.line.now c.args.giver c.args.answer.now (items_of c.args.wakers.now)) k h
