use Rattle.esync_words.specs.Diagram.{fence_text, head_text}
use Rattle.esync_words.proofs.Known.{appends_more}
use Rattle.esync_words.proofs.pages.PagesTelling.open.Goals as goal

pub returns-clause-ok : goal.returns-clause-ok
returns-clause-ok g c =
    appends_more _ _ _ fence_text (head_text c.args.line.now) c.in_ok-print_fence.ensures c.in_ok-print_head.ensures
