use Rattle.std.proofs.Common.{◌++◌}
use Rattle.esync_base.specs.Rows.{items_of}
use Rattle.esync_words.specs.Text.{each_text}
use Rattle.esync_words.specs.Diagram.{between_text, fence_text, head_text, waits_text}
use Rattle.esync_words.proofs.Known.{appends_more}
use Rattle.esync_words.proofs.pages.print_page.Goals as goal

pub returns : goal.returns
returns g c =
    let between = between_text c.args.number in
    let head = head_text c.args.name.now in
    appends_more _ _ _ ((between ++ fence_text) ++ head) (each_text waits_text (items_of c.args.waits.now)) (appends_more _ _ _ (between ++ fence_text) head (appends_more _ _ _ between fence_text c.in_ok-print_between.ensures c.in_ok-print_fence.ensures) c.in_ok-print_head.ensures) c.in_ok-print_waits.ensures
