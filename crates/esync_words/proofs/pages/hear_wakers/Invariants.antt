use Rattle.std.proofs.Common.{◌≡◌}
use Rattle.esync_base.specs.Rows.{items_of}
use Rattle.esync_machine.specs.Numbers.{swept_below}
use Rattle.esync_words.specs.Diagram.{is_woken}
use Rattle.esync_words.proofs.pages.hear_wakers.Given as goal

abbrev pub invariant-loop-r : goal.invariant-loop-r
invariant-loop-r l = l.waits ≡ swept_below (is_woken (items_of l.fn.wakers)) l.r l.fn.waits
