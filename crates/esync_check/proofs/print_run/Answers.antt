use Rattle.esync_check.proofs.Recorded.{printed_both}
use Rattle.esync_check.proofs.print_run.Goals as goal

pub returns-then-commands-eq1 : goal.returns-then-commands-eq1
returns-then-commands-eq1 g c = rw c.if-commands-eq1.true (printed_both _ _ _ _ _ c.print_line.result c.in_ok-write.ensures.bytes c.print_line.ensures)
