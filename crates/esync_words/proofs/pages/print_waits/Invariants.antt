use Rattle.std.proofs.Common.{take}
use Rattle.std.specs.Io.KnownBytes.{Appends}
use Rattle.esync_base.specs.Rows.{items_of}
use Rattle.esync_words.specs.Text.{each_text}
use Rattle.esync_words.specs.Diagram.{waits_text}
use Rattle.esync_words.proofs.pages.print_waits.Given as goal

abbrev pub invariant-loop-waker : goal.invariant-loop-waker
invariant-loop-waker g l =
    Appends (g.W.Write.contents l.fn.output) (g.W.Write.contents l.output) (each_text waits_text (items_of (take l.waker-index l.waits)))
