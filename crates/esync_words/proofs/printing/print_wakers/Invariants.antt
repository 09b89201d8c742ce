use Rattle.std.proofs.Common.{take}
use Rattle.std.specs.Io.KnownBytes.{Appends}
use Rattle.esync_base.specs.Rows.{items_of}
use Rattle.esync_words.specs.Text.{each_text, spaced}
use Rattle.esync_words.proofs.printing.print_wakers.Given as goal

abbrev pub invariant-loop-waker : goal.invariant-loop-waker
invariant-loop-waker g l =
    Appends (g.W.Write.contents l.fn.output) (g.W.Write.contents l.output) (each_text spaced (items_of (take l.waker-index l.wakers)))
