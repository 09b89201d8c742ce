use Rattle.std.proofs.Common.{take}
use Rattle.std.specs.Io.KnownBytes.{Appends}
use Rattle.esync_words.specs.Text.{each_text, listed}
use Rattle.esync_words.proofs.printing.print_list.Given as goal

abbrev pub invariant-loop-byte : goal.invariant-loop-byte
invariant-loop-byte g l =
    Appends (g.W.Write.contents l.fn.output) (g.W.Write.contents l.output) (each_text listed (take l.byte-index l.bytes))
