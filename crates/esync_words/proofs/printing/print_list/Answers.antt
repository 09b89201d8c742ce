use Rattle.std.proofs.Common.{refl}
use Rattle.esync_words.specs.Text.{listed}
use Rattle.esync_words.proofs.Wakers.{prints_next}
use Rattle.esync_words.proofs.printing.print_list.Goals as goal

pub loop-byte-preserved : goal.loop-byte-preserved
loop-byte-preserved g c =
    let W = g.W.Write.contents in
    prints_next listed c.args.bytes.now c.loop-byte.byte-index _ (W c.args.output.now) (W c.loop-byte.output) (W c.write.new.self) c.loop-byte-test.true refl c.loop-byte.invariant c.in_ok-write.ensures.bytes
