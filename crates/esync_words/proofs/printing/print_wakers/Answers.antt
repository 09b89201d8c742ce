use Rattle.esync_words.specs.Text.{spaced}
use Rattle.esync_words.proofs.Wakers.{prints_one, prints_none}
use Rattle.esync_words.proofs.printing.print_wakers.Goals as goal
use Rattle.esync_words.proofs.printing.print_wakers.Goals.{in-Some+in_ok-write, in_default}

pub loop-waker-preserved : goal.loop-waker-preserved
loop-waker-preserved g c =
    let W = g.W.Write.contents in
    elim c.match-waker.branch [
      | in-Some+in_ok-write w ↦ rw w.output-is (prints_one spaced c.args.wakers.now c.loop-waker.waker-index w.in-Some.waker (W c.args.output.now) (W c.loop-waker.output) (W w.write.new.self) c.loop-waker-test.true w.in-Some.is c.loop-waker.invariant w.in_ok-write.ensures.bytes)
      | in_default w ↦ rw w.output-is (prints_none spaced c.args.wakers.now c.loop-waker.waker-index (W c.args.output.now) (W c.loop-waker.output) c.loop-waker-test.true w.in_default.is c.loop-waker.invariant)
    ]
