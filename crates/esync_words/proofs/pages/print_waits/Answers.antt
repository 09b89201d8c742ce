use Rattle.esync_words.specs.Diagram.{waits_text}
use Rattle.esync_words.proofs.Wakers.{prints_one, prints_none}
use Rattle.esync_words.proofs.pages.print_waits.Goals as goal
use Rattle.esync_words.proofs.pages.print_waits.Goals.{in-Some+in_ok-print_waiting, in_default}

pub loop-waker-preserved : goal.loop-waker-preserved
loop-waker-preserved g c =
    let W = g.W.Write.contents in
    elim c.match-waker.branch [
      | in-Some+in_ok-print_waiting w ↦ rw w.output-is (prints_one waits_text c.args.waits.now c.loop-waker.waker-index w.in-Some.waker (W c.args.output.now) (W c.loop-waker.output) (W w.print_waiting.new.output) c.loop-waker-test.true w.in-Some.is c.loop-waker.invariant w.in_ok-print_waiting.ensures)
      | in_default w ↦ rw w.output-is (prints_none waits_text c.args.waits.now c.loop-waker.waker-index (W c.args.output.now) (W c.loop-waker.output) c.loop-waker-test.true w.in_default.is c.loop-waker.invariant)
    ]
