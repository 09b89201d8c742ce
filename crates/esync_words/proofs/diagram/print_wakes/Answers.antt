use Rattle.esync_words.specs.Diagram.{wake_text}
use Rattle.esync_words.proofs.Wakers.{prints_one, prints_none}
use Rattle.esync_words.proofs.diagram.print_wakes.Goals as goal
use Rattle.esync_words.proofs.diagram.print_wakes.Goals.{in-Some+in_ok-print_wake, in_default}

pub loop-waker-preserved : goal.loop-waker-preserved
loop-waker-preserved g c =
    let W = g.W.Write.contents in
    elim c.match-waker.branch [
      | in-Some+in_ok-print_wake w ↦ rw w.output-is (prints_one wake_text c.args.wakers.now c.loop-waker.waker-index w.in-Some.waker (W c.args.output.now) (W c.loop-waker.output) (W w.print_wake.new.output) c.loop-waker-test.true w.in-Some.is c.loop-waker.invariant w.in_ok-print_wake.ensures)
      | in_default w ↦ rw w.output-is (prints_none wake_text c.args.wakers.now c.loop-waker.waker-index (W c.args.output.now) (W c.loop-waker.output) c.loop-waker-test.true w.in_default.is c.loop-waker.invariant)
    ]
