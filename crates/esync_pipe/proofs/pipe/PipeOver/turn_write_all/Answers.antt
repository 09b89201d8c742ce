use Rattle.std.proofs.Common.{◌≡◌, Some, take, drop, ap, ◌∙◌, arith, length-drop}
use Rattle.std.proofs.lemmas.List.{take_all}
use Rattle.esync_pipe.specs.Pipe.{puts, rest_of}
use Rattle.esync_pipe.specs.PipeRules.{PollsWriteAll}
use Rattle.esync_pipe.proofs.Kept.{full}
use Rattle.esync_pipe.specs.declared.pipe.machine.PipeAsk.TheVariants.{WriteAll}
use Rattle.esync_pipe.proofs.pipe.PipeOver.turn_write_all.Goals as goal

pub returns-in-Pending-clause-allowed : goal.returns-in-Pending-clause-allowed
returns-in-Pending-clause-allowed g c =
    let bytes = c.args.bytes in
    let k = puts g.R.ByteStore.capacity c.args.self.now.ring bytes in
    let b = rw (c.new-request.ensures, c.as_slice.ensures.value) at c.in-Pending.ensures.bytes in
    let d = length-drop k bytes in
    let w = c.as_slice.ensures.within in
    let rest : c.rest.result.now ≡ drop k bytes = c.rest.ensures ∙ ap rest_of b.2 in
    let row : c.from_slice.result ≡ drop k bytes = c.from_slice.ensures ∙ ap (take g.row.L) rest ∙ take_all g.row.L (drop k bytes) (omega arith) in
    rw (b.0, PollsWriteAll) (c.waits.ensures.answer, b.1, c.waits.ensures.place ∙ ap (λ l. Some (WriteAll l)) row, full g.R.ByteStore.capacity c.poll_state.new.state.ring b.3)
