use Rattle.std.proofs.Common.{take, ap, ◌∙◌}
use Rattle.esync_machine.specs.declared.primitive.Answer.TheVariants.{Gives}
use Rattle.esync_pipe.specs.Pipe.{behind}
use Rattle.esync_pipe.specs.PipeRules.{PollsWrite}
use Rattle.esync_pipe.specs.declared.pipe.machine.PipeHeard.TheVariants.{Wrote}
use Rattle.esync_pipe.proofs.Kept.{from_none, not-full, full}
use Rattle.esync_pipe.proofs.pipe.PipeOver.turn_write.Goals as goal

pub returns-in-Ok-clause-allowed : goal.returns-in-Ok-clause-allowed
returns-in-Ok-clause-allowed g c =
    let ring = c.args.self.now.ring in
    let b = rw c.as_slice.ensures.value at c.in-Ok.ensures.bytes in
    rw (not-full g.R.ByteStore.capacity ring b.0, PollsWrite) (c.over.ensures.answer ∙ ap (λ k. Gives (Wrote k)) b.1, b.2 ∙ ap (λ k. behind ring (take k c.args.bytes)) b.1, c.over.ensures.place)

pub returns-in-Ok-clause-exact : goal.returns-in-Ok-clause-exact
returns-in-Ok-clause-exact g c =
    let e = c.in-Ok.ensures in
    rw (not-full g.R.ByteStore.capacity c.args.self.now.ring e.bytes.0) (from_none _ _ _ e.wakes c.requires.empty, e.slots)

pub returns-in-Err-Full-clause-exact : goal.returns-in-Err-Full-clause-exact
returns-in-Err-Full-clause-exact g c =
    let e = c.in-Err-Full.ensures in
    rw (full g.R.ByteStore.capacity c.args.self.now.ring e.bytes.0) (from_none _ _ _ e.wakes c.requires.empty, e.slots)
