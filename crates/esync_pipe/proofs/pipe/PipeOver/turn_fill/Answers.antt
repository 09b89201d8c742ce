use Rattle.std.proofs.Common.{take, ap, ◌∙◌}
use Rattle.esync_machine.specs.declared.primitive.Answer.TheVariants.{Gives}
use Rattle.esync_pipe.specs.Piped.{Piped}
use Rattle.esync_pipe.specs.PipeRules.{PollsFill}
use Rattle.esync_pipe.specs.declared.pipe.machine.PipeHeard.TheVariants.{Filled}
use Rattle.esync_pipe.proofs.Kept.{from_none, not-empty, row-shown}
use Rattle.esync_pipe.proofs.pipe.PipeOver.turn_fill.Goals as goal

pub returns-in-Ok-clause-allowed : goal.returns-in-Ok-clause-allowed
returns-in-Ok-clause-allowed g c =
    let e = c.in-Ok.ensures in
    let left = rw c.in-Ok.is at c.try_fill_buf_with_context.follows.holds-at-none in
    rw (not-empty c.args.self.now.ring e.ok.0, PollsFill) (c.over.ensures.answer ∙ ap (λ l. Gives (Filled l)) (c.from_slice.ensures ∙ ap (take g.row.L) e.ok.1 ∙ row-shown g.R.ByteStore.capacity g.row.L c.args.self.now.ring c.requires.row), ap (λ (v : Piped _). v.ring) left, c.over.ensures.place)

pub returns-in-Ok-clause-exact : goal.returns-in-Ok-clause-exact
returns-in-Ok-clause-exact g c =
    let e = c.in-Ok.ensures in
    let left = rw c.in-Ok.is at c.try_fill_buf_with_context.follows.holds-at-none in
    rw (not-empty c.args.self.now.ring e.ok.0) (from_none _ _ _ e.wakes c.requires.empty, ap (λ (v : Piped _). v.slots) left)
