use Rattle.std.proofs.Common.{◌↔◌, map, length}
use Rattle.esync_history.specs.Suited.{IsSuitedTask}
use Rattle.esync_history.proofs.suited.is_suited_task.Given as goal

abbrev pub invariant-loop-act : goal.invariant-loop-act
invariant-loop-act g l =
    let later = map (λ acts. acts.items) l.later in
    IsSuitedTask g.M.Machine.semantics.meaning g.M.Awaits.REQS later l.fn.acts ↔ IsSuitedTask g.M.Machine.semantics.meaning g.M.Awaits.REQS later l.rest

abbrev pub decreases-loop-act : goal.decreases-loop-act
decreases-loop-act g l = length l.rest
