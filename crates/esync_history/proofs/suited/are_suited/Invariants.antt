use Rattle.std.proofs.Common.{◌↔◌, map, length}
use Rattle.esync_history.specs.Suited.{AreSuited}
use Rattle.esync_history.proofs.suited.are_suited.Given as goal

abbrev pub invariant-loop-acts : goal.invariant-loop-acts
invariant-loop-acts g l =
    AreSuited g.M.Machine.semantics.meaning g.M.Awaits.REQS (map (λ acts. acts.items) l.fn.tasks) ↔ AreSuited g.M.Machine.semantics.meaning g.M.Awaits.REQS (map (λ acts. acts.items) l.rest)

abbrev pub decreases-loop-acts : goal.decreases-loop-acts
decreases-loop-acts g l = length l.rest
