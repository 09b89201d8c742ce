use Rattle.std.proofs.Common.{ℕ, ◌<◌, ◌≤◌}
use Rattle.esync_systems.specs.Positions.{running_of, May}
use Rattle.esync_systems.proofs.executor.PlanExecutor.first_between.Given as goal

abbrev pub invariant-loop-number : goal.invariant-loop-number
invariant-loop-number g l = (j : ℕ) → j < l.number → l.from ≤ j → May (running_of g.T.Thinks.next g.T.Thinks.rests l.self) j → ⊥
