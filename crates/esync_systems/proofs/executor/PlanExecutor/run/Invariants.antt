use Rattle.std.proofs.Common.{◌≡◌, ℕ, List, length}
use Rattle.esync_systems.specs.Schedules.{Follows, GoesRound}
use Rattle.esync_systems.specs.Positions.{running_of, world_of}
use Rattle.esync_systems.proofs.executor.PlanExecutor.run.Given as goal

abbrev pub invariant-loop-turn : goal.invariant-loop-turn
invariant-loop-turn g l =
    let X = g.M.Machine.semantics in
    let first = world_of X (running_of g.T.Thinks.next g.T.Thinks.rests l.initial.self) in
    let last = world_of X (running_of g.T.Thinks.next g.T.Thinks.rests l.self) in
    (schedule : List ℕ) × (length schedule ≡ l._turn) × Follows X.meaning g.M.Awaits.starting schedule first last × GoesRound X.meaning g.M.Awaits.starting l.initial.self.from l.self.from schedule first last
