use Rattle.std.proofs.Common.{List}
use Rattle.esync_machine.specs.Runs.{Step}
use Rattle.esync_history.specs.Turns.{Turns}
use Rattle.esync_history.proofs.executor.Executor.run.Given as goal

abbrev pub invariant-loop-turn : goal.invariant-loop-turn
invariant-loop-turn g l = (steps : List (Step g.M.Machine.semantics.meaning.Object _ _)) × Turns g.M.Machine.semantics g.M.Awaits.starting l._turn l.initial.self steps l.self
