use Rattle.std.proofs.Common.{◌≡◌, ℕ, false, sym, subst, ◌∙◌}
use Rattle.std.specs.List.{list_any}
use Rattle.esync_history.specs.StandingLaws.{same_task}
use Rattle.esync_systems.specs.Positions.{plan_of, running, running_of, HearsIn, May}
use Rattle.esync_systems.proofs.Letting.{none_ready}
use Rattle.esync_systems.proofs.Turning.{to_none}
use Rattle.esync_systems.proofs.Waiting.{waiting_after}
use Rattle.esync_systems.proofs.executor.PlanExecutor.turn.Goals as goal

pub invariant_of-self-2 : goal.invariant_of-self-2
invariant_of-self-2 g c =
    let plan = plan_of g.T.Thinks.next g.T.Thinks.rests c.self.inside.plan.now in
    waiting_after g.M.Machine.semantics g.M.Awaits.starting g.met.M.Awaits.keeps g.met.M.Awaits.starts (λ v w e. same_task v w (sym (g.met.M.Awaits.same v w) ∙ e)) c.in_ok-task.task (running plan c.self.inside.state) (running plan c.hear_turn.new.state) c.in_ok-heard.ensures.turn.0 c.self.invariant

pub returns-clause-turn : goal.returns-clause-turn
returns-clause-turn g c =
    let X = g.M.Machine.semantics in
    let new = running (plan_of g.T.Thinks.next g.T.Thinks.rests c.self.inside.plan.now) c.hear_turn.new.state in
    let heard = c.in_ok-heard.heard in
    subst (λ e. HearsIn X g.M.Awaits.starting c.in_ok-task.task (running_of g.T.Thinks.next g.T.Thinks.rests e) new heard) c.self.view_is c.in_ok-heard.ensures.turn

pub returns-in_err-task-clause-none : goal.returns-in_err-task-clause-none
returns-in_err-task-clause-none g c =
    let state = running (plan_of g.T.Thinks.next g.T.Thinks.rests c.self.inside.plan.now) c.self.inside.state in
    to_none _ c.from_residual.result (subst (λ e. ((k : ℕ) → May (running_of g.T.Thinks.next g.T.Thinks.rests e) k → ⊥) → list_any (λ b. b) e.ready ≡ false) c.self.view_is (none_ready g.M.Machine.semantics state c.self.invariant) c.in_err-task.ensures.none)
