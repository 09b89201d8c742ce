use Rattle.std.proofs.Common.{◌≡◌, false, sym, ap, subst, ◌∙◌}
use Rattle.std.specs.List.{list_any}
use Rattle.esync_systems.specs.Schedules.{IsStall, all_done}
use Rattle.esync_systems.specs.Positions.{plan_of, todos, running, running_of, world_of}
use Rattle.esync_systems.proofs.Waiting.{waiting_stalled}
use Rattle.esync_systems.proofs.executor.PlanExecutor.outcome.Goals as goal

pub returns-else-all_done-clause-stalled : goal.returns-else-all_done-clause-stalled
returns-else-all_done-clause-stalled g c e =
    let X = g.M.Machine.semantics in
    let plan = plan_of g.T.Thinks.next g.T.Thinks.rests c.self.inside.plan.now in
    let state = running plan c.self.inside.state in
    let none : list_any (λ b. b) state.ready ≡ false = ap (list_any (λ b. b)) (sym c.deref.ensures.value) ∙ sym c.any_ready.ensures ∙ c.if-any_ready.false in
    subst (λ v. IsStall X.meaning g.M.Awaits.starting (world_of X (running_of g.T.Thinks.next g.T.Thinks.rests v))) c.self.view_is (
      (λ over. (let f = ap (λ ps. all_done plan.rests 0 plan.program (todos plan.program ps)) (sym c.deref-else-any_ready.ensures.value) ∙ sym c.all_done.ensures ∙ c.if-all_done.false in absurd cc)),
      none,
      waiting_stalled X g.met.M.Machine.idle g.met.M.Machine.pending g.met.M.Machine.no_such state c.self.invariant none,
    )
