use Rattle.std.proofs.Common.{◌≡◌, sym, subst}
use Rattle.esync_systems.specs.Positions.{plan_of, running, unbegun, AreWaiting}
use Rattle.esync_systems.proofs.Opening.{begins}
use Rattle.esync_systems.proofs.Waiting.{waiting_first}
use Rattle.esync_systems.proofs.executor.PlanExecutor.new.Given.{Over}
use Rattle.esync_systems.proofs.executor.PlanExecutor.new.Goals as goal

begun : (g : Over) (c : goal.In_ok-begin g) → let plan = plan_of g.T.Thinks.next g.T.Thinks.rests c.args.plan.now in running plan c.in_ok-begin.field-0 ≡ unbegun plan c.args.machine
begun g c =
    let plan = c.args.plan.now in
    let first = c.in_ok-begin.ensures in
    begins (λ acts. acts.items) plan.program.now plan.priorities.now (g.T.Thinks.next plan.thinks) (g.T.Thinks.rests plan.thinks) c.args.machine c.in_ok-begin.field-0 first.machine first.tasks first.begun first.ready

pub invariant_of-result : goal.invariant_of-result
invariant_of-result g c =
    let X = g.M.Machine.semantics in
    subst (λ e. AreWaiting X e) (sym (begun g c)) (waiting_first X g.M.Awaits.REQS c.args.machine (plan_of g.T.Thinks.next g.T.Thinks.rests c.args.plan.now) (c.are_suited.ensures.0 c.if-not-are_suited.false))

pub returns-clause-begun : goal.returns-clause-begun
returns-clause-begun g c = begun g c
