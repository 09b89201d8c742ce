use Rattle.std.proofs.Common.{◌≤◌, subst, arith}
use Rattle.esync_systems.specs.Positions.{running_of, May}
use Rattle.esync_systems.proofs.Certified.{one_more}
use Rattle.esync_systems.proofs.executor.PlanExecutor.first_between.Goals as goal

pub loop-number-init : goal.loop-number-init
loop-number-init g c = λ j l m may. omega (arith, l, m)

pub returns-then-may_turn-clause-first : goal.returns-then-may_turn-clause-first
returns-then-may_turn-clause-first g c = λ j m l may. c.loop-number.invariant j l m may

pub loop-number-preserved : goal.loop-number-preserved
loop-number-preserved g c =
    let n = c.loop-number.number in
    one_more (λ j. c.args.from ≤ j → May (running_of g.T.Thinks.next g.T.Thinks.rests c.args.self.now) j → ⊥) n c.loop-number.invariant
    (subst (λ e. c.args.from ≤ n → May (running_of g.T.Thinks.next g.T.Thinks.rests e) n → ⊥) c.self.view_is (λ m may. (let t = c.may_turn.ensures.1 may in let f = c.if-may_turn.false in absurd cc)))

pub returns-clause-none : goal.returns-clause-none
returns-clause-none g c = λ j m l may. c.loop-number.invariant j (omega (arith, l, c.loop-number-test.false)) m may
