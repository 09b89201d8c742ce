use Rattle.std.proofs.Common.{◌++◌, ◌∷◌, [], not, sym, ap, subst, ◌∙◌, arith}
use Rattle.std.proofs.lemmas.List.{length_push}
use Rattle.esync_systems.specs.Schedules.{GoesRound}
use Rattle.esync_systems.specs.Positions.{running_of, world_of}
use Rattle.esync_systems.proofs.Turning.{both_some, some_of, seen_turn, follows_more, rounds_more}
use Rattle.esync_systems.proofs.executor.PlanExecutor.run.Goals as goal

pub loop-turn-preserved : goal.loop-turn-preserved
loop-turn-preserved g c =
    let X = g.M.Machine.semantics in
    let starting = g.M.Awaits.starting in
    let i = c.loop-turn.invariant in
    let some = c.is_none.ensures ∙ ap not c.if-is_none.false in
    let turned = some_of _ c.turn.result some (both_some _ _ c.turn.result c.turn.ensures.turn (both_some _ _ c.turn.result c.turn.ensures.first c.turn.ensures.from)) in
    let old = running_of g.T.Thinks.next g.T.Thinks.rests c.loop-turn.self in
    let new = running_of g.T.Thinks.next g.T.Thinks.rests c.turn.new.self in
    let begun = world_of X (running_of g.T.Thinks.next g.T.Thinks.rests c.args.self.now) in
    let seen = seen_turn X starting g.met.M.Machine.idle turned.0.task old new turned.1.0.0 in (
      i.0 ++ turned.0.task ∷ [],
      omega (arith, i.1, length_push i.0 turned.0.task),
      follows_more X.meaning starting i.0 turned.0.task begun (world_of X old) (world_of X new) i.2 seen,
      subst (λ n. GoesRound X.meaning starting c.args.self.now.from n (i.0 ++ turned.0.task ∷ []) begun (world_of X new)) (sym turned.1.1.1) (rounds_more X.meaning starting i.0 c.args.self.now.from c.loop-turn.self.from turned.0.task begun (world_of X old) (world_of X new) i.3 seen turned.1.1.0),
    )

pub returns-clause-run : goal.returns-clause-run
returns-clause-run g c =
    let i = c.loop-turn.invariant in
    let ends = c.loop-turn-test.false in
    let within = c.loop-turn.auto._turn-end in
    (i.0, omega (arith, i.1, within), (λ e. omega (arith, i.1, ends, within)), i.2, i.3)
