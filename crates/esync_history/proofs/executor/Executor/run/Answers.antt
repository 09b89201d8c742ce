use Rattle.std.proofs.Common.{◌≡◌, [], ◌++◌, add-one, arith, refl, sym, ap, subst, ◌∙◌}
use Rattle.esync_history.specs.Todo.{act_counts}
use Rattle.esync_history.specs.Turns.{Turns, Tells}
use Rattle.esync_history.proofs.Turning.{ran}
use Rattle.esync_history.proofs.Answering.{turns_counts}
use Rattle.esync_history.proofs.Stalling.{stalled_if_empty}
use Rattle.esync_history.proofs.executor.Executor.run.Goals as goal

pub loop-turn-init : goal.loop-turn-init
loop-turn-init g c = ([], (refl, refl))

pub loop-turn-preserved : goal.loop-turn-preserved
loop-turn-preserved g c =
    let i = c.loop-turn.invariant in
    let turn = c.if-not-take_turn.ensures.turn in
    rw add-one (i.0 ++ turn.steps, (c.loop-turn.self, i.0, i.1, (turn, refl)))

pub returns-then-not-take_turn-clause-run : goal.returns-then-not-take_turn-clause-run
returns-then-not-take_turn-clause-run g c =
    let X = g.M.Machine.semantics in
    let left = c.if-not-take_turn.ensures in
    let new = c.take_turn.new.self in
    let i = c.loop-turn.invariant in
    let taken = subst (λ e. Turns X g.M.Awaits.starting c.loop-turn._turn c.args.self.now i.0 e) (sym left.unchanged) i.1 in
    let empty : new.queue ≡ [] = ap (λ e. e.queue) left.unchanged ∙ left.none in
    ran X g.M.Awaits.starting g.met.M.Machine.idle c.args.limit c.loop-turn._turn c.args.self.now c.outcome.result new i.0 (omega arith) (λ e. let told = subst (λ o. Tells o new) e c.outcome.ensures.tells in absurd (told.1 empty)) taken

pub returns-clause-run : goal.returns-clause-run
returns-clause-run g c =
    let i = c.loop-turn.invariant in
    ran g.M.Machine.semantics g.M.Awaits.starting g.met.M.Machine.idle c.args.limit c.loop-turn._turn c.args.self.now c.outcome-2.result c.loop-turn.self i.0 (omega arith) (λ e. omega arith) i.1

pub returns-then-not-take_turn-clause-stalled : goal.returns-then-not-take_turn-clause-stalled
returns-then-not-take_turn-clause-stalled g c e =
    let new = c.take_turn.new.self in
    let told = subst (λ o. Tells o new) e c.outcome.ensures.tells in
    stalled_if_empty g.M.Machine.semantics g.met.M.Machine.idle g.met.M.Machine.pending g.met.M.Machine.no_such new.machine new.tasks new.queue c.outcome.ensures.standing told.1

pub returns-clause-stalled : goal.returns-clause-stalled
returns-clause-stalled g c e =
    let new = c.loop-turn.self in
    let told = subst (λ o. Tells o new) e c.outcome-2.ensures.tells in
    stalled_if_empty g.M.Machine.semantics g.met.M.Machine.idle g.met.M.Machine.pending g.met.M.Machine.no_such new.machine new.tasks new.queue c.outcome-2.ensures.standing told.1

pub returns-then-not-take_turn-clause-counts : goal.returns-then-not-take_turn-clause-counts
returns-then-not-take_turn-clause-counts g c =
    let i = c.loop-turn.invariant in
    ap (λ e. act_counts e) c.if-not-take_turn.ensures.unchanged ∙ turns_counts g.M.Machine.semantics g.M.Awaits.starting c.loop-turn._turn c.args.self.now c.loop-turn.self i.0 i.1

pub returns-clause-counts : goal.returns-clause-counts
returns-clause-counts g c = (let i = c.loop-turn.invariant in turns_counts g.M.Machine.semantics g.M.Awaits.starting c.loop-turn._turn c.args.self.now c.loop-turn.self i.0 i.1)
