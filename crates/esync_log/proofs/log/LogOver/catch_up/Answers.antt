use Rattle.std.proofs.Common.{sym, ap, ◌∙◌, arith}
use Rattle.esync_log.specs.LogLaws.{moved_live, moved_up, caught_lagging, caught_up}
use Rattle.esync_log.specs.Log.{moved}
use Rattle.esync_log.proofs.log.LogOver.catch_up.Goals as goal

pub returns-then-position-oldest-clause-state : goal.returns-then-position-oldest-clause-state
returns-then-position-oldest-clause-state g c =
    c.lag_at.ensures
    ∙ ap (λ n. moved c.args.place n c.args.self.now) c.oldest-oldest.ensures
    ∙ sym (caught_lagging c.args.place c.args.self.now (omega (arith, c.if-position-oldest.true, c.oldest-oldest.ensures, c.position.ensures.value)))

pub returns-then-position-oldest-clause-live : goal.returns-then-position-oldest-clause-live
returns-then-position-oldest-clause-live g c = rw c.lag_at.ensures (moved_live c.args.place c.args.self.now c.requires c.oldest-oldest.result)

pub returns-then-position-oldest-clause-from : goal.returns-then-position-oldest-clause-from
returns-then-position-oldest-clause-from g c = rw c.lag_at.ensures (moved_up c.args.place c.args.self.now c.requires c.oldest-oldest.result c.oldest-oldest.ensures)

pub returns-else-position-oldest-clause-state : goal.returns-else-position-oldest-clause-state
returns-else-position-oldest-clause-state g c = sym (caught_up c.args.place c.args.self.now (omega (arith, c.if-position-oldest.false, c.oldest-oldest.ensures, c.position.ensures.value)))
