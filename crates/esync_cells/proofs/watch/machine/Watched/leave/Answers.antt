use Rattle.std.proofs.Common.{rules, refl, sym, ap, ◌∙◌, subst, ◌≤◌, ◌<◌}
use Rattle.esync_machine.specs.NamesLaws.{number_below}
use Rattle.esync_cells.specs.Receivers.{Followed, is_counted}
use Rattle.esync_cells.specs.ReceiversLaws.{one_counted, counts_left}
use Rattle.esync_cells.specs.Watch.{Watching}
use Rattle.esync_cells.proofs.WatchKept.{table_object}
use Rattle.esync_cells.proofs.watch.machine.Watched.leave.Goals as goal

pub drop_counted-requires : goal.drop_counted-requires
drop_counted-requires g c =
    (λ counts. subst (λ n. 1 ≤ n) (sym c.self.invariant.1) (one_counted c.args.h c.self.inside.receivers (ap is_counted (sym c.get.ensures ∙ c.in-Some.is) ∙ counts)))

pub invariant_of-self : goal.invariant_of-self
invariant_of-self g c =
    counts_left g.row.NAMES c.self.inside.state.receivers c.args.h c.self.inside.receivers c.put.new.self c.self.invariant c.in-Some.receiver c.drop_counted.new.state.receivers (sym c.get.ensures ∙ c.in-Some.is) c.put.ensures c.drop_counted.ensures.count

pub put-requires : goal.put-requires
put-requires g c =
    (search rules, subst (λ n. c.args.h < n) c.self.invariant.0 (number_below c.self.inside.receivers c.args.h c.in-Some.receiver (sym c.get.ensures ∙ c.in-Some.is)))

pub returns : goal.returns
returns g c = record {
  allowed = rw (← c.self.view_is, ← c.get.ensures, c.in-Some.is) (refl, table_object c.self.inside.state c.drop_counted.new.state _ c.self.inside.receivers c.put.new.self _ c.drop_counted.ensures.state c.put.ensures);
  waiters = ap (λ (s : Watching _ _). s.waiters) c.drop_counted.ensures.state ∙ ap (λ (s : Followed _ _). s.state.waiters) c.self.view_is;
}
