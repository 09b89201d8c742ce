use Rattle.std.proofs.Common.{rules, ◌<◌, refl, sym, ap, subst, ◌∙◌}
use Rattle.esync_machine.specs.NamesLaws.{free_below}
use Rattle.esync_cells.specs.Receivers.{Followed}
use Rattle.esync_cells.specs.ReceiversLaws.{counts_joined}
use Rattle.esync_cells.proofs.WatchKept.{table_object}
use Rattle.esync_cells.proofs.watch.machine.Watched.join_anon.Goals as goal

pub invariant_of-self : goal.invariant_of-self
invariant_of-self g c =
    let free = sym c.is_free.ensures ∙ c.if-not-is_free.false in
    counts_joined g.row.NAMES c.self.inside.state.receivers c.args.h c.self.inside.receivers c.put.new.self c.self.invariant _ free c.put.ensures

pub put-requires : goal.put-requires
put-requires g c =
    let free = sym c.is_free.ensures ∙ c.if-not-is_free.false in
    (search rules, subst (λ n. c.args.h < n) c.self.invariant.0 (free_below c.self.inside.receivers c.args.h free))

pub returns : goal.returns
returns g c = record {
  allowed = (
      let s = c.self.inside.state in
      let q = c.self.inside.receivers in
      let free = sym c.is_free.ensures ∙ c.if-not-is_free.false in
      let object = table_object s s s.receivers q c.put.new.self _ refl c.put.ensures in
      rw (← c.self.view_is, free) (refl, object));
  waiters = ap (λ (s : Followed _ _). s.state.waiters) c.self.view_is;
}
