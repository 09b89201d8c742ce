use Rattle.std.proofs.Common.{rules, ◌<◌, refl, sym, subst, ◌∙◌}
use Rattle.esync_machine.specs.NamesLaws.{number_below}
use Rattle.esync_cells.specs.ReceiversLaws.{counts_marked}
use Rattle.esync_cells.proofs.WatchKept.{marked_watch}
use Rattle.esync_cells.proofs.watch.machine.Watched.mark.Goals as goal

pub put-requires : goal.put-requires
put-requires g c =
    (search rules, subst (λ n. c.args.h < n) c.self.invariant.0 (number_below c.self.inside.receivers c.args.h c.in-Some.receiver (sym c.get.ensures ∙ c.in-Some.is)))

pub invariant_of-self : goal.invariant_of-self
invariant_of-self g c =
    counts_marked g.row.NAMES c.self.inside.state.receivers c.args.h c.self.inside.receivers c.put.new.self c.self.invariant c.in-Some.receiver _ (sym c.get.ensures ∙ c.in-Some.is) refl c.put.ensures

pub returns-in-Some : goal.returns-in-Some
returns-in-Some g c =
    marked_watch c.args.self.now c.self.inside.state c.args.h c.args.version c.self.inside.receivers c.put.new.self c.in-Some.receiver c.self.view_is (sym c.get.ensures ∙ c.in-Some.is) c.put.ensures
