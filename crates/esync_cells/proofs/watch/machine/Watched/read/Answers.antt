use Rattle.std.proofs.Common.{refl, sym, ap, subst, ◌∙◌}
use Rattle.std.specs.Prelude.{Ok, Err}
use Rattle.std.specs.declared.alloc.AllocError.{AllocError}
use Rattle.esync_machine.specs.declared.primitive.Answer.TheVariants.{NoMemory, Gives}
use Rattle.esync_cells.specs.Watch.{seen_after}
use Rattle.esync_cells.specs.Receivers.{Followed}
use Rattle.esync_cells.specs.WatchRules.{Reads, watch_of}
use Rattle.esync_cells.specs.declared.watch.machine.WatchHeard.TheVariants.{Found}
use Rattle.esync_cells.proofs.WatchKept.{read_object}
use Rattle.esync_cells.proofs.watch.machine.Watched.read.Goals as goal

pub returns-in-Ok : goal.returns-in-Ok
returns-in-Ok g c = record {
  allowed = (
      let s = c.self.inside.state in
      let q = c.self.inside.receivers in
      let there = sym c.get.ensures ∙ c.in-Some.is in
      let object = read_object c.args.self.now c.mark.new.self s q c.args.h c.read.new.seen _ c.self.view_is c.mark.ensures (c.in-Ok.ensures.seen ∙ ap (λ b. seen_after {E = AllocError} b s.version c.in-Some.receiver.version (Ok c.in-Ok.found)) c.marks-marks.ensures) in
      rw (← c.self.view_is) (subst (λ p. Reads g.T.Clone.is_clone g.T.Clone.is_infallible g.J.Judge.passes p c.args.h c.args.read.now (watch_of (record { state = s; receivers = q })) (Gives (Found c.in-Ok.found)) (watch_of c.mark.new.self)) (sym there) (Ok c.in-Ok.found, rw c.shows-shows.ensures at c.in-Ok.ensures.answer, (refl, object))));
  waiters = ap (λ (s : Followed _ _). s.state.waiters) c.mark.ensures;
}

pub returns-in-Err : goal.returns-in-Err
returns-in-Err g c = record {
  allowed = (
      let s = c.self.inside.state in
      let q = c.self.inside.receivers in
      let there = sym c.get.ensures ∙ c.in-Some.is in
      rw (← c.self.view_is) (subst (λ p. Reads g.T.Clone.is_clone g.T.Clone.is_infallible g.J.Judge.passes p c.args.h c.args.read.now (watch_of (record { state = s; receivers = q })) NoMemory (watch_of (record { state = s; receivers = q }))) (sym there) (Err c.in-Err.field-0, rw c.shows-shows.ensures at c.in-Err.ensures.answer, (refl, refl))));
  waiters = refl;
}
