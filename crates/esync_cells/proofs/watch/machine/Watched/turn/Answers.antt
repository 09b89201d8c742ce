use Rattle.std.proofs.Common.{rules, ◌≤◌, ◌+◌, ◌++◌, [], refl, None, Some, sym, ap, subst, ◌∙◌, arith}
use Rattle.std.specs.Prelude.{Ok, Err, length}
use Rattle.esync_base.specs.Registration.{displaced}
use Rattle.esync_cells.specs.Watch.{Watching}
use Rattle.esync_cells.specs.Receivers.{Followed}
use Rattle.esync_cells.proofs.WatchKept.{marked_object, waiting_object}
use Rattle.esync_cells.proofs.watch.machine.Watched.turn.Goals as goal

pub poll-requires : goal.poll-requires
poll-requires g c =
    let place = c.has_place.ensures in
    (search rules, (place, subst (λ l. length l + g.L.WakerList.room ≤ g.row.K) (sym c.requires.empty) (omega (arith, c.requires.room))))

pub returns-in-Ok-Ready : goal.returns-in-Ok-Ready
returns-in-Ok-Ready g c = record {
  allowed = (
      let s = c.self.inside.state in
      let is = c.in-Ok-Ready.is ∙ ap Ok c.in-Ok-Ready.field-0-is in
      let seen = rw (← c.self.view_is) at c.seen_at-seen.ensures in
      let answer = rw (c.shows-shows.ensures, seen, is) at c.poll.ensures.answer in
      let marked = rw is at c.poll.ensures.seen in
      let object = marked_object s c.poll.new.self c.self.inside.receivers c.args.held.receiver c.poll.new.seen _ c.mark.new.self c.poll.ensures.state marked c.mark.ensures in
      rw (← c.self.view_is) (Ok (Some c.in-Ok-Ready.value), answer, (c.over.ensures.answer, object, c.over.ensures.place)));
  exact = (
      let is = c.in-Ok-Ready.is ∙ ap Ok c.in-Ok-Ready.field-0-is in
      let wakes = rw is at c.poll.ensures.wakes in
      let state = rw is at c.poll.ensures.state in
      rw (← c.self.view_is, c.over.ensures.answer) (wakes ∙ ap (λ l. l ++ []) c.requires.empty, ap (λ (m : Followed _ _). m.state.waiters) c.mark.ensures ∙ ap (λ (s : Watching _ _). s.waiters) state));
}

pub returns-in-Ok-Pending : goal.returns-in-Ok-Pending
returns-in-Ok-Pending g c = record {
  allowed = (
      let s = c.self.inside.state in
      let is = c.in-Ok-Pending.is ∙ ap Ok c.in-Ok-Pending.field-0-is in
      let seen = rw (← c.self.view_is) at c.seen_at-seen.ensures in
      let answer = rw (c.shows-shows.ensures, seen, is) at c.poll.ensures.answer in
      let object = waiting_object s c.poll.new.self c.self.inside.receivers _ c.poll.ensures.state in
      rw (← c.self.view_is) (Ok None, answer, (c.waits.ensures.answer, object, c.waits.ensures.place)));
  exact = (
      let is = c.in-Ok-Pending.is ∙ ap Ok c.in-Ok-Pending.field-0-is in
      let wakes = rw is at c.poll.ensures.wakes in
      let state = rw is at c.poll.ensures.state in
      rw (← c.self.view_is, c.waits.ensures.answer) (wakes ∙ ap (λ l. l ++ displaced g.L.Waker.PartialEq.eq g.L.WakerList.room c.self.inside.state.waiters c.args.cx.now) c.requires.empty, ap (λ (s : Watching _ _). s.waiters) state));
}

pub returns-in-Err : goal.returns-in-Err
returns-in-Err g c = record {
  allowed = (
      let s = c.self.inside.state in
      let is = c.in-Err.is in
      let seen = rw (← c.self.view_is) at c.seen_at-seen.ensures in
      let answer = rw (c.shows-shows.ensures, seen, is) at c.poll.ensures.answer in
      let object = waiting_object s c.poll.new.self c.self.inside.receivers _ c.poll.ensures.state in
      rw (← c.self.view_is) (Err _, answer, (refl, object, refl)));
  exact = (
      let is = c.in-Err.is in
      let wakes = rw is at c.poll.ensures.wakes in
      let state = rw is at c.poll.ensures.state in
      rw (← c.self.view_is) (wakes ∙ ap (λ l. l ++ []) c.requires.empty, ap (λ (s : Watching _ _). s.waiters) state));
}
