use Rattle.std.proofs.Common.{◌≡◌, ◌<◌, ◌≤◌, ◌∙◌, ap, sym, arith, rules}
use Rattle.esync_log.specs.Log.{position, oldest, moved, caught, IsRefused}
use Rattle.esync_log.specs.LogLaws.{moved_live, moved_down, moved_back, caught_lagging, caught_up, refused_caught}
use Rattle.esync_log.proofs.log.LogOverLogStore.read_on.Goals.{then-position-oldest, else-position-oldest}
use Rattle.esync_log.proofs.log.LogOverLogStore.read_on.Goals as goal

pub lag_at-requires : goal.lag_at-requires
lag_at-requires g c =
    let log = c.args.self.now in
    let at = c.oldest-oldest.result in
    let l : position c.args.place log < oldest log = omega (arith, c.if-position-oldest.true, c.oldest-oldest.ensures, c.position-position.ensures.value) in
    let there : c.take_next.new.self ≡ moved c.args.place at log = c.in-Err.ensures.err ∙ c.catch_up.ensures.state ∙ caught_lagging c.args.place log l ∙ ap (λ n. moved c.args.place n log) (sym c.oldest-oldest.ensures) in
    rw there (record { live = moved_live c.args.place log c.requires at; lags = moved_down c.args.place log c.requires at c.oldest-oldest.ensures; within = omega (arith, c.if-position-oldest.true, c.oldest-oldest.ensures) })

pub returns-after-position-oldest : goal.returns-after-position-oldest
returns-after-position-oldest g c = record {
  ok = search rules;
  refused = (
      let log = c.args.self.now in
      let refused : IsRefused g.H.Message.Clone.is_infallible c.args.place (position c.args.place (caught c.args.place log)) (caught c.args.place log) = rw c.catch_up.ensures.state at c.in-Err.ensures.refused in
      refused_caught c.args.place log g.H.Message.Clone.is_infallible (position c.args.place (caught c.args.place log)) refused);
  err = (
      let log = c.args.self.now in
      let back : c.take_next.new.self ≡ caught c.args.place log = c.in-Err.ensures.err ∙ c.catch_up.ensures.state in
      elim c.if-position-oldest.branch [
        | then-position-oldest w ↦
            let l : position c.args.place log < oldest log = omega (arith, w.if-position-oldest.true, c.oldest-oldest.ensures, c.position-position.ensures.value) in
            let moved_is = back ∙ caught_lagging c.args.place log l in
            w.self-is ∙ w.lag_at.ensures ∙ ap (moved c.args.place c.position-position.result) moved_is ∙ moved_back c.args.place log c.position-position.result (oldest log) c.position-position.ensures.live
        | else-position-oldest w ↦
            let l : oldest log ≤ position c.args.place log = omega (arith, w.if-position-oldest.false, c.oldest-oldest.ensures, c.position-position.ensures.value) in
            w.self-is ∙ back ∙ caught_up c.args.place log l
      ]);
  place = search rules;
}
