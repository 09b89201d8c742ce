use Rattle.std.proofs.Common.{rules, ◌<◌, nat_lt, refl, sym, ap, subst, ◌∙◌}
use Rattle.esync_machine.specs.Names.{counted}
use Rattle.esync_machine.specs.NamesLaws.{free_below}
use Rattle.esync_cells.specs.Watch.{Watching}
use Rattle.esync_cells.specs.Receivers.{Followed}
use Rattle.esync_cells.specs.ReceiversLaws.{counts_joined}
use Rattle.esync_cells.specs.WatchRules.{watch_of}
use Rattle.esync_cells.proofs.WatchKept.{table_object}
use Rattle.esync_cells.proofs.watch.machine.Watched.join.Goals as goal

pub invariant_of-self-2 : goal.invariant_of-self-2
invariant_of-self-2 g c =
    let free = sym c.is_free.ensures ∙ c.if-not-is_free.false in
    let is = counts_joined g.row.NAMES c.self.inside.state.receivers c.args.h c.self.inside.receivers c.put.new.self c.self.invariant _ free c.put.ensures in
    (is.0, ap (λ (s : Watching _ _). s.receivers) c.add_receiver.ensures.state ∙ ap (λ b. counted b c.self.inside.state.receivers) c.if-not-add_receiver.false ∙ is.1)

pub put-requires : goal.put-requires
put-requires g c =
    let free = sym c.is_free.ensures ∙ c.if-not-is_free.false in
    (search rules, subst (λ n. c.args.h < n) c.self.invariant.0 (free_below c.self.inside.receivers c.args.h free))

pub returns : goal.returns
returns g c = record {
  allowed = (
      let s = c.self.inside.state in
      let q = c.self.inside.receivers in
      let free = sym c.is_free.ensures ∙ c.if-not-is_free.false in
      let room = sym (c.add_receiver.ensures.answer ∙ ap (λ n. nat_lt n g.L.WakerList.room) c.self.invariant.1) ∙ c.if-not-add_receiver.false in
      let object = table_object s c.add_receiver.new.self _ q c.put.new.self _ c.add_receiver.ensures.state c.put.ensures in
      rw (← c.self.view_is, free, room) (refl, object));
  waiters = ap (λ (s : Watching _ _). s.waiters) c.add_receiver.ensures.state ∙ ap (λ (s : Followed _ _). s.state.waiters) c.self.view_is;
}

pub invariant_of-self : goal.invariant_of-self
invariant_of-self g c =
    let s = c.self.inside.state in
    (c.self.invariant.0, ap (λ (x : Watching _ _). x.receivers) c.add_receiver.ensures.state ∙ ap (λ b. counted b s.receivers) c.if-not-add_receiver.true ∙ c.self.invariant.1)

pub returns-then-not-add_receiver : goal.returns-then-not-add_receiver
returns-then-not-add_receiver g c = record {
  allowed = (
      let s = c.self.inside.state in
      let q = c.self.inside.receivers in
      let free = sym c.is_free.ensures ∙ c.if-not-is_free.false in
      let room = sym (c.add_receiver.ensures.answer ∙ ap (λ n. nat_lt n g.L.WakerList.room) c.self.invariant.1) ∙ c.if-not-add_receiver.true in
      let object = ap (λ (x : Watching _ _). watch_of (record { state = x; receivers = q })) (c.add_receiver.ensures.state ∙ ap (λ b. record s { receivers = counted b s.receivers }) c.if-not-add_receiver.true) in
      rw (← c.self.view_is, free, room) (refl, object));
  waiters = ap (λ (s : Watching _ _). s.waiters) c.add_receiver.ensures.state ∙ ap (λ (s : Followed _ _). s.state.waiters) c.self.view_is;
}
