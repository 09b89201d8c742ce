use Rattle.std.proofs.Common.{rules, ◌≡◌, true, false, refl, sym, ◌∙◌, arith}
use Rattle.std.proofs.lemmas.List.{append-nil}
use Rattle.esync_cells.proofs.watch.WatchOver.send_if_modified.Goals as goal

pub returns-then-apply : goal.returns-then-apply
returns-then-apply g c =
    let told : g.C.Change.tells c.args.change.now c.self.inside.value ≡ true = sym c.apply.ensures.answer ∙ c.if-apply.true in
    record {
      room = search rules;
      exhausted = tt;
      state = rw (← c.self.view_is) (rw (told, ← c.apply.ensures.value) c.tell.ensures.state);
      wakes = rw (← c.self.view_is) (rw told c.tell.ensures.wakes);
      at_most = c.tell.ensures.at_most;
    }

pub returns-else-apply : goal.returns-else-apply
returns-else-apply g c =
    let told : g.C.Change.tells c.args.change.now c.self.inside.value ≡ false = sym c.apply.ensures.answer ∙ c.if-apply.false in
    let same : c.apply.new.value ≡ c.self.inside.value = c.apply.ensures.value ∙ g.met.C.Change.a_change_tells c.args.change.now c.self.inside.value told in
    record {
      room = search rules;
      exhausted = tt;
      state = rw (sym c.self.view_is) (rw told (rw same refl));
      wakes = rw (← c.self.view_is) (rw told (sym (append-nil c.args.wakes.now)));
      at_most = omega arith;
    }
