use Rattle.std.proofs.Common.{Some, true, refl, ap, ◌++◌, ◌∙◌}
use Rattle.esync_cells.proofs.WatchKept.{sent_as, woken_as, same_count, puts, hands}
use Rattle.esync_cells.proofs.watch.machine.Watched.send.Goals as goal

pub invariant_of-self : goal.invariant_of-self
invariant_of-self g c =
    let s = c.self.inside.state in
    let r = c.send.result in
    let value = Some c.args.value in
    (c.self.invariant.0, same_count s c.send.new.self value true r (c.send.ensures.state ∙ sent_as s value r) ∙ c.self.invariant.1)

pub returns : goal.returns
returns g c =
    let s = c.self.inside.state in
    let r = c.send.result in
    let e = c.send.ensures in
    let value = Some c.args.value in
    record {
      allowed = rw (← c.self.view_is) (r, refl, puts s c.send.new.self value c.self.inside.receivers true r e.room e.exhausted (e.state ∙ sent_as s value r), e.returned);
      exact = rw (← c.self.view_is) (hands s c.send.new.self value c.args.wakes.now c.send.new.wakes true r c.requires.empty (e.wakes ∙ ap (λ l. c.args.wakes.now ++ l) (woken_as s value r)) (e.state ∙ sent_as s value r));
    }
