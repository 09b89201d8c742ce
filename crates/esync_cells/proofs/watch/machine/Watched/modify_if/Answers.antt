use Rattle.std.proofs.Common.{refl, ◌∙◌}
use Rattle.esync_cells.proofs.WatchKept.{same_count, puts, hands}
use Rattle.esync_cells.proofs.watch.machine.Watched.modify_if.Goals as goal

pub invariant_of-self : goal.invariant_of-self
invariant_of-self g c =
    let s = c.self.inside.state in
    let e = c.send_if_modified.ensures in
    (c.self.invariant.0, same_count s c.send_if_modified.new.self _ (g.C.Change.tells c.args.change.now s.value) c.send_if_modified.result e.state ∙ c.self.invariant.1)

pub returns : goal.returns
returns g c =
    let s = c.self.inside.state in
    let e = c.send_if_modified.ensures in
    record {
      allowed = rw (← c.self.view_is) (c.send_if_modified.result, refl, puts s c.send_if_modified.new.self _ c.self.inside.receivers (g.C.Change.tells c.args.change.now s.value) c.send_if_modified.result e.room e.exhausted e.state);
      exact = rw (← c.self.view_is) (hands s c.send_if_modified.new.self (g.C.Change.changed c.args.change.now s.value) c.args.wakes.now c.send_if_modified.new.wakes (g.C.Change.tells c.args.change.now s.value) c.send_if_modified.result c.requires.empty e.wakes e.state);
    }
