use Rattle.std.proofs.Common.{true, refl, ap}
use Rattle.esync_cells.specs.Watch.{Watching}
use Rattle.esync_cells.proofs.WatchKept.{handed_none, handed_as, cleared_object}
use Rattle.esync_cells.proofs.watch.machine.Watched.perform.Goals as goal

pub returns-in-Receiver : goal.returns-in-Receiver
returns-in-Receiver g c = record {
  allowed = rw c.in-Receiver.is c.join.ensures.allowed;
  exact = rw c.in-Receiver.is (handed_none c.join.result _ _ _ c.requires.empty c.join.ensures.waiters);
}

pub returns-in-Anon : goal.returns-in-Anon
returns-in-Anon g c = record {
  allowed = rw c.in-Anon.is c.join_anon.ensures.allowed;
  exact = rw c.in-Anon.is (handed_none c.join_anon.result _ _ _ c.requires.empty c.join_anon.ensures.waiters);
}

pub returns-in-Leave : goal.returns-in-Leave
returns-in-Leave g c = record {
  allowed = rw c.in-Leave.is c.leave.ensures.allowed;
  exact = rw c.in-Leave.is (handed_none c.leave.result _ _ _ c.requires.empty c.leave.ensures.waiters);
}

pub returns-in-TryGet : goal.returns-in-TryGet
returns-in-TryGet g c = record {
  allowed = rw c.in-TryGet.is c.try_get.ensures;
  exact = rw c.in-TryGet.is (handed_none c.try_get.result _ _ _ c.requires.empty refl);
}

pub returns-in-Read : goal.returns-in-Read
returns-in-Read g c = record {
  allowed = rw c.in-Read.is c.read.ensures.allowed;
  exact = rw c.in-Read.is (handed_none c.read.result _ _ _ c.requires.empty c.read.ensures.waiters);
}

pub returns-in-Send : goal.returns-in-Send
returns-in-Send g c = record {
  allowed = rw c.in-Send.is c.send.ensures.allowed;
  exact = rw c.in-Send.is (handed_as true c.send.result _ _ _ c.send.ensures.exact);
}

pub returns-in-Modify : goal.returns-in-Modify
returns-in-Modify g c = record {
  allowed = rw c.in-Modify.is c.modify.ensures.allowed;
  exact = rw c.in-Modify.is (handed_as true c.modify.result _ _ _ c.modify.ensures.exact);
}

pub returns-in-ModifyIf : goal.returns-in-ModifyIf
returns-in-ModifyIf g c = record {
  allowed = rw c.in-ModifyIf.is c.modify_if.ensures.allowed;
  exact = rw c.in-ModifyIf.is (handed_as (g.C.Change.tells c.in-ModifyIf.change c.args.self.now.state.value) c.modify_if.result _ _ _ c.modify_if.ensures.exact);
}

pub returns-in-Clear : goal.returns-in-Clear
returns-in-Clear g c = record {
  allowed = rw (c.in-Clear.is, ← c.self.view_is) (refl, cleared_object c.self.inside.state c.clear.new.self c.self.inside.receivers c.clear.ensures);
  exact = rw (c.in-Clear.is, ← c.self.view_is) (c.requires.empty, ap (λ (s : Watching _ _). s.waiters) c.clear.ensures);
}

pub returns-in-Id : goal.returns-in-Id
returns-in-Id g c = record {
  allowed = rw (c.in-Id.is, ← c.self-in-Id.view_is, c.get_msg_id.ensures) (refl, refl);
  exact = rw c.in-Id.is (c.requires.empty, refl);
}

pub returns-in-Contains : goal.returns-in-Contains
returns-in-Contains g c = record {
  allowed = rw (c.in-Contains.is, ← c.self-in-Contains.view_is, c.contains_value.ensures) (refl, refl);
  exact = rw c.in-Contains.is (c.requires.empty, refl);
}
