use Rattle.std.proofs.Common.{refl, ap, arith}
use Rattle.esync_cells.specs.Watch.{Watching}
use Rattle.esync_cells.proofs.watch.machine.drop_counted.Goals as goal

pub drop_receiver-requires : goal.drop_receiver-requires
drop_receiver-requires g c = c.requires c.if-is_counted.true

pub returns-then-is_counted : goal.returns-then-is_counted
returns-then-is_counted g c = record {
  state = rw c.drop_receiver.ensures refl;
  count = rw c.if-is_counted.true (omega (arith, c.requires c.if-is_counted.true, ap (λ (s : Watching _ _). s.receivers) c.drop_receiver.ensures));
}

pub returns-else-is_counted : goal.returns-else-is_counted
returns-else-is_counted g c = record {
  state = refl;
  count = rw c.if-is_counted.false refl;
}
