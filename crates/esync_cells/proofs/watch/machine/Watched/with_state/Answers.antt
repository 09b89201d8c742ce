use Rattle.esync_cells.specs.ReceiversLaws.{counts_none}
use Rattle.esync_cells.proofs.watch.machine.Watched.with_state.Goals as goal

pub invariant_of-result : goal.invariant_of-result
invariant_of-result g c = counts_none g.row.NAMES _ _ c.requires c.new.ensures
