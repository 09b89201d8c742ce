-- The entries of a queue fit in memory where it does.
use Rattle.std.proofs.Common.{ℕ, refl}
use denote.Param.{layout, param, copied, number}
use denote.RattleType.{RattleType}
use denote.Struct.Declared.{shape}
use Rattle.esync_base.proofs.Parts.{Fits, part_fits}
use Rattle.esync_base.specs.contracts.deque.Deque.{the_row as deque_row}
use Rattle.esync_permits.specs.contracts.queue.Entry.{the_row as entry_row}
use Rattle.esync_permits.specs.contracts.queue.Queue.{the_row as queue_row}
use Rattle.esync_permits.specs.contracts.queue.Queue.TheInside.{the_type as queue_type}

-- the wakers of its entries are copied
module _ (W : RattleType) (N : ℕ) where
  pub entries_fit : Fits (queue_row (copied 0 W) (param 1 (number N))) → Fits (deque_row (entry_row (copied 0 W)) (param 1 (number N)))
  entries_fit = part_fits (shape (queue_type (copied 0 W) (param 1 (number N)))) (layout (deque_row (entry_row (copied 0 W)) (param 1 (number N)))) _ 0 refl
