-- Parts of a ring of messages fit in memory where it does.
use Rattle.std.proofs.Common.{ℕ, refl}
use denote.Param.{layout, param, copied, number}
use denote.RattleType.{RattleType}
use denote.Struct.Declared.{shape}
use Rattle.esync_base.specs.declared.extent.Extent.{Ghosts}
use Rattle.esync_base.proofs.Parts.{Fits, part_fits}
use Rattle.esync_base.specs.contracts.deque.Deque.{the_row as deque_row}
use Rattle.esync_log.specs.contracts.log.held.Counts.{the_row as counts_row}
use Rattle.esync_log.specs.contracts.log.held.Held.{the_row as held_row}
use Rattle.esync_log.specs.contracts.log.held.Held.TheInside.{the_type as held_type}

-- whatever its messages and its numbers are
module _ (T C : RattleType) (e : Ghosts C.Denot) (N : RattleType) where
  messages : Fits (held_row T C N e) → Fits (deque_row T N)
  messages = part_fits (shape (held_type T C N e)) (layout (deque_row T N)) _ 0 refl

  counts : Fits (held_row T C N e) → Fits (counts_row N)
  counts = part_fits (shape (held_type T C N e)) (layout (counts_row N)) _ 1 refl

-- as the methods name them: of any messages, and of ones that are copied
module _ (T C : RattleType) (e : Ghosts C.Denot) (N : ℕ) where
  pub messages_fit : Fits (held_row (param 0 T) (copied 1 C) (param 2 (number N)) e) → Fits (deque_row (param 0 T) (param 2 (number N)))
  messages_fit = messages (param 0 T) (copied 1 C) e (param 2 (number N))

  pub counts_fit : Fits (held_row (param 0 T) (copied 1 C) (param 2 (number N)) e) → Fits (counts_row (param 2 (number N)))
  counts_fit = counts (param 0 T) (copied 1 C) e (param 2 (number N))

  pub copied_messages_fit : Fits (held_row (copied 0 T) (copied 1 C) (param 2 (number N)) e) → Fits (deque_row (copied 0 T) (param 2 (number N)))
  copied_messages_fit = messages (copied 0 T) (copied 1 C) e (param 2 (number N))

  pub copied_counts_fit : Fits (held_row (copied 0 T) (copied 1 C) (param 2 (number N)) e) → Fits (counts_row (param 2 (number N)))
  copied_counts_fit = counts (copied 0 T) (copied 1 C) e (param 2 (number N))
