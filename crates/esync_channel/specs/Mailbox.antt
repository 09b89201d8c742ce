-- The messages of a channel, and the registered wakers.
use Rattle.std.specs.Prelude.{List, refl}
use Rattle.std.specs.Coded.{Coded, code_by, coded×, coded_list}

-- the registered wakers, at most one in each slot
pub record Slots (W : Type 0) : Type 0 where
  -- the waker of a task that waits for a message
  pub receivers : List W
  -- the waker of a task that waits for room
  pub senders : List W

pub record Mailbox (S W : Type 0) : Type 0 where
  pub store : S
  pub slots : Slots W

abbrev pub mailbox_code : {S W : Type 0} → Coded S → Coded W → Coded (Mailbox S W)
mailbox_code {S} {W} s w =
    code_by (S × (List W × List W)) (coded× s (coded× (coded_list w) (coded_list w)))
    (λ m. (m.store, (m.slots.receivers, m.slots.senders)))
    (λ p. record { store = p.0; slots = record { receivers = p.1.0; senders = p.1.1 } })
    (λ _. refl)
