-- The bytes of a pipe, and the registered wakers.
use Rattle.std.specs.Prelude.{ℕ, List, [], refl}
use Rattle.std.specs.Coded.{Coded, code_by, coded×, coded_list, coded_ℕ}
use Rattle.esync_base.specs.Ring.{Ringed, ringed_code}

-- the registered wakers, at most one in each slot
pub record Slots (W : Type 0) : Type 0 where
  -- the waker of a task that waits for bytes
  pub readers : List W
  -- the waker of a task that waits for room
  pub writers : List W

pub record Piped (W : Type 0) : Type 0 where
  -- the bytes, oldest first, and the place of the oldest
  pub ring : Ringed ℕ
  pub slots : Slots W

abbrev pub piped_code : {W : Type 0} → Coded W → Coded (Piped W)
piped_code {W} w =
    code_by (Ringed ℕ × (List W × List W)) (coded× (ringed_code coded_ℕ) (coded× (coded_list w) (coded_list w)))
    (λ p. (p.ring, (p.slots.readers, p.slots.writers)))
    (λ p. record { ring = p.0; slots = record { readers = p.1.0; writers = p.1.1 } })
    (λ _. refl)
