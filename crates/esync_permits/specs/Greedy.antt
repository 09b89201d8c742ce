-- The greedy semaphore: its permits, and the slot for the waker of a task that waits.
use Rattle.std.specs.Prelude.{ℕ, Bool, true, false, List, [], Option, Some, None, refl}
use Rattle.std.specs.Coded.{Coded, code_by, coded×, coded_ℕ, coded_list}
use Rattle.esync_base.specs.Registration.{registered, displaced}
use Rattle.esync_permits.specs.declared.semaphore.Amount.{Amount}

pub record Greedy (W : Type 0) : Type 0 where
  pub permits : ℕ
  -- the registered waker, at most one
  pub waiter : List W

abbrev pub greedy_code : {W : Type 0} → Coded W → Coded (Greedy W)
greedy_code {W} w =
    code_by (ℕ × List W) (coded× coded_ℕ (coded_list w)) (λ s. (s.permits, s.waiter)) (λ p. record { permits = p.0; waiter = p.1 }) (λ _. refl)

-- a poll that isn't granted registers its waker in the slot
module _ {W : Type 0} (eq : W → W → Bool) (w : W) where
  abbrev pub slot_after_poll : Option ℕ → List W → List W
  slot_after_poll (Some k) slot = slot
  slot_after_poll None slot = registered eq 1 slot w

  abbrev pub wakes_of_poll : Option ℕ → List W → List W
  wakes_of_poll (Some k) slot = []
  wakes_of_poll None slot = displaced eq 1 slot w

-- the slot is emptied if it is handed out
abbrev pub slot_after_more : {W : Type 0} → Bool → List W → List W
slot_after_more true slot = []
slot_after_more false slot = slot

-- what a poll leaves of a request
abbrev pub rest_of : Amount → Option ℕ → Option Amount
rest_of amount (Some k) = None
rest_of amount None = Some amount
