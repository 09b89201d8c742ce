-- A side's turn at a slot whose value stands in a place of its own, which is only tried.
use Rattle.std.specs.Prelude.{◌≡◌, ℕ, Bool, List, [], ◌∷◌, Option, Some, None}
use Rattle.esync_base.specs.Registration.{displaced}
use Rattle.esync_zerocopy.specs.Slots.{Turning, Waiting, done_by, other, waits_at, with_waits}
use Rattle.esync_zerocopy.specs.declared.zerocopy_channel.Side.{Side}

module _ {W : Type 0} (eq : W → W → Bool) where
  -- what a poll hands out, by whether the side has a slot and its value was there: its own waker for the value alone
  abbrev pub wakes_of_turn : {A B : Type 0} → Option A → Option B → Side → W → Waiting W → List W
  wakes_of_turn None won side w waiting = displaced eq 1 (waits_at side waiting) w
  wakes_of_turn (Some i) None side w waiting = w ∷ []
  wakes_of_turn (Some i) (Some x) side w waiting = []

-- a side is done with its next slot; without a slot, nothing happens
abbrev pub DoneIf : {W : Type 0} → List ℕ → Side → Turning W → Turning W → List W → Type 0
DoneIf [] side old new wakes = (new ≡ old) × (wakes ≡ [])
DoneIf (i ∷ is) side old new wakes = (new ≡ record { sides = done_by side old.sides; waiting = with_waits (other side) [] old.waiting }) × (wakes ≡ waits_at (other side) old.waiting)
