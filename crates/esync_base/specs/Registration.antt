-- Wakers that are registered: at most n of them, no two of them equal. A slot is a registration for one.
use Rattle.std.specs.Prelude.{◌≡◌, ℕ, Bool, true, List, [], ◌∷◌, ◌++◌, length, Option, Some, None, if◌then◌else◌, nat_lt}
use Rattle.std.specs.List.{list_any}

-- the waker in a slot
abbrev pub slot_wakers : {W : Type 0} → Option W → List W
slot_wakers None = []
slot_wakers (Some w) = w ∷ []

-- whether a waker equal to w is in the list
abbrev pub among : {W : Type 0} → (W → W → Bool) → W → List W → Bool
among eq w vs = list_any (λ v. eq v w) vs

-- a waker equal to w is in the list
abbrev pub IsAmong : {W : Type 0} → (W → W → Bool) → W → List W → Type 0
IsAmong eq w vs = among eq w vs ≡ true

-- what is registered after w was, if there is room for n: a full registration is emptied first
abbrev pub registered : {W : Type 0} → (W → W → Bool) → ℕ → List W → W → List W
registered eq n vs w = if among eq w vs then vs else (if nat_lt (length vs) n then vs ++ w ∷ [] else w ∷ [])

-- the wakers that registering w displaces
abbrev pub displaced : {W : Type 0} → (W → W → Bool) → ℕ → List W → W → List W
displaced eq n vs w = if among eq w vs then [] else (if nat_lt (length vs) n then [] else vs)

-- what is registered after this waker was, or `vs` if there is none
abbrev pub registered_if : {W : Type 0} → (W → W → Bool) → ℕ → List W → Option W → List W
registered_if eq n vs None = vs
registered_if eq n vs (Some w) = registered eq n vs w

abbrev pub displaced_if : {W : Type 0} → (W → W → Bool) → ℕ → List W → Option W → List W
displaced_if eq n vs None = []
displaced_if eq n vs (Some w) = displaced eq n vs w
