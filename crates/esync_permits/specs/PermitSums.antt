-- Permits that are there and those of live releasers add up, as long as no command sets, disarms or releases.
use Rattle.std.specs.Prelude.{◌≡◌, ℕ, ◌+◌, ◌-◌, ◌^◌, ◌≤◌, List, [], ◌∷◌, Option, Some, None}
use Rattle.esync_machine.specs.Runs.{Each}
use Rattle.esync_machine.specs.Object.{Object}
use Rattle.esync_machine.specs.declared.primitive.Command.{Command}
use Rattle.esync_machine.specs.declared.primitive.Command.TheVariants.{Start, Poll, End, Call}
use Rattle.esync_permits.specs.declared.semaphore.Amount.{Amount}
use Rattle.esync_permits.specs.declared.semaphore.machine.PermitHeld.{PermitHeld}
use Rattle.esync_permits.specs.declared.semaphore.machine.PermitHeld.TheVariants.{Waiting, Releaser}
use Rattle.esync_permits.specs.declared.semaphore.machine.PermitCall.{PermitCall}
use Rattle.esync_permits.specs.declared.semaphore.machine.PermitCall.TheVariants.{Try, Disarm, Release, Set, Permits}
use Rattle.esync_permits.specs.PermitRules.{Discipline}

-- the command neither makes permits nor takes them away
abbrev pub IsPlain : {W : Type 0} → Command Amount W PermitCall → Type 0
IsPlain (Call (Set k)) = ⊥
IsPlain (Call (Disarm r)) = ⊥
IsPlain (Call (Release k)) = ⊥
IsPlain (Call (Try r amount)) = Unit {0}
IsPlain (Call Permits) = Unit {0}
IsPlain (Start r amount) = Unit {0}
IsPlain (Poll r w) = Unit {0}
IsPlain (End r) = Unit {0}

-- how many permits stand at a number, and at all numbers
abbrev pub granted_at : {T : Type 0} → Option (PermitHeld T) → ℕ
granted_at None = 0
granted_at (Some (Waiting amount t)) = 0
granted_at (Some (Releaser k)) = k

abbrev pub granted_in : {T : Type 0} → List (Option (PermitHeld T)) → ℕ
granted_in [] = 0
granted_in (p ∷ row) = granted_at p + granted_in row

-- the permits that are there and those of live releasers, in all
abbrev pub total : {T G : Type 0} (D : Discipline T G) → Object D.Core (PermitHeld T) → ℕ
total D o = D.permits o.core + granted_in o.requests

-- plain commands leave the total as it was, if the total fits in a number
abbrev pub AddsUp : {W : Type 0} → ℕ → List (Command Amount W PermitCall) → ℕ → Type 0
AddsUp total commands total2 = total ≤ 2 ^ 64 - 1 → Each IsPlain commands → total2 ≡ total
