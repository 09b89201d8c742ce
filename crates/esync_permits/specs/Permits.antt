-- Permits, and what a request takes of them.
use Rattle.std.specs.Prelude.{◌≡◌, ℕ, ◌+◌, ◌-◌, ◌^◌, ◌<◌, ◌≤◌, min, Bool, true, false, List, [], Option, Some, None}
use Rattle.esync_base.specs.declared.waitqueue.Poll.{Poll}
use Rattle.esync_base.specs.declared.waitqueue.Poll.TheVariants.{Pending, Ready}
use Rattle.esync_permits.specs.declared.semaphore.Amount.{Amount}
use Rattle.esync_permits.specs.declared.semaphore.Amount.TheVariants.{Exactly, AllFrom}

-- how many permits have to be there
abbrev pub least : Amount → ℕ
least (Exactly k) = k
least (AllFrom k) = k

-- how many of n permits are taken
abbrev pub taken : ℕ → Amount → ℕ
taken n (Exactly k) = k
taken n (AllFrom k) = n

-- a request takes these of n permits if enough are there, and otherwise none; n2 are left
abbrev pub Takes : ℕ → Amount → Option ℕ → ℕ → Type 0
Takes n amount (Some k) n2 = (least amount ≤ n) × (k ≡ taken n amount) × (n2 ≡ n - k)
Takes n amount None n2 = (n < least amount) × (n2 ≡ n)

-- a request takes permits only if it is its turn
abbrev pub TakesInTurn : Bool → ℕ → Amount → Option ℕ → ℕ → Type 0
TakesInTurn true n amount got n2 = Takes n amount got n2
TakesInTurn false n amount got n2 = (got ≡ None) × (n2 ≡ n)

-- permits are added up to the greatest number that there is
abbrev pub released : ℕ → ℕ → ℕ
released n k = min (n + k) (2 ^ 64 - 1)

-- what a poll was granted
abbrev pub granted : Poll ℕ → Option ℕ
granted (Ready k) = Some k
granted Pending = None

-- the wakers that are handed out, if there is news
abbrev pub woken_if : {W : Type 0} → Bool → List W → List W
woken_if true wakers = wakers
woken_if false wakers = []
