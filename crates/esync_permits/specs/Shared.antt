-- What the shared forms of both semaphores know of a request.
use Rattle.std.specs.Prelude.{◌≡◌, ℕ, ◌≤◌, Bool, true, false, Option, Some, None}
use Rattle.esync_base.specs.declared.waitqueue.Poll.{Poll}
use Rattle.esync_base.specs.declared.waitqueue.Poll.TheVariants.{Pending, Ready}
use Rattle.esync_permits.specs.declared.semaphore.Amount.{Amount}
use Rattle.esync_permits.specs.declared.semaphore.Amount.TheVariants.{Exactly, AllFrom}
use Rattle.esync_permits.specs.Fair.{Request}
use Rattle.esync_permits.specs.declared.semaphore.shared.SemaphoreReleaser.{SemaphoreReleaser}

-- a request for this amount may be granted n permits
abbrev pub Suits : Amount → ℕ → Type 0
Suits (Exactly k) n = n ≡ k
Suits (AllFrom k) n = k ≤ n

-- a fact about the answer of a poll, if it is ready
abbrev pub IfReady : {T : Type 0} → Poll T → (T → Type 0) → Type 0
IfReady (Ready x) P = P x
IfReady Pending P = Unit {0}

-- what a poll leaves of the amount that its request is for: nothing once it is answered
abbrev pub Leaves : {T : Type 0} → Poll T → Option Amount → Option Amount → Type 0
Leaves (Ready x) old new = new ≡ None
Leaves Pending old new = new ≡ old

-- the amount that a request of a fair semaphore is for, until it is answered
abbrev pub unless : Bool → Amount → Option Amount
unless true amount = None
unless false amount = Some amount

abbrev pub fair_wanted : Request → Option Amount
fair_wanted r = unless r.finished r.amount

-- how many permits a releaser was granted, of a semaphore with these types of an error and of futures
abbrev pub granted : {S Error Acquire AcquireAll : Type 0} → SemaphoreReleaser S Error Acquire AcquireAll → ℕ
granted releaser = releaser.permits
