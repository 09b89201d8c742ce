-- What a greedy semaphore allows and hands out, and what is owed to a request.
use Rattle.std.specs.Prelude.{◌≡◌, ℕ, ◌<◌, Bool, true, false, List, Option, Some, None}
use Rattle.esync_base.specs.Registration.{IsAmong}
use Rattle.esync_permits.specs.Permits.{least, Takes}
use Rattle.esync_permits.specs.PermitRules.{Discipline, permit_rules, end_hands, call_hands, owed_waiting}
use Rattle.esync_permits.specs.declared.semaphore.Amount.{Amount}
use Rattle.esync_permits.specs.declared.semaphore.machine.PermitHeld.{PermitHeld}
use Rattle.esync_permits.specs.declared.semaphore.machine.PermitHeld.TheVariants.{Waiting, Releaser}
use Rattle.esync_permits.specs.declared.semaphore.machine.PermitCall.{PermitCall}
use Rattle.esync_permits.specs.declared.semaphore.machine.PermitHeard.{PermitHeard}
use Rattle.esync_permits.specs.declared.semaphore.machine.PermitHeard.TheVariants.{Granted}
use Rattle.esync_machine.specs.declared.primitive.Answer.{Answer}
use Rattle.esync_machine.specs.declared.primitive.Answer.TheVariants.{Pending, Gives}
use Rattle.esync_machine.specs.Rules.{Rules}
use Rattle.esync_machine.specs.Wakings.{Wakings, Handed, nothing, registers, hands_out, is_pending}

-- a request has nothing but its amount
abbrev pub Held : Type 0
Held = PermitHeld (Unit {0})

-- a poll that is granted makes a releaser of the request; any other leaves the request as it is
abbrev pub Polled : Amount → Option ℕ → Answer (PermitHeard ℕ) → Option Held → Type 0
Polled amount (Some k) a p = (a ≡ Gives (Granted k)) × (p ≡ Some (Releaser k))
Polled amount None a p = (a ≡ Pending) × (p ≡ Some (Waiting amount tt))

-- the object is the number of permits, and every request that finds enough of them takes them
abbrev pub greedy : Discipline (Unit {0}) ℕ
greedy = record {
  Core = ℕ;
  permits = λ n. n;
  Puts = λ n m n2. n2 ≡ m;
  first = tt;
  polls = λ n amount t a n2 p. (got : Option ℕ) × Takes n amount got n2 × Polled amount got a p;
  leaves = λ n t n2. n2 ≡ n;
  tries = Takes;
}

abbrev pub greedy_rules : Rules Amount Held PermitCall (PermitHeard ℕ)
greedy_rules = permit_rules greedy

-- more permits hand out the slot
abbrev pub more_hands : {W : Type 0} → Bool → List W → Handed (List W) W
more_hands true slot = hands_out slot
more_hands false slot = nothing slot

-- a poll that isn't granted registers its waker
abbrev pub poll_hands : {W : Type 0} → (W → W → Bool) → List W → W → Bool → Handed (List W) W
poll_hands eq slot w true = registers eq slot w
poll_hands eq slot w false = nothing slot

-- at most one waker is registered
abbrev pub greedy_wakings : {W : Type 0} → (W → W → Bool) → Wakings ℕ Held PermitCall (PermitHeard ℕ) W
greedy_wakings {W} eq = record {
  Registered = List W;
  polls = λ n slot h w a p. poll_hands eq slot w (is_pending a);
  ends = λ n slot h. end_hands more_hands (λ g t. nothing g) slot h;
  calls = λ n slot call p a. call_hands more_hands n slot call;
}

-- a request whose permits aren't there is owed its waker in the slot
abbrev pub OwesFor : {W : Type 0} → (W → W → Bool) → ℕ → List W → Held → W → Type 0
OwesFor eq n slot h w = owed_waiting (λ m amount t v. (m < least amount) × IsAmong eq v slot) n h w
