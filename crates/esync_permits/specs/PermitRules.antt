-- What semaphores of both kinds allow for each request and each call, and which wakers they hand out.
use Rattle.std.specs.Prelude.{◌≡◌, ℕ, Bool, false, Option, Some, None, nat_lt}
use Rattle.esync_permits.specs.Permits.{released}
use Rattle.esync_permits.specs.declared.semaphore.Amount.{Amount}
use Rattle.esync_permits.specs.declared.semaphore.machine.PermitHeld.{PermitHeld}
use Rattle.esync_permits.specs.declared.semaphore.machine.PermitHeld.TheVariants.{Waiting, Releaser}
use Rattle.esync_permits.specs.declared.semaphore.machine.PermitCall.{PermitCall}
use Rattle.esync_permits.specs.declared.semaphore.machine.PermitCall.TheVariants.{Try, Disarm, Release, Set, Permits}
use Rattle.esync_permits.specs.declared.semaphore.machine.PermitHeard.{PermitHeard}
use Rattle.esync_permits.specs.declared.semaphore.machine.PermitHeard.TheVariants.{Tried, Count}
use Rattle.esync_machine.specs.declared.primitive.Answer.{Answer}
use Rattle.esync_machine.specs.declared.primitive.Answer.TheVariants.{Done, NoSuch, Gives}
use Rattle.esync_machine.specs.declared.primitive.Reach.{Reach}
use Rattle.esync_machine.specs.declared.primitive.Reach.TheVariants.{Nobody, Number}
use Rattle.esync_machine.specs.Rules.{Rules}
use Rattle.esync_machine.specs.Wakings.{Handed, nothing}

-- which number a call concerns
abbrev pub reach : PermitCall → Reach
reach (Try r amount) = Number r
reach (Disarm r) = Number r
reach (Release k) = Nobody
reach (Set k) = Nobody
reach Permits = Nobody

-- what a try leaves at its number
abbrev pub releaser : {T : Type 0} → Option ℕ → Option (PermitHeld T)
releaser None = None
releaser (Some k) = Some (Releaser k)

-- what tells one kind of semaphore from another
pub record Discipline (T G : Type 0) : Type 1 where
  -- the object, without what stands at the numbers
  pub Core : Type 0
  -- the permits that are there
  pub permits : Core → ℕ
  -- the first object becomes the second by setting this number of permits
  pub Puts : Core → ℕ → Core → Type 0
  -- what a request has before its first poll
  pub first : T
  -- a request is polled
  pub polls : Core → Amount → T → Answer (PermitHeard G) → Core → Option (PermitHeld T) → Type 0
  -- a request ends
  pub leaves : Core → T → Core → Type 0
  -- a request that doesn't wait gets these permits, or none
  pub tries : Core → Amount → Option ℕ → Core → Type 0

module _ {T G : Type 0} (D : Discipline T G) where
  -- what stands at the number is of another kind, and nothing changes
  abbrev pub IsOther : D.Core → Option (PermitHeld T) → Answer (PermitHeard G) → D.Core → Option (PermitHeld T) → Type 0
  IsOther o p a o2 p2 = (a ≡ NoSuch) × (o2 ≡ o) × (p2 ≡ p)

  abbrev pub Polls : D.Core → PermitHeld T → Answer (PermitHeard G) → D.Core → Option (PermitHeld T) → Type 0
  Polls o (Waiting amount t) a o2 p = D.polls o amount t a o2 p
  Polls o (Releaser k) a o2 p = IsOther o (Some (Releaser k)) a o2 p

  -- the end of a releaser releases its permits
  abbrev pub Ends : D.Core → PermitHeld T → D.Core → Type 0
  Ends o (Waiting amount t) o2 = D.leaves o t o2
  Ends o (Releaser k) o2 = D.Puts o (released (D.permits o) k) o2

  -- a try on a number, which has to be free
  abbrev pub Tries : D.Core → Amount → Option (PermitHeld T) → Answer (PermitHeard G) → D.Core → Option (PermitHeld T) → Type 0
  Tries o amount None a o2 p2 = (got : Option ℕ) × D.tries o amount got o2 × (a ≡ Gives (Tried got)) × (p2 ≡ releaser got)
  Tries o amount (Some h) a o2 p2 = IsOther o (Some h) a o2 p2

  -- a releaser that is disarmed doesn't give its permits back
  abbrev pub Disarms : D.Core → Option (PermitHeld T) → Answer (PermitHeard G) → D.Core → Option (PermitHeld T) → Type 0
  Disarms o (Some (Releaser k)) a o2 p2 = (a ≡ Gives (Count k)) × (o2 ≡ o) × (p2 ≡ None)
  Disarms o (Some (Waiting amount t)) a o2 p2 = IsOther o (Some (Waiting amount t)) a o2 p2
  Disarms o None a o2 p2 = IsOther o None a o2 p2

  abbrev pub Calls : D.Core → PermitCall → Option (PermitHeld T) → Answer (PermitHeard G) → D.Core → Option (PermitHeld T) → Type 0
  Calls o (Try r amount) p a o2 p2 = Tries o amount p a o2 p2
  Calls o (Disarm r) p a o2 p2 = Disarms o p a o2 p2
  Calls o (Release k) p a o2 p2 = (a ≡ Done) × D.Puts o (released (D.permits o) k) o2 × (p2 ≡ p)
  Calls o (Set k) p a o2 p2 = (a ≡ Done) × D.Puts o k o2 × (p2 ≡ p)
  Calls o Permits p a o2 p2 = (a ≡ Gives (Count (D.permits o))) × (o2 ≡ o) × (p2 ≡ p)

  abbrev pub IsRequest : PermitHeld T → Type 0
  IsRequest (Waiting amount t) = Unit {0}
  IsRequest (Releaser k) = ⊥

  abbrev pub permit_rules : Rules Amount (PermitHeld T) PermitCall (PermitHeard G)
  permit_rules = record {
    Core = D.Core;
    begins = λ o amount p. p ≡ Some (Waiting amount D.first);
    polls = Polls;
    ends = Ends;
    reach = reach;
    calls = Calls;
    leaves = λ o call h. false;
    IsRequest = IsRequest;
    WakesItself = ⊥;
  }

-- The wakers that are handed out, by those that more permits hand out.
module _ {R W : Type 0} (more : Bool → R → Handed R W) where
  -- the wakes of the end of what stands at a number, by those of a request that ends
  abbrev pub end_hands : {T : Type 0} → (R → T → Handed R W) → R → PermitHeld T → Handed R W
  end_hands leaves g (Waiting amount t) = leaves g t
  end_hands leaves g (Releaser k) = more (nat_lt 0 k) g

  -- the wakes of a call that finds n permits
  abbrev pub call_hands : ℕ → R → PermitCall → Handed R W
  call_hands n g (Try r amount) = nothing g
  call_hands n g (Disarm r) = nothing g
  call_hands n g (Release k) = more (nat_lt 0 k) g
  call_hands n g (Set k) = more (nat_lt n k) g
  call_hands n g Permits = nothing g

-- what is owed to a request; a releaser is owed nothing
abbrev pub owed_waiting : {S T W : Type 0} → (S → Amount → T → W → Type 0) → S → PermitHeld T → W → Type 0
owed_waiting owes s (Waiting amount t) w = owes s amount t w
owed_waiting owes s (Releaser k) w = ⊥
