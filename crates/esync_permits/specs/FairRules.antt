-- What a fair semaphore allows and hands out, and what is owed to a request.
use Rattle.std.specs.Prelude.{◌≡◌, ℕ, Bool, true, false, List, [], ◌∷◌, ◌++◌, length, Option, Some, None, Result, Ok, Err, nat_lt}
use Rattle.esync_base.specs.Registration.{IsAmong}
use Rattle.esync_permits.specs.Permits.{TakesInTurn, woken_if}
use Rattle.esync_base.specs.Listed.{is_in}
use Rattle.esync_permits.specs.Queue.{without, is_front, is_next, numbers, wakers_at, front_wakers, entered, with_waker, left_by}
use Rattle.esync_permits.specs.Fair.{Fair, NamesWaiting}
use Rattle.esync_permits.specs.PermitRules.{Discipline, permit_rules, end_hands, call_hands, owed_waiting}
use Rattle.esync_permits.specs.declared.queue.Entry.{Entry}
use Rattle.esync_permits.specs.declared.semaphore.Amount.{Amount}
use Rattle.esync_permits.specs.declared.semaphore.WaitQueueFull.{WaitQueueFull}
use Rattle.esync_permits.specs.declared.semaphore.machine.PermitHeld.{PermitHeld}
use Rattle.esync_permits.specs.declared.semaphore.machine.PermitHeld.TheVariants.{Waiting, Releaser}
use Rattle.esync_permits.specs.declared.semaphore.machine.PermitCall.{PermitCall}
use Rattle.esync_permits.specs.declared.semaphore.machine.PermitHeard.{PermitHeard}
use Rattle.esync_permits.specs.declared.semaphore.machine.PermitHeard.TheVariants.{Granted}
use Rattle.esync_machine.specs.declared.primitive.Answer.{Answer}
use Rattle.esync_machine.specs.declared.primitive.Answer.TheVariants.{Pending, Gives}
use Rattle.esync_machine.specs.Rules.{Rules}
use Rattle.esync_machine.specs.Wakings.{Wakings, Handed, nothing}

-- a request has a name once it waits
abbrev pub Held : Type 0
Held = PermitHeld (Option ℕ)

-- a request hears how many permits it was granted, or that there was no place
abbrev pub Heard : Type 0
Heard = PermitHeard (Result ℕ WaitQueueFull)

-- the object: the permits, and the names of the requests that wait for some, oldest first
pub record PermitQueue : Type 0 where
  pub permits : ℕ
  pub queue : List ℕ

-- a request that isn't granted goes to the back under a name that no other request has, or hears that there is no place
abbrev pub Enters : Bool → Amount → List ℕ → Answer Heard → List ℕ → Option Held → Type 0
Enters true amount q a q2 p = (t : ℕ) × (is_in t q ≡ false) × (a ≡ Pending) × (q2 ≡ q ++ t ∷ []) × (p ≡ Some (Waiting amount (Some t)))
Enters false amount q a q2 p = (e : WaitQueueFull) × (a ≡ Gives (Granted (Err e))) × (q2 ≡ q) × (p ≡ None)

-- what a poll does that got these permits, if any, for a request with this name, if any
abbrev pub Queued : ℕ → Amount → Option ℕ → Option ℕ → List ℕ → Answer Heard → List ℕ → Option Held → Type 0
Queued n amount None (Some k) q a q2 p = (a ≡ Gives (Granted (Ok k))) × (q2 ≡ q) × (p ≡ Some (Releaser k))
Queued n amount None None q a q2 p = Enters (nat_lt (length q) n) amount q a q2 p
Queued n amount (Some t) (Some k) q a q2 p = (a ≡ Gives (Granted (Ok k))) × (q2 ≡ without t q) × (p ≡ Some (Releaser k))
Queued n amount (Some t) None q a q2 p = (a ≡ Pending) × (q2 ≡ q) × (p ≡ Some (Waiting amount (Some t)))

abbrev pub Polls : ℕ → PermitQueue → Amount → Option ℕ → Answer Heard → PermitQueue → Option Held → Type 0
Polls n o amount t a o2 p = (got : Option ℕ) × TakesInTurn (is_next t o.queue) o.permits amount got o2.permits × Queued n amount t got o.queue a o2.queue p

-- a request that ends while it waits leaves the queue, wherever it stands
abbrev pub Leaves : PermitQueue → Option ℕ → PermitQueue → Type 0
Leaves o None o2 = o2 ≡ o
Leaves o (Some t) o2 = (o2.permits ≡ o.permits) × (o2.queue ≡ without t o.queue)

-- a fair semaphore for which at most n requests wait
abbrev pub fair : ℕ → Discipline (Option ℕ) (Result ℕ WaitQueueFull)
fair n = record {
  Core = PermitQueue;
  permits = λ o. o.permits;
  Puts = λ o m o2. (o2.permits ≡ m) × (o2.queue ≡ o.queue);
  first = None;
  polls = Polls n;
  leaves = Leaves;
  tries = λ o amount got o2. TakesInTurn (is_next None o.queue) o.permits amount got o2.permits × (o2.queue ≡ o.queue);
}

abbrev pub fair_rules : ℕ → Rules Amount Held PermitCall Heard
fair_rules n = permit_rules (fair n)

-- the name of a request that waits
abbrev pub ticket_of : Held → Option ℕ
ticket_of (Waiting amount t) = t
ticket_of (Releaser k) = None

abbrev pub ticket_at : Option Held → Option ℕ
ticket_at None = None
ticket_at (Some h) = ticket_of h

-- The wakers that are handed out stay in their entries.
module _ {W : Type 0} where
  -- more permits hand out the waker of the front entry
  abbrev pub more_hands : Bool → List (Entry W) → Handed (List (Entry W)) W
  more_hands news es = record { wakes = woken_if news (front_wakers es); after = es }

  -- the wakes of a poll of a request with the first ticket, which has the second one afterwards
  abbrev pub poll_hands : List (Entry W) → Option ℕ → W → Option ℕ → Handed (List (Entry W)) W
  poll_hands es None w None = nothing es
  poll_hands es None w (Some t) = record { wakes = []; after = entered t w es }
  poll_hands es (Some t) w None = more_hands true (left_by t es)
  poll_hands es (Some t) w (Some u) = record { wakes = []; after = with_waker t w es }

  -- the wakes of the end of a request, which takes its waker with it
  abbrev pub leave_hands : List (Entry W) → Option ℕ → Handed (List (Entry W)) W
  leave_hands es None = nothing es
  leave_hands es (Some t) = more_hands (is_front t (numbers es)) (left_by t es)

  -- the queue is registered, with its wakers
  abbrev pub fair_wakings : Wakings PermitQueue Held PermitCall Heard W
  fair_wakings = record {
    Registered = List (Entry W);
    polls = λ o es h w a p. poll_hands es (ticket_of h) w (ticket_at p);
    ends = λ o es h. end_hands more_hands leave_hands es h;
    calls = λ o es call p a. call_hands more_hands o.permits es call;
  }

-- two requests that wait have different tickets
abbrev pub Differ : Option ℕ → Option ℕ → Type 0
Differ (Some t) (Some u) = t ≡ u → ⊥
Differ (Some t) None = Unit {0}
Differ None u = Unit {0}

abbrev pub AreApart : Held → Held → Type 0
AreApart h k = Differ (ticket_of h) (ticket_of k)

module _ {W : Type 0} where
  -- the queue without the wakers
  abbrev pub object_of : Fair W → PermitQueue
  object_of s = record { permits = s.permits; queue = numbers s.entries }

  -- a ticket, if there is one, names a request that waits
  abbrev pub FitsFor : Fair W → Held → Type 0
  FitsFor s h = NamesWaiting (ticket_of h) s.entries

  -- a request with a ticket that isn't granted now is owed the waker in its entry
  abbrev pub OwesTicket : (W → W → Bool) → Fair W → Amount → Option ℕ → W → Type 0
  OwesTicket eq s amount None w = ⊥
  OwesTicket eq s amount (Some t) w = TakesInTurn (is_front t (numbers s.entries)) s.permits amount None s.permits × IsAmong eq w (wakers_at t s.entries)

  abbrev pub OwesFor : (W → W → Bool) → Fair W → Held → W → Type 0
  OwesFor eq s h w = owed_waiting (λ x amount t v. OwesTicket eq x amount t v) s h w
