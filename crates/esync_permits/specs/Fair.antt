-- The fair semaphore: its permits, and the queue of the requests that wait.
use Rattle.std.specs.Prelude.{◌≡◌, ℕ, ◌<◌, Bool, List, [], length, Option, Some, None, Result, Ok, Err, IsTrue, refl}
use Rattle.std.specs.Coded.{Coded, code_by, coded×, coded_ℕ, coded_list}
use Rattle.esync_base.specs.declared.waitqueue.Poll.{Poll}
use Rattle.esync_base.specs.declared.waitqueue.Poll.TheVariants.{Pending as Waits, Ready as Heard}
use Rattle.esync_permits.specs.declared.queue.Entry.{Entry}
use Rattle.esync_permits.specs.declared.semaphore.Amount.{Amount}
use Rattle.esync_permits.specs.declared.semaphore.WaitQueueFull.{WaitQueueFull}
use Rattle.esync_permits.specs.declared.semaphore.FairPoll.{FairPoll}
use Rattle.esync_permits.specs.declared.semaphore.FairPoll.TheVariants.{Pending, Ready}
use Rattle.esync_permits.specs.Permits.{woken_if}
use Rattle.esync_base.specs.Listed.{is_in}
use Rattle.esync_permits.specs.Queue.{is_front, numbers, front_wakers, entered, with_waker, left_by, IsLeastFree, entry_code}

pub record Fair (W : Type 0) : Type 0 where
  pub permits : ℕ
  -- the entries of the requests that wait, oldest first
  pub entries : List (Entry W)

abbrev pub fair_code : {W : Type 0} → Coded W → Coded (Fair W)
fair_code {W} w =
    code_by (ℕ × List (Entry W)) (coded× coded_ℕ (coded_list (entry_code w))) (λ s. (s.permits, s.entries)) (λ p. record { permits = p.0; entries = p.1 }) (λ _. refl)

-- what a poll answers, unless it is Pending, and the ticket of its request afterwards
abbrev pub heard : FairPoll → Option (Result ℕ WaitQueueFull)
heard (Ready answer) = Some answer
heard (Pending t) = None

abbrev pub ticket_after : FairPoll → Option ℕ
ticket_after (Ready answer) = None
ticket_after (Pending t) = Some t

-- what the poll of a request answers
abbrev pub request_heard : Poll (Result ℕ WaitQueueFull) → Option (Result ℕ WaitQueueFull)
request_heard (Heard answer) = Some answer
request_heard Waits = None

-- the permits that an answer grants
abbrev pub granted_by : Option (Result ℕ WaitQueueFull) → Option ℕ
granted_by (Some (Ok k)) = Some k
granted_by (Some (Err e)) = None
granted_by None = None

-- a fact that holds if there was no place in the queue
abbrev pub OnRefusal : Option (Result ℕ WaitQueueFull) → Type 0 → Type 0
OnRefusal (Some (Ok k)) P = Unit {0}
OnRefusal (Some (Err e)) P = P
OnRefusal None P = Unit {0}

module _ {W : Type 0} where
  -- a ticket, if there is one, names a request that waits
  abbrev pub NamesWaiting : Option ℕ → List (Entry W) → Type 0
  NamesWaiting None es = Unit {0}
  NamesWaiting (Some t) es = IsTrue (is_in t (numbers es))

  -- n requests that wait leave no place for one without a ticket
  abbrev pub HasNoPlace : ℕ → Option ℕ → List (Entry W) → Type 0
  HasNoPlace n None es = length es ≡ n
  HasNoPlace n (Some t) es = ⊥

  -- the entries after a poll with this waker of a request with the first ticket, which has the second one afterwards
  abbrev pub Queues : ℕ → W → Option ℕ → List (Entry W) → Option ℕ → List (Entry W) → Type 0
  Queues n w None es None es2 = es2 ≡ es
  Queues n w None es (Some t) es2 = (length es < n) × IsLeastFree t (numbers es) × (es2 ≡ entered t w es)
  Queues n w (Some t) es None es2 = es2 ≡ left_by t es
  Queues n w (Some t) es (Some u) es2 = (u ≡ t) × (es2 ≡ with_waker t w es)

  -- a grant to the front entry hands out the waker of the next one; a grant without a ticket hands out none
  abbrev pub wakes_of_grant : Option ℕ → Option ℕ → List (Entry W) → List W
  wakes_of_grant (Some t) (Some k) es2 = front_wakers es2
  wakes_of_grant (Some t) None es2 = []
  wakes_of_grant None got es2 = []

  -- the entries after the end of a request, which may have no ticket yet
  abbrev pub entries_after_request : Option ℕ → List (Entry W) → List (Entry W)
  entries_after_request None es = es
  entries_after_request (Some t) es = left_by t es

  -- the end of the request in front hands out the waker of the next one
  abbrev pub wakes_of_request : Option ℕ → List (Entry W) → List W
  wakes_of_request None es = []
  wakes_of_request (Some t) es = woken_if (is_front t (numbers es)) (front_wakers (left_by t es))

-- a request: what it is for, its ticket while it waits, and whether it was answered
pub record Request : Type 0 where
  pub amount : Amount
  pub ticket : Option ℕ
  pub finished : Bool
