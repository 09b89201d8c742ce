-- What a mutex allows, and which wakers it hands out: for each request, guard and call.
use Rattle.std.specs.Prelude.{◌≡◌, Bool, true, false, List, Option, Some, None, Ok, Err}
use Rattle.esync_base.specs.Registration.{IsAmong}
use Rattle.esync_machine.specs.declared.primitive.Answer.{Answer}
use Rattle.esync_machine.specs.declared.primitive.Answer.TheVariants.{Done, Pending, NoSuch, Gives}
use Rattle.esync_machine.specs.declared.primitive.Reach.{Reach}
use Rattle.esync_machine.specs.declared.primitive.Reach.TheVariants.{Number}
use Rattle.esync_machine.specs.Numbers.{AllPairs}
use Rattle.esync_machine.specs.Rules.{Rules}
use Rattle.esync_machine.specs.Wakings.{Wakings, Handed, nothing, registers, hands_out, is_pending}
use Rattle.esync_guards.specs.Mutex.{Locking}
use Rattle.esync_guards.specs.declared.mutex.machine.Lock.{Lock as Ask}
use Rattle.esync_guards.specs.declared.mutex.machine.MutexHeld.{MutexHeld}
use Rattle.esync_guards.specs.declared.mutex.machine.MutexHeld.TheVariants.{Waiting, Guard, Mapped}
use Rattle.esync_guards.specs.declared.mutex.machine.MutexCall.{MutexCall}
use Rattle.esync_guards.specs.declared.mutex.machine.MutexCall.TheVariants.{TryLock, Read, Write, Map, WritePart}
use Rattle.esync_guards.specs.declared.mutex.machine.MutexHeard.{MutexHeard}
use Rattle.esync_guards.specs.declared.mutex.machine.MutexHeard.TheVariants.{Locked, Tried, Value, Part}

-- the object: whether the lock is held, and the value, which only the lock's holder changes
pub record Lock (T : Type 0) : Type 0 where
  pub held : Bool
  pub value : T

-- which number each call concerns
abbrev pub reach : {T U : Type 0} → MutexCall T U → Reach
reach (TryLock r) = Number r
reach (Read r) = Number r
reach (Write r v) = Number r
reach (Map r) = Number r
reach (WritePart r u) = Number r

-- the end of a guard frees the lock
abbrev pub Ends : {T : Type 0} → Lock T → MutexHeld → Lock T → Type 0
Ends o Waiting o2 = o2 ≡ o
Ends o Guard o2 = o2 ≡ record o { held = false }
Ends o Mapped o2 = o2 ≡ record o { held = false }

module _ {T U : Type 0} where
  -- a number of another kind: nothing changes
  abbrev pub IsOther : Lock T → Option MutexHeld → Answer (MutexHeard T U) → Lock T → Option MutexHeld → Type 0
  IsOther o p a o2 p2 = (a ≡ NoSuch) × (o2 ≡ o) × (p2 ≡ p)

  -- a poll of a request, by whether the lock is held: with a free lock, the request becomes its guard
  abbrev pub PollsWaiting : Bool → Lock T → Answer (MutexHeard T U) → Lock T → Option MutexHeld → Type 0
  PollsWaiting true o a o2 p = (a ≡ Pending) × (o2 ≡ o) × (p ≡ Some Waiting)
  PollsWaiting false o a o2 p = (a ≡ Gives Locked) × (o2 ≡ record o { held = true }) × (p ≡ Some Guard)

  abbrev pub Polls : Lock T → MutexHeld → Answer (MutexHeard T U) → Lock T → Option MutexHeld → Type 0
  Polls o Waiting a o2 p = PollsWaiting o.held o a o2 p
  Polls o Guard a o2 p = IsOther o (Some Guard) a o2 p
  Polls o Mapped a o2 p = IsOther o (Some Mapped) a o2 p

  -- a try at a free number, by whether the lock is held
  abbrev pub TriesFree : Bool → Lock T → Answer (MutexHeard T U) → Lock T → Option MutexHeld → Type 0
  TriesFree true o a o2 p2 = (a ≡ Gives (Tried (Err (record {})))) × (o2 ≡ o) × (p2 ≡ None)
  TriesFree false o a o2 p2 = (a ≡ Gives (Tried (Ok tt))) × (o2 ≡ record o { held = true }) × (p2 ≡ Some Guard)

  abbrev pub Tries : Lock T → Option MutexHeld → Answer (MutexHeard T U) → Lock T → Option MutexHeld → Type 0
  Tries o None a o2 p2 = TriesFree o.held o a o2 p2
  Tries o (Some h) a o2 p2 = IsOther o (Some h) a o2 p2

  -- a guard reads the value, and a mapped guard reads its part
  abbrev pub Reads : (T → U) → Lock T → Option MutexHeld → Answer (MutexHeard T U) → Lock T → Option MutexHeld → Type 0
  Reads get o (Some Guard) a o2 p2 = (a ≡ Gives (Value o.value)) × (o2 ≡ o) × (p2 ≡ Some Guard)
  Reads get o (Some Mapped) a o2 p2 = (a ≡ Gives (Part (get o.value))) × (o2 ≡ o) × (p2 ≡ Some Mapped)
  Reads get o (Some Waiting) a o2 p2 = IsOther o (Some Waiting) a o2 p2
  Reads get o None a o2 p2 = IsOther o None a o2 p2

  -- a guard writes the value
  abbrev pub Writes : T → Lock T → Option MutexHeld → Answer (MutexHeard T U) → Lock T → Option MutexHeld → Type 0
  Writes v o (Some Guard) a o2 p2 = (a ≡ Done) × (o2 ≡ record o { value = v }) × (p2 ≡ Some Guard)
  Writes v o (Some Mapped) a o2 p2 = IsOther o (Some Mapped) a o2 p2
  Writes v o (Some Waiting) a o2 p2 = IsOther o (Some Waiting) a o2 p2
  Writes v o None a o2 p2 = IsOther o None a o2 p2

  -- a guard becomes a mapped one
  abbrev pub Maps : Lock T → Option MutexHeld → Answer (MutexHeard T U) → Lock T → Option MutexHeld → Type 0
  Maps o (Some Guard) a o2 p2 = (a ≡ Done) × (o2 ≡ o) × (p2 ≡ Some Mapped)
  Maps o (Some Mapped) a o2 p2 = IsOther o (Some Mapped) a o2 p2
  Maps o (Some Waiting) a o2 p2 = IsOther o (Some Waiting) a o2 p2
  Maps o None a o2 p2 = IsOther o None a o2 p2

  -- a mapped guard writes the part
  abbrev pub WritesPart : (T → U → T) → U → Lock T → Option MutexHeld → Answer (MutexHeard T U) → Lock T → Option MutexHeld → Type 0
  WritesPart set u o (Some Mapped) a o2 p2 = (a ≡ Done) × (o2 ≡ record o { value = set o.value u }) × (p2 ≡ Some Mapped)
  WritesPart set u o (Some Guard) a o2 p2 = IsOther o (Some Guard) a o2 p2
  WritesPart set u o (Some Waiting) a o2 p2 = IsOther o (Some Waiting) a o2 p2
  WritesPart set u o None a o2 p2 = IsOther o None a o2 p2

  abbrev pub Calls : (T → U) → (T → U → T) → Lock T → MutexCall T U → Option MutexHeld → Answer (MutexHeard T U) → Lock T → Option MutexHeld → Type 0
  Calls get set o (TryLock r) p a o2 p2 = Tries o p a o2 p2
  Calls get set o (Read r) p a o2 p2 = Reads get o p a o2 p2
  Calls get set o (Write r v) p a o2 p2 = Writes v o p a o2 p2
  Calls get set o (Map r) p a o2 p2 = Maps o p a o2 p2
  Calls get set o (WritePart r u) p a o2 p2 = WritesPart set u o p a o2 p2

-- the number's holder waits for the lock
abbrev pub IsRequest : MutexHeld → Type 0
IsRequest Waiting = Unit {0}
IsRequest Guard = ⊥
IsRequest Mapped = ⊥

-- the number's holder has the lock
abbrev pub IsGuard : MutexHeld → Type 0
IsGuard Waiting = ⊥
IsGuard Guard = Unit {0}
IsGuard Mapped = Unit {0}

-- at most one of two numbers has the lock
abbrev pub NotBoth : MutexHeld → MutexHeld → Type 0
NotBoth h k = IsGuard h → IsGuard k → ⊥

-- at most one number has a guard or a mapped guard
abbrev pub OneGuard : List (Option MutexHeld) → Type 0
OneGuard q = AllPairs NotBoth q

-- the rules of a mutex whose value has this part
abbrev pub mutex_rules : {T U : Type 0} → (T → U) → (T → U → T) → Rules Ask MutexHeld (MutexCall T U) (MutexHeard T U)
mutex_rules {T} get set = record {
  Core = Lock T;
  begins = λ o ask p. p ≡ Some Waiting;
  polls = Polls;
  ends = Ends;
  reach = reach;
  calls = Calls get set;
  leaves = λ o call h. false;
  IsRequest = IsRequest;
  WakesItself = ⊥;
}

-- a poll that isn't granted registers its waker, and the end of a guard hands out the waker that is registered
module _ {W : Type 0} (eq : W → W → Bool) where
  abbrev pub poll_hands : List W → W → Bool → Handed (List W) W
  poll_hands waiter w true = registers eq waiter w
  poll_hands waiter w false = nothing waiter

  abbrev pub end_hands : List W → MutexHeld → Handed (List W) W
  end_hands waiter Waiting = nothing waiter
  end_hands waiter Guard = hands_out waiter
  end_hands waiter Mapped = hands_out waiter

  -- at most one waker is registered
  abbrev pub mutex_wakings : {T U : Type 0} → Wakings (Lock T) MutexHeld (MutexCall T U) (MutexHeard T U) W
  mutex_wakings = record {
    Registered = List W;
    polls = λ o waiter h w a p. poll_hands waiter w (is_pending a);
    ends = λ o waiter h. end_hands waiter h;
    calls = λ o waiter call p a. nothing waiter;
  }

  -- a request is owed its waker in the slot while the lock is held
  abbrev pub OwesLock : Locking W → MutexHeld → W → Type 0
  OwesLock lock Waiting w = (lock.held ≡ true) × IsAmong eq w lock.waiter
  OwesLock lock Guard w = ⊥
  OwesLock lock Mapped w = ⊥

-- a guard at a number holds the lock
abbrev pub FitsLock : {W : Type 0} → Locking W → MutexHeld → Type 0
FitsLock lock h = IsGuard h → lock.held ≡ true
