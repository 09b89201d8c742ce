-- The object of a primitive with its requests, and the steps that it allows.
use Rattle.std.specs.Prelude.{◌≡◌, ℕ, Bool, true, List, Option, Some, None, ◌⊎◌, slice_get, slice_set}
use Rattle.esync_machine.specs.Runs.{Meaning, GoodRun}
use Rattle.esync_machine.specs.Tabled.{Tabled}
use Rattle.esync_machine.specs.Numbers.{at_number, swept}
use Rattle.esync_machine.specs.declared.run.Reply.{Reply}
use Rattle.esync_machine.specs.declared.primitive.Answer.{Answer}
use Rattle.esync_machine.specs.declared.primitive.Answer.TheVariants.{Done, Pending, NoSuch, NoMemory}
use Rattle.esync_machine.specs.declared.primitive.Reach.{Reach}
use Rattle.esync_machine.specs.declared.primitive.Reach.TheVariants.{Nobody, Number, Leavers}
use Rattle.esync_machine.specs.declared.primitive.Command.{Command}
use Rattle.esync_machine.specs.declared.primitive.Command.TheVariants.{Start, Poll, End, Call}
use Rattle.esync_machine.specs.Rules.{Rules, reach_of, ended_by}
use Rattle.esync_machine.specs.Wakings.{Wakings, Handed, handed_at}

pub record Object (Core Held : Type 0) : Type 0 where
  pub core : Core
  -- what stands at each number
  pub requests : List (Option Held)

-- the answer to a start that makes this request, or none
abbrev pub begun : {A Held : Type 0} → Option Held → Answer A
begun None = NoSuch
begun (Some h) = Done

abbrev pub poll_of : {Q W C : Type 0} → Command Q W C → Option (ℕ × W)
poll_of (Poll r w) = Some (r, w)
poll_of (Start r ask) = None
poll_of (End r) = None
poll_of (Call call) = None

abbrev pub start_of : {Q W C : Type 0} → Command Q W C → Option ℕ
start_of (Start r ask) = Some r
start_of (Poll r w) = None
start_of (End r) = None
start_of (Call call) = None

abbrev pub end_of : {Q W C : Type 0} → Command Q W C → Option ℕ
end_of (End r) = Some r
end_of (Start r ask) = None
end_of (Poll r w) = None
end_of (Call call) = None

-- what stands at the number that a command concerns
abbrev pub found : {Held : Type 0} → Reach → List (Option Held) → Option Held
found (Number r) q = at_number q r
found Nobody q = None
found Leavers q = None

module _ {Ask Held C A : Type 0} (R : Rules Ask Held C A) where
  -- the command is answered NoSuch, and nothing changes: its number is free, or that of a start isn't
  abbrev pub Nowhere : R.Core → Option Held → Answer A → R.Core → Option Held → Type 0
  Nowhere o p a o2 p2 = (a ≡ NoSuch) × (o2 ≡ o) × (p2 ≡ p)

  -- a command that finds p at its number may be answered a, change o into o2, and leave p2 there
  abbrev pub Turns : {W : Type 0} → R.Core → Command Ask W C → Option Held → Answer A → R.Core → Option Held → Type 0
  Turns o (Start r ask) None a o2 p2 = R.begins o ask p2 × (a ≡ begun p2) × (o2 ≡ o)
  Turns o (Start r ask) (Some h) a o2 p2 = Nowhere o (Some h) a o2 p2
  Turns o (Poll r w) None a o2 p2 = Nowhere o None a o2 p2
  Turns o (Poll r w) (Some h) a o2 p2 = R.polls o h a o2 p2
  Turns o (End r) None a o2 p2 = Nowhere o None a o2 p2
  Turns o (End r) (Some h) a o2 p2 = R.ends o h o2 × (a ≡ Done) × (p2 ≡ None)
  Turns o (Call call) p a o2 p2 = R.calls o call p a o2 p2

  -- the object with a new core, and with this at the number
  abbrev pub written : Object R.Core Held → ℕ → R.Core → Option Held → Object R.Core Held
  written o r core p = record { core = core; requests = slice_set o.requests r p }

  -- a command on one number, which is out of range or has this place: every other number stays
  abbrev pub AllowsAt : {W : Type 0} → Object R.Core Held → Command Ask W C → ℕ → Option (Option Held) → Answer A → Object R.Core Held → Type 0
  AllowsAt o c r None a o2 = (a ≡ NoSuch) × (o2 ≡ o)
  AllowsAt o c r (Some p) a o2 = (core : R.Core) × (p2 : Option Held) × Turns o.core c p a core p2 × (o2 ≡ written o r core p2)

  -- a command on no number: every number stays, unless the command ends what stands there
  abbrev pub AllowsAlone : {W : Type 0} → Object R.Core Held → Command Ask W C → Answer A → Object R.Core Held → Type 0
  AllowsAlone o c a o2 = (core : R.Core) × (p2 : Option Held) × Turns o.core c None a core p2 × (o2 ≡ record { core = core; requests = swept (ended_by R o.core c) o.requests })

  abbrev pub AllowsReach : {W : Type 0} → Object R.Core Held → Command Ask W C → Reach → Answer A → Object R.Core Held → Type 0
  AllowsReach o c (Number r) a o2 = AllowsAt o c r (slice_get o.requests r) a o2
  AllowsReach o c Nobody a o2 = AllowsAlone o c a o2
  AllowsReach o c Leavers a o2 = AllowsAlone o c a o2

  abbrev pub Allows : {W : Type 0} → Object R.Core Held → Command Ask W C → Answer A → Object R.Core Held → Type 0
  Allows o c a o2 = AllowsReach o c (reach_of R c) a o2

  -- the command ends the request: by its number, or by the leaving of what it belongs to
  abbrev pub Ends : {W : Type 0} → Object R.Core Held → Command Ask W C → ℕ → Type 0
  Ends o c r = (end_of c ≡ Some r) ⊎ ((h : Held) × (at_number o.requests r ≡ Some h) × (ended_by R o.core c h ≡ true))

  abbrev pub IsLive : Object R.Core Held → ℕ → Type 0
  IsLive o r = (h : Held) × (at_number o.requests r ≡ Some h) × R.IsRequest h

  abbrev pub handed : {W : Type 0} (T : Wakings R.Core Held C A W) → Object R.Core Held → T.Registered → Command Ask W C → Answer A → Object R.Core Held → Handed T.Registered W
  handed T o g c a o2 = handed_at T o.core g c (found (reach_of R c) o.requests) a (found (reach_of R c) o2.requests)

  -- what a machine of these rules and wakes means
  abbrev pub requests_meaning : {W : Type 0} → Wakings R.Core Held C A W → (W → W → Bool) → (K : ℕ) → Meaning (Command Ask W C) (Reply (Answer A) W K) W
  requests_meaning T same K = record {
    Object = Object R.Core Held;
    allows = λ o c a o2. Allows o c a.answer o2;
    polls = poll_of;
    Ends = Ends;
    IsPending = λ a. a.answer ≡ Pending;
    wakes = λ a. a.wakes;
    Registered = T.Registered;
    handed = λ o g c a o2. handed T o g c a.answer o2;
    same = same;
    starts = start_of;
    ends = end_of;
    IsLive = IsLive;
    IsNoSuch = λ a. a.answer ≡ NoSuch;
    IsRefused = λ a. a.answer ≡ NoMemory;
    WakesItself = R.WakesItself;
  }

  -- The answers of a run over a primitive with its requests are those of a good run. The primitive's states show their
  -- object and their registered wakers so.
  abbrev pub GoodRunOver : {S W : Type 0} → (S → R.Core) → (T : Wakings R.Core Held C A W) → (S → T.Registered) → (W → W → Bool) → (K : ℕ) → Tabled S Held → List (Command Ask W C) → List (Reply (Answer A) W K) → Tabled S Held → Type 0
  GoodRunOver core T registered same K old commands replies new =
      GoodRun (requests_meaning T same K) (record { core = core old.state; requests = old.requests }) (registered old.state) commands replies (record { core = core new.state; requests = new.requests }) (registered new.state)
