-- What a primitive means, a request at a time and without numbers.
use Rattle.std.specs.Prelude.{◌≡◌, Bool, false, Option, Some, None}
use Rattle.esync_machine.specs.declared.primitive.Answer.{Answer}
use Rattle.esync_machine.specs.declared.primitive.Answer.TheVariants.{Pending, NoSuch}
use Rattle.esync_machine.specs.declared.primitive.Reach.{Reach}
use Rattle.esync_machine.specs.declared.primitive.Reach.TheVariants.{Nobody, Number, Leavers}
use Rattle.esync_machine.specs.declared.primitive.Command.{Command}
use Rattle.esync_machine.specs.declared.primitive.Command.TheVariants.{Start, Poll, End, Call}

pub record Rules (Ask Held C A : Type 0) : Type 1 where
  -- the object, without the requests
  pub Core : Type 0
  -- a start of this makes that request, or names what isn't there
  pub begins : Core → Ask → Option Held → Type 0
  -- `polls o h a o2 p`: a poll of h may give the answer a, change o into o2, and leave p at the number
  pub polls : Core → Held → Answer A → Core → Option Held → Type 0
  pub ends : Core → Held → Core → Type 0
  -- which numbers a call concerns
  pub reach : C → Reach
  -- a call may give this answer, if this stands at its number, and leave that; both are None if it concerns no number
  pub calls : Core → C → Option Held → Answer A → Core → Option Held → Type 0
  -- a call that reaches leavers first ends what stands at a number, if this says so
  pub leaves : Core → C → Held → Bool
  -- what stands at the number can be polled
  pub IsRequest : Held → Type 0
  -- a Pending poll may hand out its own waker, though it changes nothing
  pub WakesItself : Type 0

-- a call that concerns no number leaves what stands there
abbrev pub Alone : {Core C Held A : Type 0} → (Core → C → Answer A → Core → Type 0) → Core → C → Option Held → Answer A → Core → Option Held → Type 0
Alone calls o call p a o2 p2 = calls o call a o2 × (p2 ≡ p)

-- rules of a primitive whose requests are what was asked, whose ends change nothing, and whose calls have no number
abbrev pub asked_rules : {Core Ask C A : Type 0} → (Core → Ask → Answer A → Core → Option Ask → Type 0) → (Core → C → Answer A → Core → Type 0) → Rules Ask Ask C A
asked_rules {Core = Core} polls calls = record {
  Core = Core;
  begins = λ o ask p. p ≡ Some ask;
  polls = polls;
  ends = λ o ask o2. o2 ≡ o;
  reach = λ call. Nobody;
  calls = Alone calls;
  leaves = λ o call ask. false;
  IsRequest = λ ask. Unit {0};
  WakesItself = ⊥;
}

-- what a call finds: nothing, unless it concerns a number
abbrev pub Finds : {Held : Type 0} → Reach → Option Held → Type 0
Finds Nobody p = p ≡ None
Finds (Number r) p = Unit {0}
Finds Leavers p = p ≡ None

-- what stands at a number, if anything does, is apart from this
abbrev pub IsApart : {Held : Type 0} → (Held → Held → Type 0) → Option Held → Held → Type 0
IsApart Apart None other = Unit {0}
IsApart Apart (Some h) other = Apart h other

-- what is owed to what stands at a number
abbrev pub IsOwed : {S Held W : Type 0} → (S → Held → W → Type 0) → S → Option Held → W → Type 0
IsOwed Owes s None w = ⊥
IsOwed Owes s (Some h) w = Owes s h w

-- what stands at a number fits the state and is owed the waker
abbrev pub OwesAt : {S Held W : Type 0} → (S → Held → Type 0) → (S → Held → W → Type 0) → S → Option Held → W → Type 0
OwesAt Fits Owes s None w = ⊥
OwesAt Fits Owes s (Some h) w = Fits s h × Owes s h w

module _ {Ask Held C A : Type 0} (R : Rules Ask Held C A) where
  -- a poll may be answered Pending with nothing changed
  abbrev pub IsIdle : R.Core → Held → Type 0
  IsIdle o h = R.polls o h Pending o (Some h)

  abbrev pub IdleIsPending : Type 0
  IdleIsPending = (o : R.Core) (h : Held) (a : Answer A) (o2 : R.Core) (p : Option Held) → IsIdle o h → R.polls o h a o2 p → (a ≡ Pending) × (o2 ≡ o) × (p ≡ Some h)

  -- after a poll or a call a request stands at the number only if one stood there before
  pub record MakesNoRequests : Type 0 where
    pub polls : (o o2 : R.Core) (h h2 : Held) (a : Answer A) → R.polls o h a o2 (Some h2) → R.IsRequest h2 → R.IsRequest h
    pub calls : (o o2 : R.Core) (call : C) (p : Option Held) (a : Answer A) (h2 : Held) → R.calls o call p a o2 (Some h2) → R.IsRequest h2 → (h : Held) × (p ≡ Some h) × R.IsRequest h

  abbrev pub OnlyRequests : Type 0
  OnlyRequests = (o : R.Core) (h : Held) (a : Answer A) (o2 : R.Core) (p : Option Held) → (R.IsRequest h → ⊥) → R.polls o h a o2 p → a ≡ NoSuch

  -- whether a call of this reach first ends what stands at a number
  abbrev pub ended : R.Core → Reach → C → Held → Bool
  ended o Nobody call h = false
  ended o (Number r) call h = false
  ended o Leavers call h = R.leaves o call h

  abbrev pub reach_of : {W : Type 0} → Command Ask W C → Reach
  reach_of (Start r ask) = Number r
  reach_of (Poll r w) = Number r
  reach_of (End r) = Number r
  reach_of (Call call) = R.reach call

  -- whether a command first ends what stands at a number
  abbrev pub ended_by : {W : Type 0} → R.Core → Command Ask W C → Held → Bool
  ended_by o (Start r ask) h = false
  ended_by o (Poll r w) h = false
  ended_by o (End r) h = false
  ended_by o (Call call) h = ended o (R.reach call) call h
