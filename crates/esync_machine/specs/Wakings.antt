-- The table of wakes: which wakers a step hands out, and which are registered where after it.
use Rattle.std.specs.Prelude.{◌≡◌, Bool, true, false, List, [], Option, Some, None}
use Rattle.esync_base.specs.Registration.{registered, displaced}
use Rattle.esync_machine.specs.declared.primitive.Answer.{Answer}
use Rattle.esync_machine.specs.declared.primitive.Answer.TheVariants.{Done, Pending, NoSuch, NoMemory, Gives}
use Rattle.esync_machine.specs.declared.primitive.Command.{Command}
use Rattle.esync_machine.specs.declared.primitive.Command.TheVariants.{Start, Poll, End, Call}

pub record Handed (Registered W : Type 0) : Type 0 where
  -- the wakers that are handed out, in order
  pub wakes : List W
  pub after : Registered

-- these wakers were handed out, and those are registered now
abbrev pub IsHanded : {G W : Type 0} → Handed G W → List W → G → Type 0
IsHanded h wakes after = (wakes ≡ h.wakes) × (after ≡ h.after)

-- nothing is handed out, and the registered wakers stay
abbrev pub nothing : {G W : Type 0} → G → Handed G W
nothing g = record { wakes = []; after = g }

-- a waker is registered in a slot
abbrev pub registers : {W : Type 0} → (W → W → Bool) → List W → W → Handed (List W) W
registers eq slot w = record { wakes = displaced eq 1 slot w; after = registered eq 1 slot w }

-- a slot is handed out
abbrev pub hands_out : {W : Type 0} → List W → Handed (List W) W
hands_out slot = record { wakes = slot; after = [] }

-- as h says, but nothing is handed out if the answer says that nothing changed
abbrev pub unless_refused : {A G W : Type 0} → Answer A → G → Handed G W → Handed G W
unless_refused NoSuch g h = nothing g
unless_refused NoMemory g h = nothing g
unless_refused Done g h = h
unless_refused Pending g h = h
unless_refused (Gives x) g h = h

-- the poll was answered Pending
abbrev pub is_pending : {A : Type 0} → Answer A → Bool
is_pending Pending = true
is_pending Done = false
is_pending NoSuch = false
is_pending NoMemory = false
is_pending (Gives x) = false

pub record Wakings (Core Held C A W : Type 0) : Type 1 where
  -- which wakers are registered where
  pub Registered : Type 0
  -- the wakes of a poll, by the request, its waker, the answer, and what is left at the number
  pub polls : Core → Registered → Held → W → Answer A → Option Held → Handed Registered W
  pub ends : Core → Registered → Held → Handed Registered W
  -- the wakes of a call, by what it finds at its number (None if it concerns no number) and the answer
  pub calls : Core → Registered → C → Option Held → Answer A → Handed Registered W

module _ {Core Held C A W : Type 0} (T : Wakings Core Held C A W) where
  abbrev pub polled : Core → T.Registered → Held → W → Answer A → Option Held → Handed T.Registered W
  polled o g h w a p2 = unless_refused a g (T.polls o g h w a p2)

  abbrev pub called : Core → T.Registered → C → Option Held → Answer A → Handed T.Registered W
  called o g call p a = unless_refused a g (T.calls o g call p a)

  -- the wakes of a command that finds this at its number, and leaves that
  abbrev pub handed_at : {Ask : Type 0} → Core → T.Registered → Command Ask W C → Option Held → Answer A → Option Held → Handed T.Registered W
  handed_at o g (Start r ask) p a p2 = nothing g
  handed_at o g (Poll r w) None a p2 = nothing g
  handed_at o g (Poll r w) (Some h) a p2 = polled o g h w a p2
  handed_at o g (End r) None a p2 = nothing g
  handed_at o g (End r) (Some h) a p2 = T.ends o g h
  handed_at o g (Call call) p a p2 = called o g call p a
