-- Runs of a machine, and what is claimed of them: two laws of wakes, which speak of no registration, and the table of wakes.
use Rattle.std.specs.Prelude.{◌≡◌, ℕ, Bool, List, [], ◌∷◌, ◌++◌, map, Option, Some, ◌⊎◌}
use Rattle.esync_base.specs.Registration.{IsAmong}
use Rattle.esync_machine.specs.Wakings.{Handed}

-- What a machine means: the objects, and which step each of them allows.
pub record Meaning (Command Reply Waker : Type 0) : Type 1 where
  pub Object : Type 0
  -- the object may give this answer to this command, and become the second object
  pub allows : Object → Command → Reply → Object → Type 0
  -- the number and the waker of a poll
  pub polls : Command → Option (ℕ × Waker)
  -- the command ends the request: by its end, or by the leaving of what it belongs to
  pub Ends : Object → Command → ℕ → Type 0
  pub IsPending : Reply → Type 0
  -- the wakers that were handed out, in order
  pub wakes : Reply → List Waker
  -- which wakers are registered where
  pub Registered : Type 0
  -- the wakers that a step hands out, from the object before it to the one after it, and the wakers registered after it
  pub handed : Object → Registered → Command → Reply → Object → Handed Registered Waker
  -- whether two wakers are equal
  pub same : Waker → Waker → Bool
  -- the number of a request that the command makes
  pub starts : Command → Option ℕ
  -- the number that the command ends by its end
  pub ends : Command → Option ℕ
  pub IsLive : Object → ℕ → Type 0
  -- the command names what isn't there
  pub IsNoSuch : Reply → Type 0
  -- there was no memory for a clone, and the command changed nothing
  pub IsRefused : Reply → Type 0
  -- a Pending poll may hand out its own waker, though it leaves the object as it was
  pub WakesItself : Type 0

-- each item of a list has a property
abbrev pub Each : {A : Type 0} → (A → Type 0) → List A → Type 0
Each P [] = Unit {0}
Each P (x ∷ xs) = P x × Each P xs

-- some item of a list has a property
abbrev pub AtSome : {A : Type 0} → (A → Type 0) → List A → Type 0
AtSome P [] = ⊥
AtSome P (x ∷ xs) = P x ⊎ AtSome P xs

-- A command with its answer, and the objects before and after it.
pub record Step (Object Command Reply : Type 0) : Type 0 where
  pub before : Object
  pub command : Command
  pub reply : Reply
  pub after : Object

module _ {Command Reply Waker : Type 0} (M : Meaning Command Reply Waker) where
  -- these steps lead from old to new
  abbrev pub IsRun : M.Object → List (Step M.Object Command Reply) → M.Object → Type 0
  IsRun old [] new = new ≡ old
  IsRun old (s ∷ steps) new = (s.before ≡ old) × M.allows s.before s.command s.reply s.after × IsRun s.after steps new

  -- Pending isn't allowed for a poll of r now, whatever it leaves
  abbrev pub IsReady : M.Object → ℕ → Type 0
  IsReady o r = (c : Command) (w : Waker) (a : Reply) (o2 : M.Object) → M.polls c ≡ Some (r, w) → M.IsPending a → M.allows o c a o2 → ⊥

  -- Pending with the object left as it is isn't allowed for a poll of r now
  abbrev pub IsDue : M.Object → ℕ → Type 0
  IsDue o r = (c : Command) (w : Waker) (a : Reply) → M.polls c ≡ Some (r, w) → M.IsPending a → M.allows o c a o → ⊥

  -- Pending with the object left as it is is allowed for each poll of r now
  abbrev pub IsIdle : M.Object → ℕ → Type 0
  IsIdle o r = (c : Command) (w : Waker) → M.polls c ≡ Some (r, w) → (a : Reply) × M.IsPending a × M.allows o c a o

  -- if Pending with the object left as it is is allowed for a poll, nothing else is
  abbrev pub IdleIsPending : Type 0
  IdleIsPending =
      (o o2 : M.Object) (c : Command) (r : ℕ) (w : Waker) (a b : Reply) → M.polls c ≡ Some (r, w) → M.IsPending a → M.allows o c a o → M.allows o c b o2 → M.IsPending b × (o2 ≡ o)

  -- a poll of what is no live request names what isn't there
  abbrev pub OnlyLiveArePolled : Type 0
  OnlyLiveArePolled = (o o2 : M.Object) (c : Command) (r : ℕ) (w : Waker) (a : Reply) → M.polls c ≡ Some (r, w) → (M.IsLive o r → ⊥) → M.allows o c a o2 → M.IsNoSuch a

  abbrev pub Polls : Command → ℕ → Type 0
  Polls c r = (w : Waker) × (M.polls c ≡ Some (r, w))

  -- a waker equal to w is among the wakes of the answer
  abbrev pub HandsOut : Reply → Waker → Type 0
  HandsOut a w = IsAmong M.same w (M.wakes a)

  -- The last poll of r.
  pub record LastPoll (steps : List (Step M.Object Command Reply)) (r : ℕ) : Type 0 where
    pub earlier : List (Step M.Object Command Reply)
    pub poll : Step M.Object Command Reply
    pub later : List (Step M.Object Command Reply)
    pub waker : Waker
    pub parts : steps ≡ earlier ++ poll ∷ later
    pub polls : M.polls poll.command ≡ Some (r, waker)
    pub last : Each (λ s. Polls s.command r → ⊥) later

  -- The last poll was answered Pending, and no command ended r after it.
  abbrev pub IsWaiting : (steps : List (Step M.Object Command Reply)) (r : ℕ) → LastPoll steps r → Type 0
  IsWaiting steps r p = M.IsPending p.poll.reply × Each (λ s. M.Ends s.before s.command r → ⊥) p.later

  -- A waker equal to that of the last poll was handed out in that poll or since.
  abbrev pub IsWoken : (steps : List (Step M.Object Command Reply)) (r : ℕ) → LastPoll steps r → Type 0
  IsWoken steps r p = AtSome (λ s. HandsOut s.reply p.waker) (p.poll ∷ p.later)

  -- the object after a step and the steps that follow it
  abbrev pub object_after : Step M.Object Command Reply → List (Step M.Object Command Reply) → M.Object
  object_after s [] = s.after
  object_after s (t ∷ steps) = object_after t steps

  -- At every beginning of the run, a request that waits and has the property was woken.
  abbrev pub AreWoken : (M.Object → ℕ → Type 0) → List (Step M.Object Command Reply) → Type 0
  AreWoken Is steps =
      (beginning rest : List (Step M.Object Command Reply)) → steps ≡ beginning ++ rest
      → (r : ℕ) (p : LastPoll beginning r) → IsWaiting beginning r p → Is (object_after p.poll p.later) r → IsWoken beginning r p

  -- Every request that waits and is due was woken; so was every one that is ready, since that is due (`ready_is_due`).
  abbrev pub NoLostWake : List (Step M.Object Command Reply) → Type 0
  NoLostWake steps = AreWoken IsDue steps × AreWoken IsReady steps

  -- A poll that answers Pending and leaves the object as it was doesn't hand out its own waker.
  abbrev pub IsQuiet : M.Object → Command → Reply → M.Object → Type 0
  IsQuiet before c a after = (r : ℕ) (w : Waker) → M.polls c ≡ Some (r, w) → M.IsPending a → after ≡ before → HandsOut a w → ⊥

  abbrev pub NoIdleSelfWake : List (Step M.Object Command Reply) → Type 0
  NoIdleSelfWake steps = Each (λ s. IsQuiet s.before s.command s.reply s.after) steps

  -- the wakers that are registered after the steps, where these are before them
  abbrev pub registered_after : M.Registered → List (Step M.Object Command Reply) → M.Registered
  registered_after g [] = g
  registered_after g (s ∷ steps) = registered_after (M.handed s.before g s.command s.reply s.after).after steps

  -- Each step hands out the wakers that the table of wakes says, no others and in this order.
  abbrev pub HandsOutExactly : M.Registered → List (Step M.Object Command Reply) → Type 0
  HandsOutExactly g [] = Unit {0}
  HandsOutExactly g (s ∷ steps) =
      (M.wakes s.reply ≡ (M.handed s.before g s.command s.reply s.after).wakes) × HandsOutExactly (M.handed s.before g s.command s.reply s.after).after steps

  -- the steps are these commands with these answers
  abbrev pub Answers : List Command → List Reply → List (Step M.Object Command Reply) → Type 0
  Answers commands replies steps = (commands ≡ map (λ s. s.command) steps) × (replies ≡ map (λ s. s.reply) steps)

  -- The answers to the commands are those of a run with both laws, and the wakes are those of the table.
  pub record GoodRun (old : M.Object) (before : M.Registered) (commands : List Command) (replies : List Reply) (new : M.Object) (after : M.Registered) : Type 0 where
    pub steps : List (Step M.Object Command Reply)
    pub answers : Answers commands replies steps
    pub run : IsRun old steps new
    pub no_lost_wake : NoLostWake steps
    pub no_idle_self_wake : (M.WakesItself → ⊥) → NoIdleSelfWake steps
    pub wakes : HandsOutExactly before steps
    pub registered : after ≡ registered_after before steps

-- A machine: what it means, and how its states are read.
pub record Semantics (S Command Reply Waker : Type 0) : Type 1 where
  pub meaning : Meaning Command Reply Waker
  pub object : S → meaning.Object
  -- which wakers are registered where
  pub registrations : S → meaning.Registered
  -- the waker is registered where it will be handed out for the request, which is live and not due
  pub Owes : S → ℕ → Waker → Type 0

module _ {S Command Reply Waker : Type 0} (X : Semantics S Command Reply Waker) where
  -- The answers of a run from one state of a machine to another are those of a good run.
  abbrev pub GoodRunOf : S → List Command → List Reply → S → Type 0
  GoodRunOf old commands replies new = GoodRun X.meaning (X.object old) (X.registrations old) commands replies (X.object new) (X.registrations new)

  -- if a request is owed a waker, a poll of it may now be answered Pending with the object left as it is
  abbrev pub OwedAreIdle : Type 0
  OwedAreIdle = (m : S) (r : ℕ) (w : Waker) → X.Owes m r w → IsIdle X.meaning (X.object m) r
