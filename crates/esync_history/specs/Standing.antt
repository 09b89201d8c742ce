-- Where the tasks without a turn stand.
use Rattle.std.specs.Prelude.{◌≡◌, ℕ, true, false, List, [], ◌∷◌, Some, None, ◌⊎◌, length, map, slice_get}
use Rattle.std.specs.List.{list_any}
use Rattle.esync_base.specs.Listed.{is_in}
use Rattle.esync_base.specs.declared.waitqueue.TaskId.{TaskId}
use Rattle.esync_machine.specs.Runs.{Meaning, Semantics, IsIdle}
use Rattle.esync_history.specs.declared.executor.Act.{Act}
use Rattle.esync_history.specs.declared.executor.Act.TheVariants.{Await, Call}
use Rattle.esync_history.specs.Line.{Line}
use Rattle.esync_history.specs.Answered.{Answered}
use Rattle.esync_history.specs.Suited.{awaits_at}
use Rattle.esync_history.specs.Todo.{Todo, has_ended, acts_left, IsOrderly}

-- the task stands at the request, or has still to await it
abbrev pub Uses : {Ask Command : Type 0} → ℕ → Todo Ask Command → Type 0
Uses r task = (task.request ≡ Some r) ⊎ (list_any (awaits_at r) task.acts ≡ true)

module _ {Command Reply : Type 0} (M : Meaning Command Reply TaskId) where
  -- no Call among the acts starts or polls
  abbrev pub ArePlain : {Ask : Type 0} → List (Act Ask Command) → Type 0
  ArePlain [] = Unit {0}
  ArePlain (Await r ask ∷ acts) = ArePlain acts
  ArePlain (Call c ∷ acts) = (M.starts c ≡ None) × (M.polls c ≡ None) × ArePlain acts

module _ {S Command Reply : Type 0} (X : Semantics S Command Reply TaskId) where
  -- the request was ended, or its waker is registered where it will be handed out
  abbrev pub IsStanding : S → ℕ → TaskId → Type 0
  IsStanding m r w = (X.meaning.IsLive (X.object m) r → ⊥) ⊎ X.Owes m r w

  -- The tasks use different numbers. A task without a turn has ended, or stands at a request as `IsStanding` says.
  pub record AreStandingBut {Ask : Type 0} (HasTurn : ℕ → Type 0) (m : S) (tasks : List (Todo Ask Command)) : Type 0 where
    pub apart : (j k : ℕ) (s t : Todo Ask Command) (r : ℕ) → slice_get tasks j ≡ Some s → slice_get tasks k ≡ Some t → Uses r s → Uses r t → j ≡ k
    pub plain : (k : ℕ) (t : Todo Ask Command) → slice_get tasks k ≡ Some t → ArePlain X.meaning t.acts
    pub idle : (k : ℕ) (t : Todo Ask Command) → slice_get tasks k ≡ Some t → has_ended t ≡ false → (HasTurn k → ⊥) → (r : ℕ) × (t.request ≡ Some r) × IsStanding m r (record { 0 = k })

  -- the statement in which a task has a turn exactly if it is queued
  abbrev pub AreStanding : {Ask : Type 0} → S → List (Todo Ask Command) → List ℕ → Type 0
  AreStanding m tasks queue = AreStandingBut (λ k. is_in k queue ≡ true) m tasks

  -- What holds between two turns. Each task has a list of answers, with room for those of all acts that are left.
  pub record IsBetweenTurns {Ask : Type 0} (m : S) (tasks : List (Todo Ask Command)) (queue : Line) (heard : Answered Reply) : Type 0 where
    pub orderly : IsOrderly tasks queue
    pub standing : AreStanding m tasks queue.numbers
    pub places : length heard.replies ≡ length tasks
    pub room : heard.room ≡ map acts_left tasks

module _ {Command Reply : Type 0} (M : Meaning Command Reply TaskId) where
  -- each answer that a poll of the request may now get, with the object that it leaves, satisfies `Is`
  abbrev pub EachPoll : M.Object → ℕ → (Reply → M.Object → Type 0) → Type 0
  EachPoll o r Is = (c : Command) (w : TaskId) (a : Reply) (o2 : M.Object) → M.polls c ≡ Some (r, w) → M.allows o c a o2 → Is a o2

  -- a poll of the request would be answered Pending and leave the object as it is
  abbrev pub WouldWait : M.Object → ℕ → Type 0
  WouldWait o r = IsIdle M o r × EachPoll o r (λ a o2. M.IsPending a × (o2 ≡ o))

  -- the request was ended, and a poll would be answered NoSuch
  abbrev pub WouldMiss : M.Object → ℕ → Type 0
  WouldMiss o r = (M.IsLive o r → ⊥) × EachPoll o r (λ a o2. M.IsNoSuch a)

  -- Each task that hasn't ended stands at an Await whose poll would be answered Pending, or NoSuch.
  abbrev pub AreStalled : {Ask : Type 0} → M.Object → List (Todo Ask Command) → Type 0
  AreStalled {Ask} o tasks =
      (k : ℕ) (t : Todo Ask Command) → slice_get tasks k ≡ Some t → has_ended t ≡ false → (r : ℕ) × (t.request ≡ Some r) × (WouldMiss o r ⊎ WouldWait o r)
