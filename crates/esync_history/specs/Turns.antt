-- The turns that an executor takes.
use Rattle.std.specs.Prelude.{◌≡◌, ℕ, zero, suc, ◌*◌, ◌≤◌, length, Bool, true, false, List, [], ◌∷◌, ◌++◌, Option, Some, None, ◌⊎◌, map, is_none, slice_get, slice_set}
use Rattle.std.specs.Option.{option_to_list}
use Rattle.std.specs.List.{flat_map, list_all}
use Rattle.esync_base.specs.declared.waitqueue.TaskId.{TaskId}
use Rattle.esync_machine.specs.Runs.{Meaning, Semantics, Step, GoodRunOf}
use Rattle.esync_machine.specs.Histories.{Through}
use Rattle.esync_history.specs.declared.act.Heard.{Heard}
use Rattle.esync_history.specs.declared.executor.Act.{Act}
use Rattle.esync_history.specs.declared.executor.Act.TheVariants.{Await, Call}
use Rattle.esync_history.specs.declared.executor.Outcome.{Outcome}
use Rattle.esync_history.specs.declared.executor.Outcome.TheVariants.{Done, Stalled, Limit}
use Rattle.esync_history.specs.Answered.{noted}
use Rattle.esync_history.specs.Todo.{Todo, Executing, has_ended, requeued}

-- What each outcome tells. Only tasks that haven't ended are queued, so the queue is empty once all have.
abbrev pub Tells : {S Ask Command Reply : Type 0} → Outcome → Executing S Ask Command Reply → Type 0
Tells Done e = (list_all has_ended e.tasks ≡ true) × (e.queue ≡ [])
Tells Stalled e = (list_all has_ended e.tasks ≡ false) × (e.queue ≡ [])
Tells Limit e = (list_all has_ended e.tasks ≡ false) × (e.queue ≡ [] → ⊥)

module _ {Command Reply : Type 0} (M : Meaning Command Reply TaskId) where
  -- where a task stands after a poll with this answer: still at the request with Pending and NoMemory, else at none
  abbrev pub StandsAt : ℕ → Reply → Option ℕ → Type 0
  StandsAt r a request = ((request ≡ Some r) × (M.IsPending a ⊎ M.IsRefused a)) ⊎ ((request ≡ None) × (M.IsPending a → ⊥) × (M.IsRefused a → ⊥))

  -- A poll of the request. The task goes to the back of the queue with any answer but Pending.
  abbrev pub IsPoll : TaskId → ℕ → Step M.Object Command Reply → Bool → Option ℕ → Type 0
  IsPoll w r s back request =
      (M.polls s.command ≡ Some (r, w))
      × StandsAt r s.reply request
      × ((M.IsPending s.reply × (back ≡ false)) ⊎ ((M.IsPending s.reply → ⊥) × (back ≡ true)))

  -- The start of a request by this command. If it is answered NoSuch the act is over, and otherwise a poll follows.
  abbrev pub IsAwait : TaskId → ℕ → Command → List (Step M.Object Command Reply) → Bool → Option ℕ → Type 0
  IsAwait w r start steps back request =
      (s : Step M.Object Command Reply) × (s.command ≡ start)
      × ((M.IsNoSuch s.reply × (steps ≡ s ∷ []) × (back ≡ true) × (request ≡ None)) ⊎ ((M.IsNoSuch s.reply → ⊥) × ((p : Step M.Object Command Reply) × (steps ≡ s ∷ p ∷ []) × IsPoll w r p back request)))

  -- The current act of a task, by these steps: whether the task goes to the back of the queue, and what it has to do.
  abbrev pub Acts : {Ask : Type 0} → (ℕ → Ask → Command) → TaskId → Option ℕ → List (Act Ask Command) → List (Step M.Object Command Reply) → Bool → Todo Ask Command → Type 0
  Acts starting w (Some r) acts steps back left = (s : Step M.Object Command Reply) × (steps ≡ s ∷ []) × IsPoll w r s back left.request × (left.acts ≡ acts)
  Acts starting w None [] steps back left = ⊥
  Acts starting w None (Await r ask ∷ acts) steps back left = IsAwait w r (starting r ask) steps back left.request × (left.acts ≡ acts)
  Acts starting w None (Call c ∷ acts) steps back left = (s : Step M.Object Command Reply) × (steps ≡ s ∷ []) × (s.command ≡ c) × (back ≡ true) × (left.request ≡ None) × (left.acts ≡ acts)

  -- one or two steps gave these answers
  abbrev pub Gave : List (Step M.Object Command Reply) → Reply → Option Reply → Type 0
  Gave steps first second = map (λ s. s.reply) steps ≡ first ∷ option_to_list second

  -- the wakers that the answers hand out, in order
  abbrev pub wakes_in : List Reply → List TaskId
  wakes_in replies = flat_map M.wakes replies

-- statements over a machine, with the commands that start a request at a number
module _ {S Ask Command Reply : Type 0} (X : Semantics S Command Reply TaskId) (starting : ℕ → Ask → Command) where
  -- The current act of a task, by steps of the machine between two states: what they were answered, and what the task
  -- has still to do.
  abbrev pub DoesAct : TaskId → Todo Ask Command → S → Heard Reply → S → Todo Ask Command → Type 0
  DoesAct w task old heard new left =
      (steps : List (Step X.meaning.Object Command Reply))
      × Through X old steps new
      × Gave X.meaning steps heard.first heard.second
      × Acts X.meaning starting w task.request task.acts steps heard.back left

  -- the current act of a task that stands at an Await of this request, whatever acts stand behind it
  abbrev pub GoesOn : TaskId → ℕ → S → Heard Reply → S → Type 0
  GoesOn w r old heard new = (acts : List (Act Ask Command)) → DoesAct w (record { request = Some r; acts = acts }) old heard new (record { request = heard.request; acts = acts })

  -- the current act of a task that begins this act, whatever acts stand behind it
  abbrev pub Begins : TaskId → Act Ask Command → S → Heard Reply → S → Type 0
  Begins w act old heard new = (acts : List (Act Ask Command)) → DoesAct w (record { request = None; acts = act ∷ acts }) old heard new (record { request = heard.request; acts = acts })

  -- A turn of the task at the front of the queue: it does its current act, by these steps of the machine. If the act is
  -- over after them, the act's answer is the last step's.
  pub record IsTurn (old new : Executing S Ask Command Reply) : Type 0 where
    pub number : ℕ
    pub behind : List ℕ
    pub task : Todo Ask Command
    pub left : Todo Ask Command
    pub steps : List (Step X.meaning.Object Command Reply)
    pub back : Bool
    pub answer : Reply
    pub front : old.queue ≡ number ∷ behind
    pub there : slice_get old.tasks number ≡ Some task
    pub act : Acts X.meaning starting (record { 0 = number }) task.request task.acts steps back left
    pub run : Through X old.machine steps new.machine
    pub tasks : new.tasks ≡ slice_set old.tasks number left
    pub queue : new.queue ≡ requeued new.tasks behind (wakes_in X.meaning (map (λ s. s.reply) steps)) back number
    pub last : (earlier : List Reply) × (map (λ s. s.reply) steps ≡ earlier ++ answer ∷ [])
    pub heard : new.heard ≡ noted old.heard number (is_none left.request) answer

  -- n turns, one after another, with all their steps
  abbrev pub Turns : ℕ → Executing S Ask Command Reply → List (Step X.meaning.Object Command Reply) → Executing S Ask Command Reply → Type 0
  Turns zero old steps new = (new ≡ old) × (steps ≡ [])
  Turns (suc t) old steps new =
      (mid : Executing S Ask Command Reply) × (earlier : List (Step X.meaning.Object Command Reply)) × Turns t old earlier mid × ((turn : IsTurn mid new) × (steps ≡ earlier ++ turn.steps))

  -- What a run did: turns, at most as many as it was allowed. Their steps are a good run of the machine, one or two of them a turn.
  pub record Ran (limit : ℕ) (old : Executing S Ask Command Reply) (outcome : Outcome) (new : Executing S Ask Command Reply) : Type 0 where
    pub turns : ℕ
    pub steps : List (Step X.meaning.Object Command Reply)
    pub within : turns ≤ limit
    pub limited : outcome ≡ Limit → turns ≡ limit
    pub taken : Turns turns old steps new
    pub good : GoodRunOf X old.machine (map (λ s. s.command) steps) (map (λ s. s.reply) steps) new.machine
    pub same : good.steps ≡ steps
    pub at_least : turns ≤ length steps
    pub at_most : length steps ≤ 2 * turns
