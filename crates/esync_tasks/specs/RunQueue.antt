-- The tasks of a runtime, and the queue of the tasks that were woken.
use Rattle.std.specs.Prelude.{◌≡◌, ℕ, ◌==◌, List, [], ◌∷◌, ◌++◌, Option, Some, None, ⊤, length, slice_get, slice_set, count_by}
use Rattle.std.specs.List.{range_with_len}
use Rattle.std.proofs.Math.ListN.{replicate}
use Rattle.esync_tasks.specs.declared.run_queue.TaskState.{TaskState}
use Rattle.esync_tasks.specs.declared.run_queue.TaskState.TheVariants.{Resting, Queued, Running, Woken, Ended}

-- The state of each task, and the numbers of the tasks that wait for their turn, the next one first.
pub record Tasks : Type 0 where
  pub states : List TaskState
  pub queue : List ℕ

-- n tasks that wait for their turn, in order
abbrev pub all_queued : ℕ → Tasks
all_queued n = record { states = replicate n Queued; queue = range_with_len 0 n }

-- the tasks with this one in the state
abbrev pub in_state : Tasks → ℕ → TaskState → Tasks
in_state tasks k state = record { states = slice_set tasks.states k state; queue = tasks.queue }

-- the tasks with this one at the back of the queue
abbrev pub queued_last : Tasks → ℕ → Tasks
queued_last tasks k = record { states = slice_set tasks.states k Queued; queue = tasks.queue ++ k ∷ [] }

abbrev pub woken_from : Option TaskState → Tasks → ℕ → Tasks
woken_from (Some Resting) tasks k = queued_last tasks k
woken_from (Some Running) tasks k = in_state tasks k Woken
woken_from (Some Queued) tasks k = tasks
woken_from (Some Woken) tasks k = tasks
woken_from (Some Ended) tasks k = tasks
woken_from None tasks k = tasks

-- the tasks after a wake: one that rests is queued last, one that has its turn is marked, and any other stays as it is
abbrev pub woken : Tasks → ℕ → Tasks
woken tasks k = woken_from (slice_get tasks.states k) tasks k

abbrev pub rested_from : Option TaskState → Tasks → ℕ → Tasks
rested_from (Some Woken) tasks k = queued_last tasks k
rested_from (Some Running) tasks k = in_state tasks k Resting
rested_from (Some Resting) tasks k = tasks
rested_from (Some Queued) tasks k = tasks
rested_from (Some Ended) tasks k = tasks
rested_from None tasks k = tasks

-- the tasks after a turn that wasn't the task's last: a task that was woken meanwhile is queued last
abbrev pub rested : Tasks → ℕ → Tasks
rested tasks k = rested_from (slice_get tasks.states k) tasks k

-- the tasks after the last turn of the task
abbrev pub ended : Tasks → ℕ → Tasks
ended tasks k = in_state tasks k Ended

-- there is such a task, which is neither over nor queued
abbrev pub IsOutside : Option TaskState → Type 0
IsOutside (Some Resting) = ⊤
IsOutside (Some Running) = ⊤
IsOutside (Some Woken) = ⊤
IsOutside (Some Queued) = ⊥
IsOutside (Some Ended) = ⊥
IsOutside None = ⊥

abbrev pub IsTurn : Option TaskState → Type 0
IsTurn (Some Running) = ⊤
IsTurn (Some Woken) = ⊤
IsTurn (Some Resting) = ⊥
IsTurn (Some Queued) = ⊥
IsTurn (Some Ended) = ⊥
IsTurn None = ⊥

-- the task has its turn
abbrev pub IsRunning : Tasks → ℕ → Type 0
IsRunning tasks k = IsTurn (slice_get tasks.states k)

-- the task is over
abbrev pub HasEnded : TaskState → Type 0
HasEnded state = state ≡ Ended

-- how often a task in this state stands in the queue
abbrev pub turns_due : Option TaskState → ℕ
turns_due (Some Queued) = 1
turns_due (Some Resting) = 0
turns_due (Some Running) = 0
turns_due (Some Woken) = 0
turns_due (Some Ended) = 0
turns_due None = 0

-- What every call leaves.
pub record IsOrderly (n : ℕ) (tasks : Tasks) : Type 0 where
  -- there are n tasks
  pub count : length tasks.states ≡ n
  -- each task that is queued stands in the queue once, and no other number stands there
  pub once : (k : ℕ) → count_by (λ j. j == k) tasks.queue ≡ turns_due (slice_get tasks.states k)

abbrev pub IsOwedIn : Option TaskState → Type 0
IsOwedIn (Some Queued) = ⊤
IsOwedIn (Some Woken) = ⊤
IsOwedIn (Some Resting) = ⊥
IsOwedIn (Some Running) = ⊥
IsOwedIn (Some Ended) = ⊥
IsOwedIn None = ⊥

-- the task is owed a turn: it waits for it in the queue, or goes there once its present turn is over
abbrev pub IsOwed : Tasks → ℕ → Type 0
IsOwed tasks k = IsOwedIn (slice_get tasks.states k)

abbrev pub CanBeOwedIn : Option TaskState → Type 0
CanBeOwedIn (Some Ended) = ⊥
CanBeOwedIn None = ⊥
CanBeOwedIn (Some Queued) = ⊤
CanBeOwedIn (Some Woken) = ⊤
CanBeOwedIn (Some Resting) = ⊤
CanBeOwedIn (Some Running) = ⊤

-- there is such a task, and it isn't over
abbrev pub CanBeOwed : Tasks → ℕ → Type 0
CanBeOwed tasks k = CanBeOwedIn (slice_get tasks.states k)

-- each task that was owed a turn still is
abbrev pub StayOwed : Tasks → Tasks → Type 0
StayOwed old new = (k : ℕ) → IsOwed old k → IsOwed new k

-- each task but this one that was owed a turn still is
abbrev pub OthersStayOwed : ℕ → Tasks → Tasks → Type 0
OthersStayOwed task old new = (k : ℕ) → (k ≡ task → ⊥) → IsOwed old k → IsOwed new k
