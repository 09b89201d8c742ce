-- Tasks, and the queue in which they wait for their turn.
use Rattle.std.specs.Prelude.{◌≡◌, ℕ, ◌+◌, Bool, true, false, List, [], ◌∷◌, Option, Some, None, map, slice_get, length, if◌then◌else◌}
use Rattle.std.specs.Option.{option_to_list}
use Rattle.std.specs.List.{zip}
use Rattle.esync_base.specs.Listed.{is_in, NoTwice}
use Rattle.esync_base.specs.declared.waitqueue.TaskId.{TaskId}
use Rattle.esync_history.specs.declared.executor.Act.{Act}
use Rattle.esync_history.specs.Line.{Line, put_last}

-- What a task has still to do.
pub record Todo (Ask Command : Type 0) : Type 0 where
  -- the number of the request at whose Await the task stands, once that request was started
  pub request : Option ℕ
  -- the acts behind that Await
  pub acts : List (Act Ask Command)

-- A machine with its tasks, the numbers of the tasks that wait for a turn, the next one first, and the answers of each
-- task's acts that are over, in order.
pub record Executing (S Ask Command Reply : Type 0) : Type 0 where
  pub machine : S
  pub tasks : List (Todo Ask Command)
  pub queue : List ℕ
  pub heard : List (List Reply)

-- a task before its first act
abbrev pub fresh : {Ask Command : Type 0} → List (Act Ask Command) → Todo Ask Command
fresh acts = record { request = None; acts = acts }

abbrev pub nothing_left : {A B : Type 0} → Option A → List B → Bool
nothing_left None [] = true
nothing_left None (act ∷ acts) = false
nothing_left (Some r) acts = false

-- whether the last act of a task is over
abbrev pub has_ended : {Ask Command : Type 0} → Todo Ask Command → Bool
has_ended task = nothing_left task.request task.acts

-- how many acts of a task aren't over
abbrev pub acts_left : {Ask Command : Type 0} → Todo Ask Command → ℕ
acts_left task = length (option_to_list task.request) + length task.acts

-- how many acts each task has: those that are over, with an answer each, and those that are left
abbrev pub act_counts : {S Ask Command Reply : Type 0} → Executing S Ask Command Reply → List ℕ
act_counts e = map (λ p. length p.0 + acts_left p.1) (zip e.heard e.tasks)

abbrev pub numbers_from : {Ask Command : Type 0} → ℕ → List (Todo Ask Command) → List ℕ
numbers_from k [] = []
numbers_from k (task ∷ tasks) = if has_ended task then numbers_from (k + 1) tasks else k ∷ numbers_from (k + 1) tasks

-- the numbers of the tasks that haven't ended, in order
abbrev pub unended : {Ask Command : Type 0} → List (Todo Ask Command) → List ℕ
unended tasks = numbers_from 0 tasks

abbrev pub put_back_task : {Ask Command : Type 0} → Option (Todo Ask Command) → List ℕ → ℕ → List ℕ
put_back_task None queue k = queue
put_back_task (Some task) queue k = if has_ended task then queue else put_last queue k

-- the queue with the task at its back, unless it is queued or has ended, or there is no such task
abbrev pub put_back : {Ask Command : Type 0} → List (Todo Ask Command) → List ℕ → ℕ → List ℕ
put_back tasks queue k = put_back_task (slice_get tasks k) queue k

-- the queue after the tasks that these wakers name were put at its back, in order
abbrev pub woken : {Ask Command : Type 0} → List (Todo Ask Command) → List ℕ → List TaskId → List ℕ
woken tasks queue [] = queue
woken tasks queue (w ∷ ws) = woken tasks (put_back tasks queue w.0) ws

-- the queue after a turn of the task with this number: the tasks that were woken go to the back, in order, and then the
-- task itself, if it goes back
abbrev pub requeued : {Ask Command : Type 0} → List (Todo Ask Command) → List ℕ → List TaskId → Bool → ℕ → List ℕ
requeued tasks queue wakers true number = put_back tasks (woken tasks queue wakers) number
requeued tasks queue wakers false number = woken tasks queue wakers

abbrev pub IsUnendedTask : {Ask Command : Type 0} → Option (Todo Ask Command) → Type 0
IsUnendedTask None = ⊥
IsUnendedTask (Some task) = has_ended task ≡ false

-- a task that is there and hasn't ended
abbrev pub IsUnended : {Ask Command : Type 0} → List (Todo Ask Command) → ℕ → Type 0
IsUnended tasks k = IsUnendedTask (slice_get tasks k)

-- What holds between two turns: each queued task is there and hasn't ended, and none is queued twice.
pub record IsOrderly {Ask Command : Type 0} (tasks : List (Todo Ask Command)) (queue : Line) : Type 0 where
  pub room : queue.room ≡ length tasks
  pub distinct : NoTwice queue.numbers
  pub unended : (k : ℕ) → is_in k queue.numbers ≡ true → IsUnended tasks k
