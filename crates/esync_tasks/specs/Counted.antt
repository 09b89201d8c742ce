-- What a run queue keeps beside its tasks.
use Rattle.std.specs.Prelude.{◌≡◌, ℕ, List, length, Some, sum_by}
use Rattle.esync_tasks.specs.declared.run_queue.TaskState.{TaskState}
use Rattle.esync_tasks.specs.declared.run_queue.TaskState.TheVariants.{Resting, Queued, Running, Woken, Ended}
use Rattle.esync_tasks.specs.RunQueue.{turns_due, IsOrderly}

-- 1 for a task that is queued, and 0 for any other
abbrev pub queued_one : TaskState → ℕ
queued_one state = turns_due (Some state)

-- 0 for a task that is over, and 1 for any other
abbrev pub unended_one : TaskState → ℕ
unended_one Ended = 0
unended_one Queued = 1
unended_one Resting = 1
unended_one Running = 1
unended_one Woken = 1

-- The tasks are in order, the queue is as long as tasks are queued, and `count` tasks aren't over.
pub record IsCounted (n : ℕ) (states : List TaskState) (queue : List ℕ) (count : ℕ) : Type 0 where
  pub orderly : IsOrderly n (record { states = states; queue = queue })
  pub queued : length queue ≡ sum_by queued_one states
  pub left : count ≡ sum_by unended_one states
