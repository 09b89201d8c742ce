-- The tasks of two hands, numbered one behind the other.
use Rattle.std.specs.Prelude.{ℕ, ◌-◌, nat_lt, if◌then◌else◌}
use Rattle.esync_base.specs.declared.waitqueue.TaskId.{TaskId}
use Rattle.esync_tasks.specs.declared.future.selected.Either.{Either}
use Rattle.esync_tasks.specs.declared.future.selected.Either.TheVariants.{First, Second}

abbrev pub task : ℕ → TaskId
task k = record { 0 = k }

-- the hand and the task there: task k of the first hand if k is below n, and otherwise task k - n of the second
abbrev pub side_of : ℕ → ℕ → Either TaskId TaskId
side_of n k = if nat_lt k n then First (task k) else Second (task (k - n))
