-- Tasks that weren't run.
use Rattle.esync_tasks.specs.declared.runtime.RunError.{RunError}
use Rattle.esync_tasks.specs.declared.runtime.RunError.TheVariants.{Busy, Count, NoMemory}

-- the tasks that a refused run gives back
abbrev pub tasks_of : {T : Type 0} → RunError T → T
tasks_of (Busy tasks) = tasks
tasks_of (Count tasks) = tasks
tasks_of (NoMemory tasks) = tasks
