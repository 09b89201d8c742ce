-- Which tasks an executor takes.
use Rattle.std.specs.Prelude.{◌≡◌, ℕ, ◌<◌, ◌==◌, Bool, false, List, [], ◌∷◌, None}
use Rattle.std.specs.List.{list_any}
use Rattle.esync_base.specs.declared.waitqueue.TaskId.{TaskId}
use Rattle.esync_machine.specs.Runs.{Meaning}
use Rattle.esync_history.specs.declared.executor.Act.{Act}
use Rattle.esync_history.specs.declared.executor.Act.TheVariants.{Await, Call}

-- whether the act awaits the request at the number
abbrev pub awaits_at : {Ask Command : Type 0} → ℕ → Act Ask Command → Bool
awaits_at r (Await t ask) = t == r
awaits_at r (Call c) = false

-- whether some task awaits a request at the number
abbrev pub some_awaits_at : {Ask Command : Type 0} → ℕ → List (List (Act Ask Command)) → Bool
some_awaits_at r tasks = list_any (λ acts. list_any (awaits_at r) acts) tasks

module _ {Command Reply : Type 0} (M : Meaning Command Reply TaskId) (numbers : ℕ) {Ask : Type 0} where
  -- Of an act of a task before these: an Await's number is one of the machine's, and none of these tasks awaits at it. A
  -- Call neither starts nor polls.
  abbrev pub IsSuited : List (List (Act Ask Command)) → Act Ask Command → Type 0
  IsSuited later (Await r ask) = (r < numbers) × (some_awaits_at r later ≡ false)
  IsSuited later (Call c) = (M.starts c ≡ None) × (M.polls c ≡ None)

  -- each act of a task is suited to the tasks behind it
  abbrev pub IsSuitedTask : List (List (Act Ask Command)) → List (Act Ask Command) → Type 0
  IsSuitedTask later [] = Unit {0}
  IsSuitedTask later (act ∷ acts) = IsSuited later act × IsSuitedTask later acts

  -- Each task is suited to those behind it. So no two tasks await at one number, but one may do so again and again.
  abbrev pub AreSuited : List (List (Act Ask Command)) → Type 0
  AreSuited [] = Unit {0}
  AreSuited (acts ∷ tasks) = IsSuitedTask tasks acts × AreSuited tasks
