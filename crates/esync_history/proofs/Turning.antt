-- What a turn makes of the task, the queue and the machine.
use Rattle.std.proofs.Common.{◌≡◌, ℕ, zero, suc, ◌*◌, ◌<◌, ◌≤◌, length-append, Bool, true, false, not, List, [], ◌∷◌, length, get_or, take, Option, Some, None, inl, inr, refl, sym, ap, ◌∙◌, ◌↔◌, IsTrue, arith, ◌++◌, subst}
use Rattle.esync_base.specs.declared.waitqueue.TaskId.{TaskId}
use Rattle.esync_base.specs.Rows.{items_of}
use Rattle.esync_machine.specs.Runs.{Meaning, Semantics, Step, OwedAreIdle}
use Rattle.esync_machine.specs.Histories.{Through}
use Rattle.esync_machine.specs.HistoriesLaws.{joined, good_run_by, good_run_by-steps}
use Rattle.esync_history.specs.declared.executor.Act.{Act}
use Rattle.esync_history.specs.declared.executor.Act.TheVariants.{Await, Call}
use Rattle.esync_history.specs.declared.executor.Outcome.{Outcome}
use Rattle.esync_history.specs.declared.executor.Outcome.TheVariants.{Limit}
use Rattle.esync_history.specs.Todo.{Todo, Executing, put_back, woken}
use Rattle.esync_history.specs.Turns.{StandsAt, IsPoll, Acts, Turns, Ran}

module _ {Command Reply : Type 0} (M : Meaning Command Reply TaskId) where
  pub poll_told : (w : TaskId) (r : ℕ) (s : Step M.Object Command Reply) (pending : Bool) (request : Option ℕ) → M.polls s.command ≡ Some (r, w) → (IsTrue pending ↔ M.IsPending s.reply) → StandsAt M r s.reply request → IsPoll M w r s (not pending) request
  poll_told w r s true request polls e stands = (polls, stands, inl (e.0 refl, refl))
  poll_told w r s false request polls e stands = (polls, stands, inr ((λ p. let t = e.1 p in absurd cc), refl))

  -- an act takes one or two steps
  act_steps : {Ask : Type 0} (starting : ℕ → Ask → Command) (w : TaskId) (request : Option ℕ) (acts : List (Act Ask Command)) (steps : List (Step M.Object Command Reply)) (back : Bool) (left : Todo Ask Command) → Acts M starting w request acts steps back left → (1 ≤ length steps) × (length steps ≤ 2)
  act_steps starting w (Some r) acts steps back left h = (omega (arith, ap length h.1), omega (arith, ap length h.1))
  act_steps starting w None [] steps back left h = absurd h
  act_steps starting w None (Await r ask ∷ acts) steps back left h = elim h.0.2 [
    | inl q ↦ (omega (arith, ap length q.1), omega (arith, ap length q.1))
    | inr q ↦ (omega (arith, ap length q.1.1), omega (arith, ap length q.1.1))
  ]
  act_steps starting w None (Call c ∷ acts) steps back left h = (omega (arith, ap length h.1), omega (arith, ap length h.1))

module _ {S Ask Command Reply : Type 0} (X : Semantics S Command Reply TaskId) (starting : ℕ → Ask → Command) where
  -- the steps of the turns are those of the machine
  turns_through : (t : ℕ) (old new : Executing S Ask Command Reply) (steps : List (Step X.meaning.Object Command Reply)) → Turns X starting t old steps new → Through X old.machine steps new.machine
  turns_through zero old new steps h = subst (λ xs. Through X old.machine xs new.machine) (sym h.1) (ap (λ e. e.machine) h.0)
  turns_through (suc t) old new steps h =
      let turn = h.3.0 in
      subst (λ xs. Through X old.machine xs new.machine) (sym h.3.1) (joined X old.machine h.0.machine new.machine h.1 turn.steps (turns_through t old h.0 h.1 h.2) turn.run)

  -- one or two of them a turn
  turns_count : (t : ℕ) (old new : Executing S Ask Command Reply) (steps : List (Step X.meaning.Object Command Reply)) → Turns X starting t old steps new → (t ≤ length steps) × (length steps ≤ 2 * t)
  turns_count zero old new steps h = (omega (arith, ap length h.1), omega (arith, ap length h.1))
  turns_count (suc t) old new steps h =
      let turn = h.3.0 in
      let so_far = turns_count t old h.0 h.1 h.2 in
      let few = act_steps X.meaning starting (record { 0 = turn.number }) turn.task.request turn.task.acts turn.steps turn.back turn.left turn.act in
      let all = ap length h.3.1 ∙ length-append h.1 turn.steps in
      (omega (arith, so_far.0, few.0, all), omega (arith, so_far.1, few.1, all))

  pub ran : OwedAreIdle X → (limit t : ℕ) (old : Executing S Ask Command Reply) (outcome : Outcome) (new : Executing S Ask Command Reply) (steps : List (Step X.meaning.Object Command Reply)) → t ≤ limit → (outcome ≡ Limit → t ≡ limit) → Turns X starting t old steps new → Ran X starting limit old outcome new
  ran idle limit t old outcome new steps within limited taken =
      let count = turns_count t old new steps taken in
      record {
        turns = t;
        steps = steps;
        within = within;
        limited = limited;
        taken = taken;
        good = good_run_by X idle old.machine new.machine steps (turns_through t old new steps taken);
        same = good_run_by-steps X idle old.machine new.machine steps (turns_through t old new steps taken);
        at_least = count.0;
        at_most = count.1;
      }

module _ {Ask Command : Type 0} (tasks : List (Todo Ask Command)) where
  -- a waker more in the row
  pub woken_more : (queue : List ℕ) (row : List (Option TaskId)) (i : ℕ) (d : Option TaskId) (w : TaskId) → i < length row → get_or row i d ≡ Some w → woken tasks queue (items_of (take (suc i) row)) ≡ put_back tasks (woken tasks queue (items_of (take i row))) w.0
  woken_more queue [] i d w l e = absurd (omega arith)
  woken_more queue (x ∷ row) zero d w l e = ap (λ o. woken tasks queue (items_of (o ∷ []))) e
  woken_more queue (Some v ∷ row) (suc i) d w l e = woken_more (put_back tasks queue v.0) row i d w (omega arith) e
  woken_more queue (None ∷ row) (suc i) d w l e = woken_more queue row i d w (omega arith) e

  -- an empty place more in the row
  pub woken_same : (queue : List ℕ) (row : List (Option TaskId)) (i : ℕ) (d : Option TaskId) → i < length row → get_or row i d ≡ None → woken tasks queue (items_of (take (suc i) row)) ≡ woken tasks queue (items_of (take i row))
  woken_same queue [] i d l e = absurd (omega arith)
  woken_same queue (x ∷ row) zero d l e = ap (λ o. woken tasks queue (items_of (o ∷ []))) e
  woken_same queue (Some v ∷ row) (suc i) d l e = woken_same (put_back tasks queue v.0) row i d (omega arith) e
  woken_same queue (None ∷ row) (suc i) d l e = woken_same queue row i d (omega arith) e

  pub woken-append : (queue : List ℕ) (xs ys : List TaskId) → woken tasks queue (xs ++ ys) ≡ woken tasks (woken tasks queue xs) ys
  woken-append queue [] ys = refl
  woken-append queue (x ∷ xs) ys = woken-append (put_back tasks queue x.0) xs ys
