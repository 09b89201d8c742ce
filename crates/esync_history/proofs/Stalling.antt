-- The tasks that a turn queues: each other one that was queued, each whose waker was handed out, and its own, if it goes to the back.
use Rattle.std.proofs.Common.{◌≡◌, ℕ, Bool, true, false, List, [], ◌∷◌, ◌++◌, map, Option, Some, None, inl, inr, sym, ap, subst, ◌∙◌}
use Rattle.std.specs.Prelude.{slice_get}
use Rattle.esync_base.specs.declared.waitqueue.TaskId.{TaskId}
use Rattle.esync_base.specs.Listed.{is_in}
use Rattle.esync_base.specs.ListedLaws.{true_or_false, same_or_not, has_number-behind, has_number-back, has_number-before}
use Rattle.esync_base.specs.Registration.{IsAmong}
use Rattle.esync_machine.specs.Runs.{Semantics, Step, AtSome, HandsOut, OwedAreIdle, IdleIsPending, OnlyLiveArePolled}
use Rattle.esync_machine.specs.Keeps.{KeepsRequests}
use Rattle.esync_history.specs.Line.{put_last}
use Rattle.esync_history.specs.Todo.{Todo, Executing, has_ended, put_back_task, put_back, woken, requeued}
use Rattle.esync_history.specs.Turns.{wakes_in, IsTurn}
use Rattle.esync_history.specs.Standing.{AreStanding, AreStalled}
use Rattle.esync_history.specs.StandingLaws.{get_set_here, standing_after, all_stalled}
use Rattle.esync_history.proofs.Turning.{woken-append}

module _ {S Ask Command Reply : Type 0} (X : Semantics S Command Reply TaskId) (starting : ℕ → Ask → Command) (L : KeepsRequests X.meaning) (started : (r : ℕ) (ask : Ask) → X.meaning.starts (starting r ask) ≡ Some r) (equal : (v w : TaskId) → X.meaning.same v w ≡ true → v ≡ w) where
  module _ (tasks : List (Todo Ask Command)) where
    queued_put_last : (queue : List ℕ) (j k : ℕ) → is_in j queue ≡ true → is_in j (put_last queue k) ≡ true
    queued_put_last queue j k e = elim (true_or_false (is_in k queue)) [
      | inl h ↦ rw h e
      | inr h ↦ rw h (elim (same_or_not j k) [
        | inl s ↦ subst (λ x. is_in x (queue ++ k ∷ []) ≡ true) (sym s) (has_number-back (λ n. n) queue k)
        | inr ne ↦ has_number-before (λ n. n) j queue k ne ∙ e
      ])
    ]

    queued_put_task : (p : Option (Todo Ask Command)) (queue : List ℕ) (j k : ℕ) → is_in j queue ≡ true → is_in j (put_back_task p queue k) ≡ true
    queued_put_task None queue j k e = e
    queued_put_task (Some task) queue j k e = elim (true_or_false (has_ended task)) [ inl h ↦ rw h e | inr h ↦ rw h (queued_put_last queue j k e) ]

    queued_put : (queue : List ℕ) (j k : ℕ) → is_in j queue ≡ true → is_in j (put_back tasks queue k) ≡ true
    queued_put queue j k e = queued_put_task (slice_get tasks k) queue j k e

    queued_woken : (queue : List ℕ) (ws : List TaskId) (j : ℕ) → is_in j queue ≡ true → is_in j (woken tasks queue ws) ≡ true
    queued_woken queue [] j e = e
    queued_woken queue (w ∷ ws) j e = queued_woken (put_back tasks queue w.0) ws j (queued_put queue j w.0 e)

    -- a task that is queued stays so for the rest of the turn
    queued_requeued : (queue : List ℕ) (ws : List TaskId) (back : Bool) (k j : ℕ) → is_in j (woken tasks queue ws) ≡ true → is_in j (requeued tasks queue ws back k) ≡ true
    queued_requeued queue ws true k j e = queued_put (woken tasks queue ws) j k e
    queued_requeued queue ws false k j e = e

    queued_behind_requeued : (queue : List ℕ) (ws : List TaskId) (back : Bool) (k j : ℕ) → is_in j queue ≡ true → is_in j (requeued tasks queue ws back k) ≡ true
    queued_behind_requeued queue ws back k j e = queued_requeued queue ws back k j (queued_woken queue ws j e)

    last_queued : (queue : List ℕ) (k : ℕ) → is_in k (put_last queue k) ≡ true
    last_queued queue k = elim (true_or_false (is_in k queue)) [ inl h ↦ rw h h | inr h ↦ rw h (has_number-back (λ n. n) queue k) ]

    put_queued : (queue : List ℕ) (k : ℕ) (task : Todo Ask Command) → slice_get tasks k ≡ Some task → has_ended task ≡ false → is_in k (put_back tasks queue k) ≡ true
    put_queued queue k task e h = rw (e, h) (last_queued queue k)

    -- the task whose act is over is queued, unless it has ended
    over_queued : (queue : List ℕ) (ws : List TaskId) (back : Bool) (k : ℕ) (task : Todo Ask Command) → back ≡ true → slice_get tasks k ≡ Some task → has_ended task ≡ false → is_in k (requeued tasks queue ws back k) ≡ true
    over_queued queue ws true k task o e h = put_queued (woken tasks queue ws) k task e h
    over_queued queue ws false k task o e h = absurd cc

    among_queued : (queue : List ℕ) (ws : List TaskId) (k : ℕ) (task : Todo Ask Command) → slice_get tasks k ≡ Some task → has_ended task ≡ false → IsAmong X.meaning.same (record { 0 = k }) ws → is_in k (woken tasks queue ws) ≡ true
    among_queued queue [] k task e h a = absurd cc
    among_queued queue (v ∷ ws) k task e h a = elim (true_or_false (X.meaning.same v (record { 0 = k }))) [
      | inl s ↦ (
          let n : v.0 ≡ k = ap (λ x. x.0) (equal v (record { 0 = k }) s) in
          queued_woken (put_back tasks queue v.0) ws k (subst (λ x. is_in k (put_back tasks queue x) ≡ true) (sym n) (put_queued queue k task e h)))
      | inr s ↦ among_queued (put_back tasks queue v.0) ws k task e h (let b = rw s at a in b)
    ]

    -- a task whose waker was handed out is queued, unless it has ended
    handed_queued : (queue : List ℕ) (steps : List (Step X.meaning.Object Command Reply)) (k : ℕ) (task : Todo Ask Command) → slice_get tasks k ≡ Some task → has_ended task ≡ false → AtSome (λ s. HandsOut X.meaning s.reply (record { 0 = k })) steps → is_in k (woken tasks queue (wakes_in X.meaning (map (λ s. s.reply) steps))) ≡ true
    handed_queued queue [] k task e h a = absurd a
    handed_queued queue (s ∷ steps) k task e h (inl out) =
        rw (woken-append tasks queue (X.meaning.wakes s.reply) (wakes_in X.meaning (map (λ s. s.reply) steps))) (queued_woken (woken tasks queue (X.meaning.wakes s.reply)) (wakes_in X.meaning (map (λ s. s.reply) steps)) k (among_queued queue (X.meaning.wakes s.reply) k task e h out))
    handed_queued queue (s ∷ steps) k task e h (inr out) =
        rw (woken-append tasks queue (X.meaning.wakes s.reply) (wakes_in X.meaning (map (λ s. s.reply) steps))) (handed_queued (woken tasks queue (X.meaning.wakes s.reply)) steps k task e h out)

  pub standing_after_turn : (old new : Executing S Ask Command Reply) → IsTurn X starting old new → AreStanding X old.machine old.tasks old.queue → AreStanding X new.machine new.tasks new.queue
  standing_after_turn old new t o =
      let ws = wakes_in X.meaning (map (λ s. s.reply) t.steps) in
      let here : slice_get new.tasks t.number ≡ Some t.left = subst (λ xs. slice_get xs t.number ≡ Some t.left) (sym t.tasks) (get_set_here old.tasks t.number t.task t.left t.there) in
      standing_after X starting L started (λ j. is_in j old.queue ≡ true) (λ j. is_in j new.queue ≡ true) t.number old.machine new.machine old.tasks new.tasks t.task t.left t.steps t.back t.act t.run t.there t.tasks o
      (λ j ne e. ap (is_in j) t.queue ∙ queued_behind_requeued new.tasks t.behind ws t.back t.number j (sym (has_number-behind (λ n. n) j t.number t.behind ne) ∙ subst (λ ns. is_in j ns ≡ true) t.front e))
      (λ j a is h out. ap (is_in j) t.queue ∙ queued_requeued new.tasks t.behind ws t.back t.number j (handed_queued new.tasks t.behind t.steps j a is h out))
      (λ h b. ap (is_in t.number) t.queue ∙ over_queued new.tasks t.behind ws t.back t.number t.left b here h)

module _ {S Command Reply : Type 0} (X : Semantics S Command Reply TaskId) (idle : OwedAreIdle X) (pending : IdleIsPending X.meaning) (no_such : OnlyLiveArePolled X.meaning) where
  pub stalled_if_empty : {Ask : Type 0} (m : S) (tasks : List (Todo Ask Command)) (queue : List ℕ) → AreStanding X m tasks queue → queue ≡ [] → AreStalled X.meaning (X.object m) tasks
  stalled_if_empty m tasks queue standing empty = all_stalled X idle pending no_such (λ k. is_in k queue ≡ true) m tasks standing (λ k e. (let none = ap (is_in k) empty in absurd cc))
