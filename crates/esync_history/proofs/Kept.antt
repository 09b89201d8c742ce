-- What holds between two turns is kept by them.
use Rattle.std.proofs.Common.{◌≡◌, ℕ, zero, suc, ◌+◌, ◌<◌, Bool, true, false, List, [], ◌∷◌, ◌++◌, length, take, Option, Some, None, inl, inr, refl, sym, ap, subst, ◌∙◌, arith, length-take, append-nil}
use Rattle.std.specs.Prelude.{slice_get, slice_set}
use Rattle.std.specs.List.{list_all}
use Rattle.std.proofs.lemmas.List.{length-set}
use Rattle.esync_base.specs.Listed.{is_in}
use Rattle.esync_base.specs.ListedLaws.{true_or_false, same_or_not, has_number-front, has_number-behind, has_number-before, distinct_back}
use Rattle.esync_base.specs.declared.waitqueue.TaskId.{TaskId}
use Rattle.esync_history.specs.Line.{Line, put_last}
use Rattle.esync_history.specs.StandingLaws.{get_set_other}
use Rattle.esync_history.specs.Todo.{Todo, has_ended, numbers_from, unended, put_back_task, put_back, woken, requeued, IsUnendedTask, IsUnended, IsOrderly}
use Rattle.esync_history.proofs.Lines.{same_line}

module _ {Ask Command : Type 0} (tasks : List (Todo Ask Command)) where
  -- a task that is there and hasn't ended is put at the back
  pub orderly_last : (room : ℕ) (queue : List ℕ) (k : ℕ) → IsOrderly tasks (record { room = room; numbers = queue }) → IsUnended tasks k → IsOrderly tasks (record { room = room; numbers = put_last queue k })
  orderly_last room queue k o u = elim (true_or_false (is_in k queue)) [
    | inl e ↦ rw e o
    | inr e ↦ rw e (record {
      room = o.room;
      distinct = distinct_back (λ n. n) queue k o.distinct e;
      unended = λ j q. elim (same_or_not j k) [
        | inl s ↦ subst (λ x. IsUnended tasks x) (sym s) u
        | inr ne ↦ o.unended j (sym (has_number-before (λ n. n) j queue k ne) ∙ q)
      ];
    })
  ]

  orderly_task : (room : ℕ) (queue : List ℕ) (k : ℕ) (p : Option (Todo Ask Command)) → slice_get tasks k ≡ p → IsOrderly tasks (record { room = room; numbers = queue }) → IsOrderly tasks (record { room = room; numbers = put_back_task p queue k })
  orderly_task room queue k None e o = o
  orderly_task room queue k (Some task) e o = elim (true_or_false (has_ended task)) [
    | inl h ↦ rw h o
    | inr h ↦ rw h (orderly_last room queue k o (subst (λ x. IsUnendedTask x) (sym e) h))
  ]

  pub orderly_put : (room : ℕ) (queue : List ℕ) (k : ℕ) → IsOrderly tasks (record { room = room; numbers = queue }) → IsOrderly tasks (record { room = room; numbers = put_back tasks queue k })
  orderly_put room queue k o = orderly_task room queue k (slice_get tasks k) refl o

  pub orderly_woken : (room : ℕ) (queue : List ℕ) (ws : List TaskId) → IsOrderly tasks (record { room = room; numbers = queue }) → IsOrderly tasks (record { room = room; numbers = woken tasks queue ws })
  orderly_woken room queue [] o = o
  orderly_woken room queue (w ∷ ws) o = orderly_woken room (put_back tasks queue w.0) ws (orderly_put room queue w.0 o)

  pub orderly_requeued : (room : ℕ) (queue : List ℕ) (ws : List TaskId) (back : Bool) (k : ℕ) → IsOrderly tasks (record { room = room; numbers = queue }) → IsOrderly tasks (record { room = room; numbers = requeued tasks queue ws back k })
  orderly_requeued room queue ws true k o = orderly_put room (woken tasks queue ws) k (orderly_woken room queue ws o)
  orderly_requeued room queue ws false k o = orderly_woken room queue ws o

  -- the same of queues that are told by equations
  pub orderly_back : (queue after : Line) (k : ℕ) → IsOrderly tasks queue → after ≡ record { room = queue.room; numbers = put_back tasks queue.numbers k } → IsOrderly tasks after
  orderly_back queue after k o e = subst (λ q. IsOrderly tasks q) (sym e) (orderly_put queue.room queue.numbers k o)

  -- the task at the front leaves the queue, and its acts change
  pub orderly_taken : (room : ℕ) (behind : List ℕ) (k : ℕ) (left : Todo Ask Command) → IsOrderly tasks (record { room = room; numbers = k ∷ behind }) → IsOrderly (slice_set tasks k left) (record { room = room; numbers = behind })
  orderly_taken room behind k left o = record {
    room = o.room ∙ sym (length-set tasks k left);
    distinct = o.distinct.1;
    unended = λ j q. elim (same_or_not j k) [
      | inl s ↦ absurd (let h = o.distinct.0 in let i : is_in k behind ≡ true = subst (λ x. is_in x behind ≡ true) s q in cc)
      | inr ne ↦ subst (λ x. IsUnendedTask x) (sym (get_set_other tasks k j left ne)) (o.unended j (has_number-behind (λ n. n) j k behind ne ∙ q))
    ];
  }

pub orderly_turn : {Ask Command : Type 0} (tasks now : List (Todo Ask Command)) (queue popped after : Line) (k : ℕ) (left : Todo Ask Command) (ws : List TaskId) (back : Bool) → IsOrderly tasks queue → queue.numbers ≡ k ∷ popped.numbers → popped.room ≡ queue.room → now ≡ slice_set tasks k left → after ≡ record { room = popped.room; numbers = requeued now popped.numbers ws back k } → IsOrderly (slice_set tasks k left) after
orderly_turn tasks now queue popped after k left ws back o front room e f =
    let same : queue ≡ record { room = popped.room; numbers = k ∷ popped.numbers } = same_line _ _ _ _ (sym room) front in
    let taken = orderly_taken tasks popped.room popped.numbers k left (subst (λ q. IsOrderly tasks q) same o) in
    subst (λ q. IsOrderly (slice_set tasks k left) q) (sym f) (subst (λ ts. IsOrderly (slice_set tasks k left) (record { room = popped.room; numbers = requeued ts popped.numbers ws back k })) (sym e)
    (orderly_requeued (slice_set tasks k left) popped.room popped.numbers ws back k taken))

module _ {Ask Command : Type 0} where
  -- the numbers of the tasks that haven't ended, of two lists of tasks
  pub numbers-append : (k : ℕ) (xs ys : List (Todo Ask Command)) → numbers_from k (xs ++ ys) ≡ numbers_from k xs ++ numbers_from (k + length xs) ys
  numbers-append k [] ys = ap (λ n. numbers_from n ys) (let n : k ≡ k + 0 = omega arith in n)
  numbers-append k (x ∷ xs) ys =
      let n : k + suc (length xs) ≡ k + 1 + length xs = omega arith in
      elim (true_or_false (has_ended x)) [
        | inl e ↦ rw (e, n) (numbers-append (k + 1) xs ys)
        | inr e ↦ rw (e, n) (ap (λ ns. k ∷ ns) (numbers-append (k + 1) xs ys))
      ]

  -- each of them is that of a task
  pub numbers_within : (k : ℕ) (xs : List (Todo Ask Command)) (j : ℕ) → is_in j (numbers_from k xs) ≡ true → j < k + length xs
  numbers_within k [] j e = absurd cc
  numbers_within k (x ∷ xs) j e = elim (true_or_false (has_ended x)) [
    | inl h ↦ (let q = rw h at e in omega (arith, numbers_within (k + 1) xs j q))
    | inr h ↦ (let q = rw h at e in elim (same_or_not j k) [
      | inl s ↦ omega arith
      | inr ne ↦ omega (arith, numbers_within (k + 1) xs j (sym (has_number-behind (λ n. n) j k (numbers_from (k + 1) xs) ne) ∙ q))
    ])
  ]

  take_one_more : (tasks : List (Todo Ask Command)) (i : ℕ) (x : Todo Ask Command) → slice_get tasks i ≡ Some x → take (suc i) tasks ≡ take i tasks ++ x ∷ []
  take_one_more [] i x e = absurd cc
  take_one_more (y ∷ tasks) zero x e = (let s : y ≡ x = cc in ap (λ z. z ∷ []) s)
  take_one_more (y ∷ tasks) (suc i) x e = ap (λ zs. y ∷ zs) (take_one_more tasks i x e)

  there_or_past : (tasks : List (Todo Ask Command)) (i : ℕ) → i < length tasks → (x : Todo Ask Command) × (slice_get tasks i ≡ Some x)
  there_or_past [] i l = absurd (omega arith)
  there_or_past (y ∷ tasks) zero l = (y, refl)
  there_or_past (y ∷ tasks) (suc i) l = there_or_past tasks i (omega arith)

  -- a task more is put in the queue
  pub unended_more : (tasks : List (Todo Ask Command)) (i : ℕ) → i < length tasks → unended (take (suc i) tasks) ≡ put_back tasks (unended (take i tasks)) i
  unended_more tasks i l =
      let t = there_or_past tasks i l in
      let x = t.0 in
      let n : 0 + length (take i tasks) ≡ i = omega (arith, length-take i tasks) in
      let apart : is_in i (unended (take i tasks)) ≡ false = elim (true_or_false (is_in i (unended (take i tasks)))) [
        | inl e ↦ absurd (omega (arith, n, numbers_within 0 (take i tasks) i e))
        | inr e ↦ e
      ] in
      ap unended (take_one_more tasks i x t.1) ∙ numbers-append 0 (take i tasks) (x ∷ []) ∙ rw (t.1, n) (elim (true_or_false (has_ended x)) [
        | inl e ↦ rw e (append-nil (unended (take i tasks)))
        | inr e ↦ rw (e, apart) refl
      ])

one_unended : {Ask Command : Type 0} (tasks : List (Todo Ask Command)) (k : ℕ) → IsUnended tasks k → list_all has_ended tasks ≡ false
one_unended [] k h = absurd h
one_unended (t ∷ tasks) zero h = rw h refl
one_unended (t ∷ tasks) (suc k) h = elim (true_or_false (has_ended t)) [ inl e ↦ rw e (one_unended tasks k h) | inr e ↦ rw e refl ]

-- while a task is queued, not all have ended
pub not_all_ended : {Ask Command : Type 0} (tasks : List (Todo Ask Command)) (queue : Line) (numbers : List ℕ) → IsOrderly tasks queue → queue.numbers ≡ numbers → (numbers ≡ [] → ⊥) → list_all has_ended tasks ≡ false
not_all_ended tasks queue [] o e n = absurd (n refl)
not_all_ended tasks queue (k ∷ ks) o e n = one_unended tasks k (o.unended k (subst (λ ns. is_in k ns ≡ true) (sym e) (has_number-front (λ n. n) k ks)))
