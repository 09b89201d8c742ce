-- The queue and the states, as one task changes.
use Rattle.std.proofs.Common.{◌≡◌, ℕ, zero, suc, ◌+◌, ◌-◌, ◌<◌, ◌≤◌, ◌==◌, cond, List, [], ◌∷◌, ◌++◌, length, Option, Some, None, Result, Ok, Err, inl, inr, refl, sym, ap, subst, ◌∙◌, arith, length-append}
use Rattle.std.specs.Prelude.{slice_get, slice_set, sum_by, count_by, OnOk, OnErr, All, map}
use Rattle.std.proofs.lemmas.List.Sums.{sum_by-cons, sum_by_push}
use Rattle.esync_base.specs.ListedLaws.{same_or_not, equal_number, unequal_number}
use Rattle.esync_tasks.specs.declared.run_queue.TaskState.{TaskState}
use Rattle.esync_tasks.specs.declared.run_queue.TaskState.TheVariants.{Resting, Queued, Running, Woken, Ended}
use Rattle.std.specs.List.{range_with_len}
use Rattle.std.proofs.Math.ListN.{replicate, length-replicate}
use Rattle.std.proofs.lemmas.List.FromFn.{length-range_with_len, map-range_with_len_more}
use Rattle.esync_tasks.specs.RunQueue.{turns_due, IsOutside, IsOrderly, IsTurn, HasEnded, IsOwedIn, StayOwed, OthersStayOwed}
use Rattle.esync_tasks.specs.Counted.{queued_one, unended_one, IsCounted}
use Rattle.esync_tasks.proofs.Counting.{get_set_here, get_set_other, length_set, below_length, sum_set, sum_lt}

-- how often the number stands in the queue
abbrev pub times : ℕ → List ℕ → ℕ
times j queue = count_by (λ m. m == j) queue

-- 1 where the two are one number, and 0 otherwise
abbrev pub counts : ℕ → ℕ → ℕ
counts k j = cond (k == j) 1 0

pub times_front : (j k : ℕ) (queue : List ℕ) → times j (k ∷ queue) ≡ counts k j + times j queue
times_front j k queue = sum_by-cons (λ m. cond (m == j) 1 0) k queue

pub times_last : (j k : ℕ) (queue : List ℕ) → times j (queue ++ k ∷ []) ≡ times j queue + counts k j
times_last j k queue = sum_by_push (λ m. cond (m == j) 1 0) queue k

one_here : (k : ℕ) → counts k k ≡ 1
one_here k = rw (equal_number k k refl) refl

none_there : (j k : ℕ) → (j ≡ k → ⊥) → counts k j ≡ 0
none_there j k ne = rw (unequal_number k j (λ e. ne (sym e))) refl

-- a task goes over to another state, and its number into the queue or out of it
pub orderly_set : (n : ℕ) (states : List TaskState) (queue after : List ℕ) (k : ℕ) (s t : TaskState) → IsOrderly n (record { states = states; queue = queue }) → slice_get states k ≡ Some s → times k after + turns_due (Some s) ≡ times k queue + turns_due (Some t) → ((j : ℕ) → (j ≡ k → ⊥) → times j after ≡ times j queue) → IsOrderly n (record { states = slice_set states k t; queue = after })
orderly_set n states queue after k s t o e here there = record {
  count = length_set states k t ∙ o.count;
  once = λ j. elim (same_or_not j k) [
    | inl same ↦
        let at : turns_due (slice_get (slice_set states k t) k) ≡ turns_due (Some t) = ap turns_due (get_set_here states k s t e) in
        let was : times k queue ≡ turns_due (Some s) = o.once k ∙ ap turns_due e in
        let now : times k after ≡ turns_due (slice_get (slice_set states k t) k) = omega (arith, at, was, here) in
        subst (λ i. times i after ≡ turns_due (slice_get (slice_set states k t) i)) (sym same) now
    | inr ne ↦ there j ne ∙ o.once j ∙ sym (ap turns_due (get_set_other states k j t ne))
  ];
}

pub counted_set : (n : ℕ) (states : List TaskState) (queue after : List ℕ) (left less k : ℕ) (s t : TaskState) → IsCounted n states queue left → slice_get states k ≡ Some s → times k after + turns_due (Some s) ≡ times k queue + turns_due (Some t) → ((j : ℕ) → (j ≡ k → ⊥) → times j after ≡ times j queue) → length after + turns_due (Some s) ≡ length queue + turns_due (Some t) → less + unended_one s ≡ left + unended_one t → IsCounted n (slice_set states k t) after less
counted_set n states queue after left less k s t i e here there longer fewer =
    let queued = sum_set queued_one states k s t e in
    let unended = sum_set unended_one states k s t e in
    record {
      orderly = orderly_set n states queue after k s t i.orderly e here there;
      queued = omega (arith, queued, i.queued, longer);
      left = omega (arith, unended, i.left, fewer);
    }

pub outside_state : (p : Option TaskState) → IsOutside p → (s : TaskState) × (p ≡ Some s) × (turns_due (Some s) ≡ 0) × (unended_one s ≡ 1)
outside_state (Some Resting) h = (Resting, refl, refl, refl)
outside_state (Some Running) h = (Running, refl, refl, refl)
outside_state (Some Woken) h = (Woken, refl, refl, refl)
outside_state (Some Queued) h = absurd h
outside_state (Some Ended) h = absurd h
outside_state None h = absurd h

pub running_is_outside : (p : Option TaskState) → IsTurn p → IsOutside p
running_is_outside (Some Running) h = tt
running_is_outside (Some Woken) h = tt
running_is_outside (Some Resting) h = absurd h
running_is_outside (Some Queued) h = absurd h
running_is_outside (Some Ended) h = absurd h
running_is_outside None h = absurd h

most_one : (s : TaskState) → queued_one s ≤ 1
most_one Resting = omega arith
most_one Queued = omega arith
most_one Running = omega arith
most_one Woken = omega arith
most_one Ended = omega arith

pub outside_below : (n : ℕ) (states : List TaskState) (queue : List ℕ) (left k : ℕ) → IsCounted n states queue left → IsOutside (slice_get states k) → k < length states
outside_below n states queue left k i h = let (s, e, none, one) = outside_state (slice_get states k) h in below_length states k s e

-- a task that isn't queued finds a place in the queue
pub outside_room : (n : ℕ) (states : List TaskState) (queue : List ℕ) (left k : ℕ) → IsCounted n states queue left → IsOutside (slice_get states k) → length queue < n
outside_room n states queue left k i h =
    let (s, e, none, one) = outside_state (slice_get states k) h in
    omega (arith, sum_lt queued_one most_one states k s e none, i.queued, i.orderly.count)

-- a task that isn't queued goes to the end of the queue
pub counted_last : (n : ℕ) (states : List TaskState) (queue : List ℕ) (left k : ℕ) → IsCounted n states queue left → IsOutside (slice_get states k) → IsCounted n (slice_set states k Queued) (queue ++ k ∷ []) left
counted_last n states queue left k i h =
    let (s, e, none, one) = outside_state (slice_get states k) h in
    counted_set n states queue (queue ++ k ∷ []) left left k s Queued i e
    (omega (arith, times_last k k queue, one_here k, none))
    (λ j ne. omega (arith, times_last j k queue, none_there j k ne))
    (omega (arith, length-append queue (k ∷ []), none))
    (omega (arith, one))

-- a task that stays outside the queue is marked
pub counted_mark : (n : ℕ) (states : List TaskState) (queue : List ℕ) (left k : ℕ) (t : TaskState) → IsCounted n states queue left → IsOutside (slice_get states k) → IsOutside (Some t) → IsCounted n (slice_set states k t) queue left
counted_mark n states queue left k t i h h2 =
    let (s, e, none, one) = outside_state (slice_get states k) h in
    let (u, same, nothing, other) = outside_state (Some t) h2 in
    let is : t ≡ u = cc in
    let none2 : turns_due (Some t) ≡ 0 = rw is nothing in
    let one2 : unended_one t ≡ 1 = rw is other in
    counted_set n states queue queue left left k s t i e (omega (arith, none, none2)) (λ j ne. refl) (omega (arith, none, none2)) (omega (arith, one, one2))

-- a task that isn't queued ends
pub counted_end : (n : ℕ) (states : List TaskState) (queue : List ℕ) (left k : ℕ) → IsCounted n states queue left → IsOutside (slice_get states k) → (0 < left) × IsCounted n (slice_set states k Ended) queue (left - 1)
counted_end n states queue left k i h =
    let (s, e, none, one) = outside_state (slice_get states k) h in
    let some : 0 < left = omega (arith, sum_set unended_one states k s Ended e, i.left, one) in
    (some, counted_set n states queue queue left (left - 1) k s Ended i e (omega (arith, none)) (λ j ne. refl) (omega (arith, none)) (omega (arith, one, some)))

-- the first of the queue is queued
pub first_queued : (n : ℕ) (states : List TaskState) (queue : List ℕ) (left k : ℕ) → IsCounted n states (k ∷ queue) left → slice_get states k ≡ Some Queued
first_queued n states queue left k i =
    let once : 1 + times k queue ≡ turns_due (slice_get states k) = omega (arith, i.orderly.once k, times_front k k queue, one_here k) in
    queued_from (slice_get states k) (omega (arith, once))
  where
    queued_from : (p : Option TaskState) → 0 < turns_due p → p ≡ Some Queued
    queued_from (Some Queued) h = refl
    queued_from (Some Resting) h = absurd (omega arith)
    queued_from (Some Running) h = absurd (omega arith)
    queued_from (Some Woken) h = absurd (omega arith)
    queued_from (Some Ended) h = absurd (omega arith)
    queued_from None h = absurd (omega arith)

-- the turn of the first begins
pub counted_take : (n : ℕ) (states : List TaskState) (queue : List ℕ) (left k : ℕ) → IsCounted n states (k ∷ queue) left → IsCounted n (slice_set states k Running) queue left
counted_take n states queue left k i =
    counted_set n states (k ∷ queue) queue left left k Queued Running i (first_queued n states queue left k i)
    (omega (arith, times_front k k queue, one_here k))
    (λ j ne. omega (arith, times_front j k queue, none_there j k ne))
    (omega arith)
    refl

-- there was room, so the item stands at the end
pub pushed : {A : Type 0} (n : ℕ) (old new : List A) (x : A) (r : Result (Unit {0}) A) → length old < n → OnErr r (length old ≡ n) → OnOk r (new ≡ old ++ x ∷ []) → new ≡ old ++ x ∷ []
pushed n old new x (Ok done) room full ok = ok
pushed n old new x (Err back) room full ok = absurd (omega arith)

pub all_from_none_left : (states : List TaskState) → sum_by unended_one states ≡ 0 → All HasEnded states
all_from_none_left [] e k d l = absurd (omega arith)
all_from_none_left (s ∷ ss) e zero d l = ended_from s (omega (arith, sum_by-cons unended_one s ss, e))
  where
    ended_from : (s : TaskState) → unended_one s ≡ 0 → HasEnded s
    ended_from Ended e = refl
    ended_from Resting e = absurd (omega arith)
    ended_from Queued e = absurd (omega arith)
    ended_from Running e = absurd (omega arith)
    ended_from Woken e = absurd (omega arith)
all_from_none_left (s ∷ ss) e (suc k) d l = all_from_none_left ss (omega (arith, sum_by-cons unended_one s ss, e)) k d (omega arith)

pub none_left_from_all : (states : List TaskState) → All HasEnded states → sum_by unended_one states ≡ 0
none_left_from_all [] all = refl
none_left_from_all (s ∷ ss) all =
    let here : unended_one s ≡ 0 = ap unended_one (all 0 s (omega arith)) in
    omega (arith, here, sum_by-cons unended_one s ss, none_left_from_all ss (λ k d l. all (suc k) d (omega arith)))

-- n tasks that are queued, in order
times_behind : (a n j : ℕ) → j < a → times j (range_with_len a n) ≡ 0
times_behind a zero j l = refl
times_behind a (suc n) j l = omega (arith, times_front j a (range_with_len (a + 1) n), none_there j a (λ e. omega arith), times_behind (a + 1) n j (omega arith))

times_range : (a n i : ℕ) → times (a + i) (range_with_len a n) ≡ turns_due (slice_get (replicate n Queued) i)
times_range a zero i = refl
times_range a (suc n) zero =
    let same : a + 0 ≡ a = omega arith in
    rw same (omega (arith, times_front a a (range_with_len (a + 1) n), one_here a, times_behind (a + 1) n a (omega arith)))
times_range a (suc n) (suc i) =
    let next : (a + 1) + i ≡ a + suc i = omega arith in
    let here = none_there (a + suc i) a (λ e. omega arith) in
    let behind : times (a + suc i) (range_with_len (a + 1) n) ≡ turns_due (slice_get (replicate n Queued) i) = subst (λ j. times j (range_with_len (a + 1) n) ≡ turns_due (slice_get (replicate n Queued) i)) next (times_range (a + 1) n i) in
    omega (arith, times_front (a + suc i) a (range_with_len (a + 1) n), here, behind)

sum_replicate : (f : TaskState → ℕ) (n : ℕ) → f Queued ≡ 1 → sum_by f (replicate n Queued) ≡ n
sum_replicate f zero one = refl
sum_replicate f (suc n) one = omega (arith, sum_by-cons f Queued (replicate n Queued), one, sum_replicate f n one)

pub counted_new : (n : ℕ) → IsCounted n (replicate n Queued) (range_with_len 0 n) n
counted_new n = record {
  orderly = record {
    count = length-replicate n Queued;
    once = λ j. let zero_off : 0 + j ≡ j = omega arith in subst (λ i. times i (range_with_len 0 n) ≡ turns_due (slice_get (replicate n Queued) j)) zero_off (times_range 0 n j);
  };
  queued = length-range_with_len 0 n ∙ sym (sum_replicate queued_one n refl);
  left = sym (sum_replicate unended_one n refl);
}

pub range_more : (n : ℕ) → range_with_len 0 (n + 1) ≡ range_with_len 0 n ++ n ∷ []
range_more n = sym (map_same (range_with_len 0 (n + 1))) ∙ (map-range_with_len_more (λ k. k) 0 n n (omega arith) ∙ ap (λ xs. xs ++ n ∷ []) (map_same (range_with_len 0 n)))
  where
    map_same : (xs : List ℕ) → map (λ k. k) xs ≡ xs
    map_same [] = refl
    map_same (x ∷ xs) = ap (λ ys. x ∷ ys) (map_same xs)

-- whoever is owed a turn, as one task goes over to another state
pub stay_set : (states : List TaskState) (queue after : List ℕ) (k : ℕ) (s t : TaskState) → slice_get states k ≡ Some s → (IsOwedIn (Some s) → IsOwedIn (Some t)) → StayOwed (record { states = states; queue = queue }) (record { states = slice_set states k t; queue = after })
stay_set states queue after k s t e keeps j owed = elim (same_or_not j k) [
  | inl same ↦
      let was : IsOwedIn (slice_get states k) = subst (λ i. IsOwedIn (slice_get states i)) same owed in
      subst (λ i. IsOwedIn (slice_get (slice_set states k t) i)) (sym same) (subst IsOwedIn (sym (get_set_here states k s t e)) (keeps (subst IsOwedIn e was)))
  | inr ne ↦ subst IsOwedIn (sym (get_set_other states k j t ne)) owed
]

pub others_set : (states : List TaskState) (queue after : List ℕ) (k : ℕ) (t : TaskState) → OthersStayOwed k (record { states = states; queue = queue }) (record { states = slice_set states k t; queue = after })
others_set states queue after k t j ne owed = subst IsOwedIn (sym (get_set_other states k j t ne)) owed
