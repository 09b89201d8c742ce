-- What acts make of the tasks without a turn, under any order of turns.
use Rattle.std.proofs.Common.{◌≡◌, ℕ, zero, suc, Bool, true, false, ◌||◌, List, [], ◌∷◌, map, Option, Some, None, ◌⊎◌, inl, inr, refl, sym, ap, subst, ◌∙◌, ◌==◌}
use Rattle.std.specs.Prelude.{slice_get, slice_set}
use Rattle.std.specs.List.{list_any}
use Rattle.esync_base.specs.declared.waitqueue.TaskId.{TaskId}
use Rattle.esync_base.specs.ListedLaws.{true_or_false, same_number, equal_number, same_or_not}
use Rattle.esync_machine.specs.Runs.{Meaning, Semantics, Step, Each, AtSome, Polls, HandsOut, OwedAreIdle, IdleIsPending, OnlyLiveArePolled}
use Rattle.esync_machine.specs.Keeps.{KeepsRequests}
use Rattle.esync_machine.specs.Histories.{Turn, Through}
use Rattle.esync_history.specs.declared.executor.Act.{Act}
use Rattle.esync_history.specs.declared.executor.Act.TheVariants.{Await, Call}
use Rattle.esync_history.specs.Suited.{awaits_at, some_awaits_at, IsSuitedTask, AreSuited}
use Rattle.esync_history.specs.Todo.{Todo, fresh, has_ended}
use Rattle.esync_history.specs.Turns.{IsPoll, Acts}
use Rattle.esync_history.specs.Standing.{Uses, ArePlain, IsStanding, AreStandingBut, WouldMiss, WouldWait, AreStalled}

-- equal wakers name the same task
pub same_task : (v w : TaskId) → (v.0 == w.0) ≡ true → v ≡ w
same_task v w e = ap (λ (x : ℕ). record { 0 = x }) (same_number v.0 w.0 e)

pub get_set_here : {A : Type 0} (xs : List A) (i : ℕ) (x y : A) → slice_get xs i ≡ Some x → slice_get (slice_set xs i y) i ≡ Some y
get_set_here [] i x y e = absurd cc
get_set_here (z ∷ xs) zero x y e = refl
get_set_here (z ∷ xs) (suc i) x y e = get_set_here xs i x y e

pub get_set_other : {A : Type 0} (xs : List A) (i j : ℕ) (y : A) → (j ≡ i → ⊥) → slice_get (slice_set xs i y) j ≡ slice_get xs j
get_set_other [] i j y ne = refl
get_set_other (z ∷ xs) zero zero y ne = absurd (ne refl)
get_set_other (z ∷ xs) zero (suc j) y ne = refl
get_set_other (z ∷ xs) (suc i) zero y ne = refl
get_set_other (z ∷ xs) (suc i) (suc j) y ne = get_set_other xs i j y (λ e. ne (ap suc e))

-- after the turn, a task is the one whose turn it was, or is unchanged
task_after : {A : Type 0} (tasks after : List A) (k : ℕ) (task left : A) (j : ℕ) (t : A) → slice_get tasks k ≡ Some task → after ≡ slice_set tasks k left → slice_get after j ≡ Some t → ((j ≡ k) × (t ≡ left)) ⊎ ((j ≡ k → ⊥) × (slice_get tasks j ≡ Some t))
task_after tasks after k task left j t there e h =
    let g = subst (λ xs. slice_get xs j ≡ Some t) e h in
    elim (same_or_not j k) [
      | inl s ↦ inl (s, (let here = get_set_here tasks k task left there in let g1 = subst (λ x. slice_get (slice_set tasks k left) x ≡ Some t) s g in cc))
      | inr ne ↦ inr (ne, sym (get_set_other tasks k j left ne) ∙ g)
    ]

module _ {S Ask Command Reply : Type 0} (X : Semantics S Command Reply TaskId) (starting : ℕ → Ask → Command) (L : KeepsRequests X.meaning) (started : (r : ℕ) (ask : Ask) → X.meaning.starts (starting r ask) ≡ Some r) where
  -- the step neither polls nor starts the request
  abbrev Avoids : ℕ → Step X.meaning.Object Command Reply → Type 0
  Avoids r s = (Polls X.meaning s.command r → ⊥) × (X.meaning.starts s.command ≡ Some r → ⊥)

  avoids_poll : (r t : ℕ) (w : TaskId) (s : Step X.meaning.Object Command Reply) → X.meaning.polls s.command ≡ Some (t, w) → (t ≡ r → ⊥) → Avoids r s
  avoids_poll r t w s e ne = (
    (λ p. ne (let q : ◌≡◌ {A = ℕ × TaskId} (t, w) (r, p.0) = cc in ap (λ x. x.0) q)),
    (λ q. let n = L.apart s.command r q in absurd cc),
  )

  avoids_start : (r t : ℕ) (s : Step X.meaning.Object Command Reply) → X.meaning.starts s.command ≡ Some t → (t ≡ r → ⊥) → Avoids r s
  avoids_start r t s e ne = (
    (λ p. let n = L.apart s.command t e in let q = p.1 in absurd cc),
    (λ q. ne cc),
  )

  avoids_call : (r : ℕ) (s : Step X.meaning.Object Command Reply) (c : Command) → s.command ≡ c → X.meaning.starts c ≡ None → X.meaning.polls c ≡ None → Avoids r s
  avoids_call r s c e starts polls = (
    (λ p. let q = p.1 in let n = ap X.meaning.polls e in absurd cc),
    (λ q. let n = ap X.meaning.starts e in absurd cc),
  )

  -- a step that neither polls nor starts the request leaves it standing, or hands its waker out
  stands_step : (old mid : S) (s : Step X.meaning.Object Command Reply) (r : ℕ) (w : TaskId) → Turn X old s.command s.reply mid → Avoids r s → IsStanding X old r w → HandsOut X.meaning s.reply w ⊎ IsStanding X mid r w
  stands_step old mid s r w t v (inl dead) =
      inr (inl (λ live. elim (L.made (X.object old) (X.object mid) s.command s.reply r t.allowed live) [ inl starts ↦ v.1 starts | inr was ↦ dead was ]))
  stands_step old mid s r w t v (inr owes) = elim (L.decided (X.object old) s.command r) [
    | inl ends ↦ inr (inl (L.gone (X.object old) (X.object mid) s.command s.reply r t.allowed ends))
    | inr none ↦ elim (t.kept r w owes v.0 none) [ inl out ↦ inl out | inr kept ↦ inr (inr kept) ]
  ]

  stands_through : (old new : S) (steps : List (Step X.meaning.Object Command Reply)) (r : ℕ) (w : TaskId) → Through X old steps new → Each (Avoids r) steps → IsStanding X old r w → AtSome (λ s. HandsOut X.meaning s.reply w) steps ⊎ IsStanding X new r w
  stands_through old new [] r w h v stands = inr (subst (λ m. IsStanding X m r w) (sym h) stands)
  stands_through old new (s ∷ steps) r w h v stands = elim (stands_step old h.0 s r w h.2 v.0 stands) [
    | inl out ↦ inl (inl out)
    | inr kept ↦ elim (stands_through h.0 new steps r w h.3 v.1 kept) [ inl out ↦ inl (inr out) | inr still ↦ inr still ]
  ]

  poll_uses : (w : TaskId) (t : ℕ) (s : Step X.meaning.Object Command Reply) (back : Bool) (request : Option ℕ) (r : ℕ) → IsPoll X.meaning w t s back request → request ≡ Some r → t ≡ r
  poll_uses w t s back request r h e = elim h.1 [ inl q ↦ (let n = q.0 in cc) | inr q ↦ (let n = q.0 in absurd cc) ]

  awaits_first : (r t : ℕ) (ask : Ask) (acts : List (Act Ask Command)) → t ≡ r → list_any (awaits_at r) (Await t ask ∷ acts) ≡ true
  awaits_first r t ask acts e = rw (equal_number t r e) refl

  awaits_later : (r : ℕ) (act : Act Ask Command) (acts : List (Act Ask Command)) → list_any (awaits_at r) acts ≡ true → list_any (awaits_at r) (act ∷ acts) ≡ true
  awaits_later r act acts e = elim (true_or_false (awaits_at r act)) [ inl h ↦ rw h refl | inr h ↦ rw h e ]

  -- the steps of an act neither poll nor start a request that the act's task doesn't use
  acts_avoid : (w : TaskId) (request : Option ℕ) (acts : List (Act Ask Command)) (steps : List (Step X.meaning.Object Command Reply)) (back : Bool) (left : Todo Ask Command) (r : ℕ) → Acts X.meaning starting w request acts steps back left → (Uses r (record { request = request; acts = acts }) → ⊥) → ArePlain X.meaning acts → Each (Avoids r) steps
  acts_avoid w (Some t) acts steps back left r h unused p =
      subst (λ xs. Each (Avoids r) xs) (sym h.1) (avoids_poll r t w h.0 h.2.0 (λ e. unused (inl (ap Some e))), tt)
  acts_avoid w None [] steps back left r h unused p = absurd h
  acts_avoid w None (Await t ask ∷ acts) steps back left r h unused p =
      let s = h.0.0 in
      let ne : t ≡ r → ⊥ = λ e. unused (inr (awaits_first r t ask acts e)) in
      let first = avoids_start r t s (ap X.meaning.starts h.0.1 ∙ started t ask) ne in
      elim h.0.2 [
        | inl q ↦ subst (λ xs. Each (Avoids r) xs) (sym q.1) (first, tt)
        | inr q ↦ subst (λ xs. Each (Avoids r) xs) (sym q.1.1) (first, (avoids_poll r t w q.1.0 q.1.2.0 ne, tt))
      ]
  acts_avoid w None (Call c ∷ acts) steps back left r h unused p =
      subst (λ xs. Each (Avoids r) xs) (sym h.1) (avoids_call r h.0 c h.2 p.0 p.1, tt)

  acts_plain : (w : TaskId) (request : Option ℕ) (acts : List (Act Ask Command)) (steps : List (Step X.meaning.Object Command Reply)) (back : Bool) (left : Todo Ask Command) → Acts X.meaning starting w request acts steps back left → ArePlain X.meaning acts → ArePlain X.meaning left.acts
  acts_plain w (Some t) acts steps back left h p = subst (λ xs. ArePlain X.meaning xs) (sym h.3) p
  acts_plain w None [] steps back left h p = absurd h
  acts_plain w None (Await t ask ∷ acts) steps back left h p = subst (λ xs. ArePlain X.meaning xs) (sym h.1) p
  acts_plain w None (Call c ∷ acts) steps back left h p = subst (λ xs. ArePlain X.meaning xs) (sym h.5) p.2

  -- a request that a task uses after an act, it used before the act
  acts_use : (w : TaskId) (request : Option ℕ) (acts : List (Act Ask Command)) (steps : List (Step X.meaning.Object Command Reply)) (back : Bool) (left : Todo Ask Command) (r : ℕ) → Acts X.meaning starting w request acts steps back left → Uses r left → Uses r (record { request = request; acts = acts })
  acts_use w (Some t) acts steps back left r h (inl e) = inl (ap Some (poll_uses w t h.0 back left.request r h.2 e))
  acts_use w (Some t) acts steps back left r h (inr e) = inr (subst (λ xs. list_any (awaits_at r) xs ≡ true) h.3 e)
  acts_use w None [] steps back left r h u = absurd h
  acts_use w None (Await t ask ∷ acts) steps back left r h (inl e) = elim h.0.2 [
    | inl q ↦ (let n = q.3 in absurd cc)
    | inr q ↦ inr (awaits_first r t ask acts (poll_uses w t q.1.0 back left.request r q.1.2 e))
  ]
  acts_use w None (Await t ask ∷ acts) steps back left r h (inr e) = inr (awaits_later r (Await t ask) acts (subst (λ xs. list_any (awaits_at r) xs ≡ true) h.1 e))
  acts_use w None (Call c ∷ acts) steps back left r h (inl e) = (let n = h.4 in absurd cc)
  acts_use w None (Call c ∷ acts) steps back left r h (inr e) = inr (awaits_later r (Call c) acts (subst (λ xs. list_any (awaits_at r) xs ≡ true) h.5 e))

  poll_waits : (old mid : S) (w : TaskId) (t : ℕ) (s : Step X.meaning.Object Command Reply) (back : Bool) (request : Option ℕ) → Turn X old s.command s.reply mid → IsPoll X.meaning w t s back request → back ≡ false → (request ≡ Some t) × (HandsOut X.meaning s.reply w ⊎ X.Owes mid t w)
  poll_waits old mid w t s back request turn h e = elim h.2 [
    | inl q ↦ (elim h.1 [ inl stands ↦ stands.0 | inr left ↦ absurd (left.1 q.0) ], turn.registered t w h.0 q.0)
    | inr q ↦ (let n = q.1 in absurd cc)
  ]

  -- a task whose act isn't over waits for a waker that was registered or handed out
  act_waits : (w : TaskId) (request : Option ℕ) (acts : List (Act Ask Command)) (steps : List (Step X.meaning.Object Command Reply)) (back : Bool) (left : Todo Ask Command) (old new : S) → Acts X.meaning starting w request acts steps back left → back ≡ false → Through X old steps new → (r : ℕ) × (left.request ≡ Some r) × (AtSome (λ s. HandsOut X.meaning s.reply w) steps ⊎ X.Owes new r w)
  act_waits w (Some t) acts steps back left old new h e run =
      let run1 = subst (λ xs. Through X old xs new) h.1 run in
      let p = poll_waits old run1.0 w t h.0 back left.request run1.2 h.2 e in (
        t,
        p.0,
        elim p.1 [
          | inl out ↦ inl (subst (λ xs. AtSome (λ s. HandsOut X.meaning s.reply w) xs) (sym h.1) (inl out))
          | inr owes ↦ inr (subst (λ m. X.Owes m t w) (sym run1.3) owes)
        ],
      )
  act_waits w None [] steps back left old new h e run = absurd h
  act_waits w None (Await t ask ∷ acts) steps back left old new h e run = elim h.0.2 [
    | inl q ↦ (let n = q.2 in absurd cc)
    | inr q ↦ (
        let run1 = subst (λ xs. Through X old xs new) q.1.1 run in
        let p = poll_waits run1.0 run1.3.0 w t q.1.0 back left.request run1.3.2 q.1.2 e in (
          t,
          p.0,
          elim p.1 [
            | inl out ↦ inl (subst (λ xs. AtSome (λ s. HandsOut X.meaning s.reply w) xs) (sym q.1.1) (inr (inl out)))
            | inr owes ↦ inr (subst (λ m. X.Owes m t w) (sym run1.3.3) owes)
          ],
        ))
  ]
  act_waits w None (Call c ∷ acts) steps back left old new h e run = (let n = h.3 in absurd cc)

  -- An act of the task k. All tasks but k keep their turns, each woken task gets one, and so does k if it goes back.
  module _ (Had Has : ℕ → Type 0) (k : ℕ) (old new : S) (tasks after : List (Todo Ask Command)) (task left : Todo Ask Command) (steps : List (Step X.meaning.Object Command Reply)) (back : Bool) (act : Acts X.meaning starting (record { 0 = k }) task.request task.acts steps back left) (run : Through X old steps new) (there : slice_get tasks k ≡ Some task) (set : after ≡ slice_set tasks k left) (o : AreStandingBut X Had old tasks) (keeps : (j : ℕ) → (j ≡ k → ⊥) → Had j → Has j) (hands : (j : ℕ) (t : Todo Ask Command) → slice_get after j ≡ Some t → has_ended t ≡ false → AtSome (λ s. HandsOut X.meaning s.reply (record { 0 = j })) steps → Has j) (goes : has_ended left ≡ false → back ≡ true → Has k) where
    abbrev waker : TaskId
    waker = record { 0 = k }

    -- a request that a task uses after the turn, it used before the turn
    used_before : (j : ℕ) (a : Todo Ask Command) (r : ℕ) → slice_get after j ≡ Some a → Uses r a → (b : Todo Ask Command) × (slice_get tasks j ≡ Some b) × Uses r b
    used_before j a r h u = elim (task_after tasks after k task left j a there set h) [
      | inl s ↦ (task, subst (λ x. slice_get tasks x ≡ Some task) (sym s.0) there, acts_use waker task.request task.acts steps back left r act (subst (λ x. Uses r x) s.1 u))
      | inr s ↦ (a, s.1, u)
    ]

    apart_after : (i j : ℕ) (a b : Todo Ask Command) (r : ℕ) → slice_get after i ≡ Some a → slice_get after j ≡ Some b → Uses r a → Uses r b → i ≡ j
    apart_after i j a b r ha hb ua ub =
        let p = used_before i a r ha ua in
        let q = used_before j b r hb ub in
        o.apart i j p.0 q.0 r p.1 q.1 p.2 q.2

    plain_after : (j : ℕ) (a : Todo Ask Command) → slice_get after j ≡ Some a → ArePlain X.meaning a.acts
    plain_after j a h = elim (task_after tasks after k task left j a there set h) [
      | inl s ↦ subst (λ x. ArePlain X.meaning x.acts) (sym s.1) (acts_plain waker task.request task.acts steps back left act (o.plain k task there))
      | inr s ↦ o.plain j a s.1
    ]

    -- the task whose turn it was stands at a request, unless it ended or has another turn
    own_after : has_ended left ≡ false → (Has k → ⊥) → (r : ℕ) × (left.request ≡ Some r) × IsStanding X new r waker
    own_after h q =
        let here : slice_get after k ≡ Some left = subst (λ xs. slice_get xs k ≡ Some left) (sym set) (get_set_here tasks k task left there) in
        elim (true_or_false back) [
          | inl b ↦ absurd (q (goes h b))
          | inr waits ↦ (
              let p = act_waits waker task.request task.acts steps back left old new act waits run in
              (p.0, p.1, elim p.2 [ inl out ↦ absurd (q (hands k left here h out)) | inr owes ↦ inr owes ]))
        ]

    -- any further task without a turn stands at a request, as before
    other_after : (j : ℕ) (a : Todo Ask Command) → (j ≡ k → ⊥) → slice_get tasks j ≡ Some a → slice_get after j ≡ Some a → has_ended a ≡ false → (Has j → ⊥) → (r : ℕ) × (a.request ≡ Some r) × IsStanding X new r (record { 0 = j })
    other_after j a ne was is h q =
        let p = o.idle j a was h (λ e. q (keeps j ne e)) in
        let unused : Uses p.0 task → ⊥ = λ u. ne (o.apart j k a task p.0 was there (inl p.1) u) in
        let avoid = acts_avoid waker task.request task.acts steps back left p.0 act unused (o.plain k task there) in
        (p.0, p.1, elim (stands_through old new steps p.0 (record { 0 = j }) run avoid p.2) [ inl out ↦ absurd (q (hands j a is h out)) | inr stands ↦ stands ])

    pub standing_after : AreStandingBut X Has new after
    standing_after = record {
      apart = apart_after;
      plain = plain_after;
      idle = λ j a is h q. elim (task_after tasks after k task left j a there set is) [
        | inl s ↦ (
            let p = own_after (subst (λ x. has_ended x ≡ false) s.1 h) (subst (λ x. Has x → ⊥) s.0 q) in
            (p.0, ap (λ x. x.request) s.1 ∙ p.1, subst (λ x. IsStanding X new p.0 (record { 0 = x })) (sym s.0) p.2))
        | inr s ↦ other_after j a s.0 s.1 is h q
      ];
    }

module _ {S Command Reply : Type 0} (X : Semantics S Command Reply TaskId) (idle : OwedAreIdle X) (pending : IdleIsPending X.meaning) (no_such : OnlyLiveArePolled X.meaning) where
  -- a task that stands at a request would wait there, or miss it
  would_be_answered : (m : S) (r : ℕ) (w : TaskId) → IsStanding X m r w → WouldMiss X.meaning (X.object m) r ⊎ WouldWait X.meaning (X.object m) r
  would_be_answered m r w (inl dead) = inl (dead, λ c v a o2 polls allowed. no_such (X.object m) o2 c r v a polls dead allowed)
  would_be_answered m r w (inr owes) =
      let i = idle m r w owes in
      inr (i, λ c v a o2 polls allowed. (let p = i c v polls in pending (X.object m) o2 c r v p.0 a polls p.1 p.2 allowed))

  -- if no task has a turn, all tasks are stalled
  pub all_stalled : {Ask : Type 0} (HasTurn : ℕ → Type 0) (m : S) (tasks : List (Todo Ask Command)) → AreStandingBut X HasTurn m tasks → ((k : ℕ) → HasTurn k → ⊥) → AreStalled X.meaning (X.object m) tasks
  all_stalled HasTurn m tasks standing none k t there unended =
      let p = standing.idle k t there unended (none k) in
      (p.0, p.1, would_be_answered m p.0 (record { 0 = k }) p.2)

second_true : (a b : Bool) → b ≡ true → (a || b) ≡ true
second_true true b e = refl
second_true false b e = e

module _ {Command Reply : Type 0} (M : Meaning Command Reply TaskId) (numbers : ℕ) {Ask : Type 0} where
  suited_plain : (later : List (List (Act Ask Command))) (acts : List (Act Ask Command)) → IsSuitedTask M numbers later acts → ArePlain M acts
  suited_plain later [] h = tt
  suited_plain later (Await r ask ∷ acts) h = suited_plain later acts h.1
  suited_plain later (Call c ∷ acts) h = (h.0.0, h.0.1, suited_plain later acts h.1)

  -- no later task awaits at a number at which a task awaits
  suited_apart : (r : ℕ) (later : List (List (Act Ask Command))) (acts : List (Act Ask Command)) → IsSuitedTask M numbers later acts → list_any (awaits_at r) acts ≡ true → some_awaits_at r later ≡ false
  suited_apart r later [] h e = absurd cc
  suited_apart r later (Call c ∷ acts) h e = suited_apart r later acts h.1 e
  suited_apart r later (Await t ask ∷ acts) h e = elim (true_or_false (t == r)) [
    | inl s ↦ subst (λ x. some_awaits_at x later ≡ false) (same_number t r s) h.0.1
    | inr s ↦ suited_apart r later acts h.1 (rw s at e)
  ]

  awaited : (r : ℕ) (lists : List (List (Act Ask Command))) (k : ℕ) (xs : List (Act Ask Command)) → slice_get lists k ≡ Some xs → list_any (awaits_at r) xs ≡ true → some_awaits_at r lists ≡ true
  awaited r [] k xs h e = absurd cc
  awaited r (ys ∷ lists) zero xs h e =
      let s : ys ≡ xs = cc in
      rw (s, e) refl
  awaited r (ys ∷ lists) (suc k) xs h e =
      second_true (list_any (awaits_at r) ys) (some_awaits_at r lists) (awaited r lists k xs h e)

  lists_apart : (lists : List (List (Act Ask Command))) (j k r : ℕ) (xs ys : List (Act Ask Command)) → AreSuited M numbers lists → slice_get lists j ≡ Some xs → slice_get lists k ≡ Some ys → list_any (awaits_at r) xs ≡ true → list_any (awaits_at r) ys ≡ true → j ≡ k
  lists_apart [] j k r xs ys h hx hy ex ey = absurd cc
  lists_apart (zs ∷ lists) zero zero r xs ys h hx hy ex ey = refl
  lists_apart (zs ∷ lists) zero (suc k) r xs ys h hx hy ex ey =
      let s : zs ≡ xs = cc in
      let none = suited_apart r lists zs h.0 (subst (λ x. list_any (awaits_at r) x ≡ true) (sym s) ex) in
      let some = awaited r lists k ys hy ey in
      absurd cc
  lists_apart (zs ∷ lists) (suc j) zero r xs ys h hx hy ex ey =
      let s : zs ≡ ys = cc in
      let none = suited_apart r lists zs h.0 (subst (λ x. list_any (awaits_at r) x ≡ true) (sym s) ey) in
      let some = awaited r lists j xs hx ex in
      absurd cc
  lists_apart (zs ∷ lists) (suc j) (suc k) r xs ys h hx hy ex ey = ap suc (lists_apart lists j k r xs ys h.1 hx hy ex ey)

  lists_plain : (lists : List (List (Act Ask Command))) (k : ℕ) (xs : List (Act Ask Command)) → AreSuited M numbers lists → slice_get lists k ≡ Some xs → ArePlain M xs
  lists_plain [] k xs h e = absurd cc
  lists_plain (zs ∷ lists) zero xs h e = (let s : zs ≡ xs = cc in subst (λ x. ArePlain M x) s (suited_plain lists zs h.0))
  lists_plain (zs ∷ lists) (suc k) xs h e = lists_plain lists k xs h.1 e

  fresh_at : (lists : List (List (Act Ask Command))) (k : ℕ) (t : Todo Ask Command) → slice_get (map fresh lists) k ≡ Some t → (xs : List (Act Ask Command)) × (slice_get lists k ≡ Some xs) × (t ≡ fresh xs)
  fresh_at [] k t e = absurd cc
  fresh_at (xs ∷ lists) zero t e = (xs, refl, cc)
  fresh_at (xs ∷ lists) (suc k) t e = fresh_at lists k t e

  fresh_uses : (r : ℕ) (t : Todo Ask Command) (xs : List (Act Ask Command)) → t ≡ fresh xs → Uses r t → list_any (awaits_at r) xs ≡ true
  fresh_uses r t xs e (inl h) = (let n = ap (λ x. x.request) e in absurd cc)
  fresh_uses r t xs e (inr h) = subst (λ x. list_any (awaits_at r) x.acts ≡ true) e h

module _ {S Command Reply : Type 0} (X : Semantics S Command Reply TaskId) (numbers : ℕ) {Ask : Type 0} where
  -- before the first turn, if each task that hasn't ended has a turn
  pub standing_first : (HasTurn : ℕ → Type 0) (m : S) (lists : List (List (Act Ask Command))) → AreSuited X.meaning numbers lists → ((k : ℕ) (t : Todo Ask Command) → slice_get (map fresh lists) k ≡ Some t → has_ended t ≡ false → HasTurn k) → AreStandingBut X HasTurn m (map fresh lists)
  standing_first HasTurn m lists h turns = record {
    apart = λ j k a b r ha hb ua ub.
        let p = fresh_at X.meaning numbers lists j a ha in
        let q = fresh_at X.meaning numbers lists k b hb in
        lists_apart X.meaning numbers lists j k r p.0 q.0 h p.1 q.1 (fresh_uses X.meaning numbers r a p.0 p.2 ua) (fresh_uses X.meaning numbers r b q.0 q.2 ub);
    plain = λ k a ha. (let p = fresh_at X.meaning numbers lists k a ha in subst (λ x. ArePlain X.meaning x.acts) (sym p.2) (lists_plain X.meaning numbers lists k p.0 h p.1));
    idle = λ k a ha u q. absurd (q (turns k a ha u));
  }
