-- A history is extended by a step, and is a good run.
use Rattle.std.proofs.Common.{◌≡◌, ℕ, List, [], ◌∷◌, ◌++◌, map, Some, ◌⊎◌, inl, inr, refl, sym, ◌∙◌, ap, subst}
use Rattle.std.proofs.lemmas.List.{map-append}
use Rattle.esync_machine.specs.Runs.{Semantics, Step, Each, AtSome, IsRun, IsDue, Polls, HandsOut, object_after, AreWoken, NoIdleSelfWake, registered_after, HandsOutExactly, GoodRunOf, OwedAreIdle}
use Rattle.esync_machine.specs.RunsLaws.{ready_is_due}
use Rattle.esync_machine.specs.Histories.{Turn, Through, AreOwed, History, step_of}

module _ {S C A W : Type 0} (X : Semantics S C A W) where
  -- two stretches of steps, one after the other, are one
  pub joined : (old mid new : S) (xs ys : List (Step X.meaning.Object C A)) → Through X old xs mid → Through X mid ys new → Through X old (xs ++ ys) new
  joined old mid new [] ys h k = subst (λ m. Through X m ys new) h k
  joined old mid new (s ∷ xs) ys h k = (h.0, h.1, h.2, joined h.0 mid new xs ys h.3 k)

  pub one_turn : (old new : S) (c : C) (a : A) → Turn X old c a new → Through X old (step_of X old c a new ∷ []) new
  one_turn old new c a t = (new, refl, t, refl)

  split : (old new : S) (xs ys : List (Step X.meaning.Object C A)) → Through X old (xs ++ ys) new → (mid : S) × Through X old xs mid × Through X mid ys new
  split old new [] ys h = (old, refl, h)
  split old new (x ∷ xs) ys h = (let k = split h.0 new xs ys h.3 in (k.0, (h.0, h.1, h.2, k.1), k.2))

  run_of : (old new : S) (steps : List (Step X.meaning.Object C A)) → Through X old steps new → IsRun X.meaning (X.object old) steps (X.object new)
  run_of old new [] h = ap X.object h
  run_of old new (s ∷ steps) h = subst (λ x. IsRun X.meaning (X.object old) (x ∷ steps) (X.object new)) (sym h.1) (refl, h.2.allowed, run_of h.0 new steps h.3)

  quiet_of : (old new : S) (steps : List (Step X.meaning.Object C A)) → Through X old steps new → (X.meaning.WakesItself → ⊥) → NoIdleSelfWake X.meaning steps
  quiet_of old new [] h n = tt
  quiet_of old new (s ∷ steps) h n = subst (λ x. NoIdleSelfWake X.meaning (x ∷ steps)) (sym h.1) (h.2.quiet n, quiet_of h.0 new steps h.3 n)

  wakes_of : (old new : S) (steps : List (Step X.meaning.Object C A)) → Through X old steps new → HandsOutExactly X.meaning (X.registrations old) steps
  wakes_of old new [] h = tt
  wakes_of old new (s ∷ steps) h =
      subst (λ x. HandsOutExactly X.meaning (X.registrations old) (x ∷ steps)) (sym h.1) (h.2.exact.0, subst (λ g. HandsOutExactly X.meaning g steps) h.2.exact.1 (wakes_of h.0 new steps h.3))

  registered_of : (old new : S) (steps : List (Step X.meaning.Object C A)) → Through X old steps new → X.registrations new ≡ registered_after X.meaning (X.registrations old) steps
  registered_of old new [] h = ap X.registrations h
  registered_of old new (s ∷ steps) h =
      subst (λ x. X.registrations new ≡ registered_after X.meaning (X.registrations old) (x ∷ steps)) (sym h.1) (registered_of h.0 new steps h.3 ∙ ap (λ g. registered_after X.meaning g steps) h.2.exact.1)

  -- what is owed stays owed until it is handed out
  stays_owed : (old new : S) (later : List (Step X.meaning.Object C A)) (r : ℕ) (w : W) → Through X old later new → Each (λ s. Polls X.meaning s.command r → ⊥) later → Each (λ s. X.meaning.Ends s.before s.command r → ⊥) later → X.Owes old r w → AtSome (λ s. HandsOut X.meaning s.reply w) later ⊎ X.Owes new r w
  stays_owed old new [] r w h p e o = inr (subst (λ m. X.Owes m r w) (sym h) o)
  stays_owed old new (s ∷ later) r w h p e o =
      elim (h.2.kept r w o p.0 (subst (λ x. X.meaning.Ends x.before s.command r → ⊥) h.1 e.0)) [
        | inl x ↦ inl (inl x)
        | inr x ↦ elim (stays_owed h.0 new later r w h.3 p.1 e.1 x) [ inl y ↦ inl (inr y) | inr y ↦ inr y ]
      ]

  -- a request that waits is owed its waker, or was woken
  owed_or_woken : (old new : S) (s : Step X.meaning.Object C A) (later : List (Step X.meaning.Object C A)) (r : ℕ) (w : W) → Through X old (s ∷ later) new → X.meaning.polls s.command ≡ Some (r, w) → X.meaning.IsPending s.reply → Each (λ t. Polls X.meaning t.command r → ⊥) later → Each (λ t. X.meaning.Ends t.before t.command r → ⊥) later → AtSome (λ t. HandsOut X.meaning t.reply w) (s ∷ later) ⊎ X.Owes new r w
  owed_or_woken old new s later r w h polls pending p e =
      elim (h.2.registered r w polls pending) [
        | inl x ↦ inl (inl x)
        | inr x ↦ elim (stays_owed h.0 new later r w h.3 p e x) [ inl y ↦ inl (inr y) | inr y ↦ inr y ]
      ]

  pub are_owed : (old new : S) (steps : List (Step X.meaning.Object C A)) → Through X old steps new → AreOwed X steps new
  are_owed old new steps h r p waits =
      let q = split old new p.earlier (p.poll ∷ p.later) (subst (λ xs. Through X old xs new) p.parts h) in
      owed_or_woken q.0 new p.poll p.later r p.waker q.2 p.polls waits.0 p.last waits.1

  object_at_end : (old new : S) (s : Step X.meaning.Object C A) (later : List (Step X.meaning.Object C A)) → Through X old (s ∷ later) new → object_after X.meaning s later ≡ X.object new
  object_at_end old new s [] h = ap (λ x. x.after) h.1 ∙ ap X.object (sym h.3)
  object_at_end old new s (t ∷ later) h = object_at_end h.0 new t later h.3

  module _ (law : OwedAreIdle X) where
    woken : (old new : S) (s : Step X.meaning.Object C A) (later : List (Step X.meaning.Object C A)) (r : ℕ) (w : W) → Through X old (s ∷ later) new → X.meaning.polls s.command ≡ Some (r, w) → X.meaning.IsPending s.reply → Each (λ t. Polls X.meaning t.command r → ⊥) later → Each (λ t. X.meaning.Ends t.before t.command r → ⊥) later → IsDue X.meaning (object_after X.meaning s later) r → AtSome (λ t. HandsOut X.meaning t.reply w) (s ∷ later)
    woken old new s later r w h polls pending p e due =
        elim (owed_or_woken old new s later r w h polls pending p e) [
          | inl x ↦ x
          | inr y ↦ (let i = law new r w y s.command w polls in absurd (subst (λ o. IsDue X.meaning o r) (object_at_end old new s later h) due s.command w i.0 polls i.1 i.2))
        ]

    due_are_woken : (old new : S) (steps : List (Step X.meaning.Object C A)) → Through X old steps new → AreWoken X.meaning (IsDue X.meaning) steps
    due_are_woken old new steps h beginning rest e r p waits due =
        let k = split old new beginning rest (subst (λ xs. Through X old xs new) e h) in
        let q = split old k.0 p.earlier (p.poll ∷ p.later) (subst (λ xs. Through X old xs k.0) p.parts k.1) in
        woken q.0 k.0 p.poll p.later r p.waker q.2 p.polls waits.0 p.last waits.1 due

    -- steps that are turns of the machine are a good run
    pub good_run_by : (old new : S) (steps : List (Step X.meaning.Object C A)) → Through X old steps new → GoodRunOf X old (map (λ s. s.command) steps) (map (λ s. s.reply) steps) new
    good_run_by old new steps h = record {
      steps = steps;
      answers = (refl, refl);
      run = run_of old new steps h;
      no_lost_wake = (let due = due_are_woken old new steps h in (due, λ beginning rest e r p waits ready. due beginning rest e r p waits (ready_is_due X.meaning _ r ready)));
      no_idle_self_wake = quiet_of old new steps h;
      wakes = wakes_of old new steps h;
      registered = registered_of old new steps h;
    }

    pub good_run_by-steps : (old new : S) (steps : List (Step X.meaning.Object C A)) (h : Through X old steps new) → (good_run_by old new steps h).steps ≡ steps
    unfolding good_run_by
    good_run_by-steps old new steps h = refl

module _ {S C A W : Type 0} {X : Semantics S C A W} where
  pub no_history : (s : S) → History X s [] [] s
  no_history s = record { steps = []; answers = (refl, refl); through = refl }

  -- a history and one more turn
  pub longer : {old mid new : S} {cs : List C} {as' : List A} {c : C} {a : A} → History X old cs as' mid → Turn X mid c a new → History X old (cs ++ c ∷ []) (as' ++ a ∷ []) new
  longer {old} {mid} {new} {cs} {as'} {c} {a} h t =
      let s = step_of X mid c a new in
      record {
        steps = h.steps ++ s ∷ [];
        answers = (
          ap (λ xs. xs ++ c ∷ []) h.answers.0 ∙ sym (map-append (λ x. x.command) h.steps (s ∷ [])),
          ap (λ xs. xs ++ a ∷ []) h.answers.1 ∙ sym (map-append (λ x. x.reply) h.steps (s ∷ [])),
        );
        through = joined X old mid new h.steps (s ∷ []) h.through (one_turn X mid new c a t);
      }

  -- a history is a good run
  pub good_run_of : OwedAreIdle X → {old new : S} {cs : List C} {as' : List A} → History X old cs as' new → GoodRunOf X old cs as' new
  good_run_of law {old} {new} {cs} {as'} h =
      subst (λ x. GoodRunOf X old x as' new) (sym h.answers.0) (subst (λ x. GoodRunOf X old (map (λ s. s.command) h.steps) x new) (sym h.answers.1) (good_run_by X law old new h.steps h.through))
