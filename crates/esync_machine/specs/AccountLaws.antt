-- What each step keeps, a run keeps.
use Rattle.std.proofs.Common.{◌≡◌, ℕ, zero, suc, ◌+◌, Bool, List, [], ◌∷◌, map, Option, Some, None, inl, inr, refl, sym, ap, ◌∙◌, subst, arith}
use Rattle.std.specs.Prelude.{IfSome, slice_get}
use Rattle.esync_machine.specs.Runs.{Meaning, Each, Step, IsRun, GoodRun}
use Rattle.esync_base.specs.ListedLaws.{equal_number, unequal_number}
use Rattle.esync_machine.specs.Account.{account, AtEach, ask_of, asked_from, asked_after}
use Rattle.esync_machine.specs.Numbers.{at_number}
use Rattle.esync_machine.specs.NumbersLaws.{at_of, at_set, swept_at}
use Rattle.esync_machine.specs.Rules.{Rules, reach_of}
use Rattle.esync_machine.specs.Wakings.{Wakings}
use Rattle.esync_machine.specs.Object.{Object, written, requests_meaning}
use Rattle.esync_machine.specs.ObjectLaws.{EachStep, each_step}
use Rattle.esync_machine.specs.declared.run.Reply.{Reply}
use Rattle.esync_machine.specs.declared.primitive.Answer.{Answer}
use Rattle.esync_machine.specs.declared.primitive.Answer.TheVariants.{Done, Pending, NoSuch, NoMemory, Gives}
use Rattle.esync_machine.specs.declared.primitive.Reach.TheVariants.{Number}
use Rattle.esync_machine.specs.declared.primitive.Command.{Command}
use Rattle.esync_machine.specs.declared.primitive.Command.TheVariants.{Start, Poll, End, Call}

-- commands of which nothing is asked are all of that kind
pub of_any_kind : {C : Type 0} (cs : List C) → Each (λ c. Unit {0}) cs
of_any_kind [] = tt
of_any_kind (c ∷ cs) = (tt, of_any_kind cs)

-- what a request was started for, after a start at its number
pub ask_of-started : {Ask : Type 0} (asked : List (ℕ × Ask)) (r : ℕ) (ask : Ask) → ask_of ((r, ask) ∷ asked) r ≡ Some ask
ask_of-started asked r ask = rw (equal_number r r refl) refl

-- a request that stands at a number at first was started for what it asks
asked_there : {Ask : Type 0} (n : ℕ) (requests : List (Option Ask)) (r : ℕ) (ask : Ask) → at_number requests r ≡ Some ask → ask_of (asked_from n requests) (n + r) ≡ Some ask
asked_there n [] r ask e = cc
asked_there n (None ∷ requests) zero ask e = cc
asked_there n (Some x ∷ requests) zero ask e = rw (equal_number n (n + 0) (omega arith)) e
asked_there n (None ∷ requests) (suc r) ask e = (let s : suc n + r ≡ n + suc r = omega arith in subst (λ i. ask_of (asked_from (suc n) requests) i ≡ Some ask) s (asked_there (suc n) requests r ask e))
asked_there n (Some x ∷ requests) (suc r) ask e =
    let s : suc n + r ≡ n + suc r = omega arith in
    rw (unequal_number n (n + suc r) (λ f. omega (arith, f))) (subst (λ i. ask_of (asked_from (suc n) requests) i ≡ Some ask) s (asked_there (suc n) requests r ask e))

pub asked_at_first : {Ask : Type 0} (requests : List (Option Ask)) (r : ℕ) (ask : Ask) → at_number requests r ≡ Some ask → ask_of (asked_from 0 requests) r ≡ Some ask
asked_at_first requests r ask e = (let s : 0 + r ≡ r = omega arith in subst (λ i. ask_of (asked_from 0 requests) i ≡ Some ask) s (asked_there 0 requests r ask e))

-- what a request was started for, after a command on another number
pub ask_of-other : {Ask W C A Held B : Type 0} (R : Rules Ask Held C B) (asked : List (ℕ × Ask)) (c : Command Ask W C) (a : Answer A) (r : ℕ) → (reach_of R c ≡ Number r → ⊥) → ask_of (asked_after asked c a) r ≡ ask_of asked r
ask_of-other R asked (Start s ask) Done r ne = rw (unequal_number s r (λ e. ne (ap Number e))) refl
ask_of-other R asked (Start s ask) Pending r ne = refl
ask_of-other R asked (Start s ask) NoSuch r ne = refl
ask_of-other R asked (Start s ask) NoMemory r ne = refl
ask_of-other R asked (Start s ask) (Gives heard) r ne = refl
ask_of-other R asked (Poll s w) a r ne = refl
ask_of-other R asked (End s) a r ne = refl
ask_of-other R asked (Call call) a r ne = refl

-- Of commands of one kind, with what is known after each.
module _ {S Command Reply Waker : Type 0} (M : Meaning Command Reply Waker) (IsKind : Command → Type 0) (after : S → Command → Reply → S) (Told : M.Object → S → Type 0) (keeps : (o o2 : M.Object) (k : S) (c : Command) (a : Reply) → IsKind c → M.allows o c a o2 → Told o k → Told o2 (after k c a)) where
  told_steps : (o o2 : M.Object) (k : S) (steps : List (Step M.Object Command Reply)) → Each IsKind (map (λ s. s.command) steps) → IsRun M o steps o2 → Told o k → Told o2 (account after k (map (λ s. s.command) steps) (map (λ s. s.reply) steps))
  told_steps o o2 k [] kind run told = subst (λ x. Told x k) (sym run) told
  told_steps o o2 k (s ∷ steps) kind run told =
      told_steps s.after o2 (after k s.command s.reply) steps kind.1 run.2 (keeps s.before s.after k s.command s.reply kind.0 run.1 (subst (λ x. Told x k) (sym run.0) told))

  pub told_run : (o o2 : M.Object) (g g2 : M.Registered) (k : S) (cs : List Command) (as' : List Reply) → Each IsKind cs → GoodRun M o g cs as' o2 g2 → Told o k → Told o2 (account after k cs as')
  told_run o o2 g g2 k cs as' kind run told =
      subst (λ x. Told o2 (account after k x as')) (sym run.answers.0) (subst (λ x. Told o2 (account after k (map (λ s. s.command) run.steps) x)) (sym run.answers.1)
      (told_steps o o2 k run.steps (subst (λ x. Each IsKind x) run.answers.0 kind) run.run told))

  -- a law that holds at each step
  module _ (Law : S → Command → Reply → Type 0) (holds : (o o2 : M.Object) (k : S) (c : Command) (a : Reply) → IsKind c → M.allows o c a o2 → Told o k → Law k c a) where
    law_steps : (o o2 : M.Object) (k : S) (steps : List (Step M.Object Command Reply)) → Each IsKind (map (λ s. s.command) steps) → IsRun M o steps o2 → Told o k → AtEach after Law k (map (λ s. s.command) steps) (map (λ s. s.reply) steps)
    law_steps o o2 k [] kind run told = tt
    law_steps o o2 k (s ∷ steps) kind run told =
        let before = subst (λ x. Told x k) (sym run.0) told in
        (holds s.before s.after k s.command s.reply kind.0 run.1 before, law_steps s.after o2 (after k s.command s.reply) steps kind.1 run.2 (keeps s.before s.after k s.command s.reply kind.0 run.1 before))

    pub law_run : (o o2 : M.Object) (g g2 : M.Registered) (k : S) (cs : List Command) (as' : List Reply) → Each IsKind cs → GoodRun M o g cs as' o2 g2 → Told o k → AtEach after Law k cs as'
    law_run o o2 g g2 k cs as' kind run told =
        subst (λ x. AtEach after Law k x as') (sym run.answers.0) (subst (λ x. AtEach after Law k (map (λ s. s.command) run.steps) x) (sym run.answers.1)
        (law_steps o o2 k run.steps (subst (λ x. Each IsKind x) run.answers.0 kind) run.run told))

-- Of a primitive with a table of requests: what is known after a command and its answer, of commands of this kind.
module _ {Ask Held C A W S : Type 0} (R : Rules Ask Held C A) (IsKind : Command Ask W C → Type 0) (after : S → Command Ask W C → Answer A → S) where
  -- a step keeps what is told
  abbrev pub KeepsTold : (Object R.Core Held → S → Type 0) → Object R.Core Held → Command Ask W C → Answer A → Object R.Core Held → Type 0
  KeepsTold Told o c a o2 = (k : S) → IsKind c → Told o k → Told o2 (after k c a)

  -- a law holds at a step, if this is told before the step
  abbrev pub HasLaw : (Object R.Core Held → S → Type 0) → (S → Command Ask W C → Answer A → Type 0) → Object R.Core Held → Command Ask W C → Answer A → Object R.Core Held → Type 0
  HasLaw Told Law o c a o2 = (k : S) → IsKind c → Told o k → Law k c a

  module _ (T : Wakings R.Core Held C A W) (same : W → W → Bool) (K : ℕ) {Told : Object R.Core Held → S → Type 0} (keeps : EachStep R (KeepsTold Told)) where
    pub told_requests : (o o2 : Object R.Core Held) (g g2 : T.Registered) (k : S) (cs : List (Command Ask W C)) (as' : List (Reply (Answer A) W K)) → Each IsKind cs → GoodRun (requests_meaning R T same K) o g cs as' o2 g2 → Told o k → Told o2 (account (λ k c a. after k c a.answer) k cs as')
    told_requests =
        told_run (requests_meaning R T same K) IsKind (λ k c a. after k c a.answer) Told (λ o o2 k c a kind allowed. each_step R keeps o o2 c a.answer allowed k kind)

    pub law_requests : {Law : S → Command Ask W C → Answer A → Type 0} → EachStep R (HasLaw Told Law) → (o o2 : Object R.Core Held) (g g2 : T.Registered) (k : S) (cs : List (Command Ask W C)) (as' : List (Reply (Answer A) W K)) → Each IsKind cs → GoodRun (requests_meaning R T same K) o g cs as' o2 g2 → Told o k → AtEach (λ k c a. after k c a.answer) (λ k c a. Law k c a.answer) k cs as'
    law_requests {Law} holds =
        law_run (requests_meaning R T same K) IsKind (λ k c a. after k c a.answer) Told (λ o o2 k c a kind allowed. each_step R keeps o o2 c a.answer allowed k kind)
        (λ k c a. Law k c a.answer) (λ o o2 k c a kind allowed. each_step R holds o o2 c a.answer allowed k kind)

  -- what is told of the core, and of what stands at each number
  pub record IsTold (On : R.Core → S → Type 0) (Here : S → ℕ → Held → Type 0) (o : Object R.Core Held) (k : S) : Type 0 where
    pub core : On o.core k
    pub here : (r : ℕ) (h : Held) → at_number o.requests r ≡ Some h → Here k r h

  -- What a primitive shows so that a run keeps what is told. It sees one of the numbers at a time.
  pub record KeepsEach (On : R.Core → S → Type 0) (Here : S → ℕ → Held → Type 0) : Type 0 where
    -- nothing is told by an answer that says that nothing changed
    pub refused : (k : S) (c : Command Ask W C) → after k c NoSuch ≡ k
    pub starts : (o : R.Core) (k : S) (r : ℕ) (ask : Ask) (h : Held) → R.begins o ask (Some h) → On o k → On o (after k (Start r ask) Done) × Here (after k (Start r ask) Done) r h
    pub polls : (o o2 : R.Core) (k : S) (r : ℕ) (w : W) (h : Held) (a : Answer A) (p : Option Held) → R.polls o h a o2 p → On o k → Here k r h → On o2 (after k (Poll r w) a) × IfSome p (λ x. Here (after k (Poll r w) a) r x)
    pub ends : (o o2 : R.Core) (k : S) (r : ℕ) (h : Held) → R.ends o h o2 → On o k → Here k r h → On o2 (after k (End r) Done)
    pub calls : (o o2 : R.Core) (k : S) (call : C) (r : ℕ) (p p2 : Option Held) (a : Answer A) → R.reach call ≡ Number r → R.calls o call p a o2 p2 → On o k → IfSome p (λ x. Here k r x) → On o2 (after k (Call call) a) × IfSome p2 (λ x. Here (after k (Call call) a) r x)
    pub alone : (o o2 : R.Core) (k : S) (call : C) (p : Option Held) (a : Answer A) → ((r : ℕ) → R.reach call ≡ Number r → ⊥) → R.calls o call None a o2 p → On o k → On o2 (after k (Call call) a)
    -- a command tells nothing of a number that it doesn't concern
    pub others : (k : S) (c : Command Ask W C) (a : Answer A) (r : ℕ) (h : Held) → (reach_of R c ≡ Number r → ⊥) → Here k r h → Here (after k c a) r h

  module _ {On : R.Core → S → Type 0} {Here : S → ℕ → Held → Type 0} (each : KeepsEach On Here) where
    here_at : (k : S) (r : ℕ) (o : Object R.Core Held) (p : Option Held) → slice_get o.requests r ≡ Some p → IsTold On Here o k → IfSome p (λ x. Here k r x)
    here_at k r o None there told = tt
    here_at k r o (Some h) there told = told.here r h (at_of o.requests r (Some h) there)

    kept_at : (k : S) (c : Command Ask W C) (a : Answer A) (o : Object R.Core Held) (r : ℕ) (core : R.Core) (p p2 : Option Held) → reach_of R c ≡ Number r → slice_get o.requests r ≡ Some p → IsTold On Here o k → On core (after k c a) × IfSome p2 (λ x. Here (after k c a) r x) → IsTold On Here (written R o r core p2) (after k c a)
    kept_at k c a o r core p p2 reach there told kept = record {
      core = kept.0;
      here = λ t h e. elim (at_set o.requests r p p2 t h there e) [
        | inl x ↦ (let i = kept.1 in let j = rw x.1 at i in subst (λ n. Here (after k c a) n h) (sym x.0) j)
        | inr x ↦ each.others k c a t h (λ f. x.0 (let n = sym reach ∙ f in cc)) (told.here t h x.1)
      ];
    }

    pub keeps_each : EachStep R (KeepsTold (IsTold On Here))
    keeps_each = record {
      refused = λ o c k kind told. subst (λ x. IsTold On Here o x) (sym (each.refused k c)) told;
      starts = λ o r ask h there begins k kind told. kept_at k (Start r ask) Done o r o.core None (Some h) refl there told (each.starts o.core k r ask h begins told.core);
      polls = λ o r w h a core p there polls k kind told. kept_at k (Poll r w) a o r core (Some h) p refl there told (each.polls o.core core k r w h a p polls told.core (here_at k r o (Some h) there told));
      ends = λ o r h core there ends k kind told. kept_at k (End r) Done o r core (Some h) None refl there told (each.ends o.core core k r h ends told.core (here_at k r o (Some h) there told), tt);
      calls = λ o call r p a core p2 reach there calls k kind told. kept_at k (Call call) a o r core p p2 reach there told (each.calls o.core core k call r p p2 a reach calls told.core (here_at k r o p there told));
      alone = λ o call a core p reach calls k kind told. record {
        core = each.alone o.core core k call p a (λ r e. let n = sym reach ∙ e in cc) calls told.core;
        here = λ r h e. each.others k (Call call) a r h (λ f. let n = sym reach ∙ f in cc) (told.here r h e);
      };
      leaves = λ o call a core p reach calls k kind told. record {
        core = each.alone o.core core k call p a (λ r e. let n = sym reach ∙ e in cc) calls told.core;
        here = λ r h e. each.others k (Call call) a r h (λ f. let n = sym reach ∙ f in cc) (told.here r h (swept_at (R.leaves o.core call) o.requests r h e).0);
      };
    }
