-- A value that was set stays until it is taken.
use Rattle.std.proofs.Common.{◌≡◌, ℕ, Bool, List, Option, Some, None, refl, sym, ap, ◌∙◌, subst}
use Rattle.std.specs.Prelude.{IfSome, unwrap_or, slice_get, slice_set}
use Rattle.esync_machine.specs.AccountLaws.{of_any_kind, law_run, KeepsTold}
use Rattle.esync_machine.specs.Numbers.{flat, at_number}
use Rattle.esync_machine.specs.NumbersLaws.{set_there}
use Rattle.esync_machine.specs.Runs.{GoodRun}
use Rattle.esync_machine.specs.Object.{Object, Allows, AllowsAt, requests_meaning}
use Rattle.esync_machine.specs.ObjectLaws.{EachStep, each_step}
use Rattle.esync_machine.specs.Wakings.{Wakings}
use Rattle.esync_machine.specs.declared.run.Reply.{Reply}
use Rattle.esync_machine.specs.declared.primitive.Answer.{Answer}
use Rattle.esync_machine.specs.declared.primitive.Answer.TheVariants.{NoSuch, Gives}
use Rattle.esync_machine.specs.declared.primitive.Command.{Command}
use Rattle.esync_machine.specs.declared.primitive.Command.TheVariants.{Start, Poll, End, Call}
use Rattle.esync_cells.specs.OnceLock.{set_answer}
use Rattle.esync_cells.specs.OnceRules.{once_rules, Polls, Calls}
use Rattle.esync_cells.specs.OnceSet.{Account, value_by, after, ShowsTo, ShowsToPoll, Shows, at_first, StaysSet}
use Rattle.esync_cells.specs.declared.once_lock.machine.Get.{Get}
use Rattle.esync_cells.specs.declared.once_lock.machine.OnceCall.{OnceCall}
use Rattle.esync_cells.specs.declared.once_lock.machine.OnceCall.TheVariants.{TryGet, Init, GetOrInit, Take, IsSet}
use Rattle.esync_cells.specs.declared.once_lock.machine.OnceHeard.{OnceHeard}
use Rattle.esync_cells.specs.declared.once_lock.machine.OnceHeard.TheVariants.{Got, Found, HasSet, Shown}

module _ {T : Type 0} where
  -- the value that is known to be there is there, and so are the requests
  abbrev IsThere : Option T → Option T → Type 0
  IsThere o k = IfSome k (λ v. o ≡ Some v)

  abbrev IsTold : Object (Option T) Get → Account T → Type 0
  IsTold o k = IsThere o.core k.value × (k.requests ≡ o.requests)

  there_at_first : (o : Option T) → IsThere o o
  there_at_first None = tt
  there_at_first (Some v) = refl

  still : (o o2 k : Option T) → o2 ≡ o → IsThere o k → IsThere o2 k
  still o o2 k e there = subst (λ x. IsThere x k) (sym e) there

  called : (o o2 k : Option T) (call : OnceCall T) (a : Answer (OnceHeard T)) → Calls o call a o2 → IsThere o k → IsThere o2 (value_by k call a)
  called o o2 k TryGet a t there = still o o2 k t.1 there
  called None o2 k (Init x) a t there = rw t.0 t.1
  called (Some y) o2 k (Init x) a t there = rw t.0 (still (Some y) o2 k t.1 there)
  called o o2 k (GetOrInit x) a t there = rw t.0 t.1
  called o o2 k Take a t there = rw t.0 tt
  called o o2 k IsSet a t there = still o o2 k t.1 there

  polled : {W : Type 0} (o : Option T) (q : List (Option Get)) (k : Account T) (r : ℕ) (w : W) (h : Get) (a : Answer (OnceHeard T)) (core : Option T) (p : Option Get) → slice_get q r ≡ Some (Some h) → Polls o h a core p → IsThere o k.value → k.requests ≡ q → IsTold (record { core = core; requests = slice_set q r p }) (after k (Poll r w) a)
  polled None q k r w h a core p at t there are = rw (t.0, t.2) (still None core k.value t.1 there, are ∙ sym (set_there q r (Some h) at))
  polled (Some x) q k r w h a core p at t there are = rw (t.0, t.2) (still (Some x) core k.value t.1 there, ap (λ l. slice_set l r None) are)

  told_of : (o : Option T) (v : T) (call : OnceCall T) (a : Answer (OnceHeard T)) (o2 : Option T) → o ≡ Some v → Calls o call a o2 → ShowsTo v call a
  told_of o v TryGet a o2 e t = t.0 ∙ ap (λ x. Gives (Found x)) e
  told_of o v (Init x) a o2 e t = t.0 ∙ ap (λ y. Gives (HasSet (set_answer y x))) e
  told_of o v (GetOrInit x) a o2 e t = t.0 ∙ ap (λ y. Gives (Shown (unwrap_or y x))) e
  told_of o v Take a o2 e t = t.0 ∙ ap (λ x. Gives (Found x)) e
  told_of o v IsSet a o2 e t = (let b = rw e at t in b.0)

  module _ (W : Type 0) where
    refused : (k : Account T) (c : Command Get W (OnceCall T)) → after k c NoSuch ≡ k
    refused k (Start r ask) = refl
    refused k (Poll r w) = refl
    refused k (End r) = refl
    refused k (Call TryGet) = refl
    refused k (Call (Init x)) = refl
    refused k (Call (GetOrInit x)) = refl
    refused k (Call Take) = refl
    refused k (Call IsSet) = refl

    keeps : EachStep (once_rules T) (KeepsTold (once_rules T) (λ c. Unit {0}) (after {W = W}) IsTold)
    keeps = record {
      refused = λ o c k kind told. subst (λ x. IsTold o x) (sym (refused k c)) told;
      starts = λ o r ask h at begins k kind told. (told.0, ap (λ l. slice_set l r (Some ask)) told.1);
      polls = λ o r w h a core p at t k kind told. polled o.core o.requests k r w h a core p at t told.0 told.1;
      ends = λ o r h core at e k kind told. (still o.core core k.value e told.0, ap (λ l. slice_set l r None) told.1);
      calls = λ o call r p a core p2 reach at t k kind told. absurd cc;
      alone = λ o call a core p reach t k kind told. (called o.core core k.value call a t.0 told.0, told.1);
      leaves = λ o call a core p reach t k kind told. absurd cc;
    }

    shown_to : (o : Option T) (v : T) (h : Get) (a : Answer (OnceHeard T)) (o2 : Option T) (p : Option Get) → Polls o h a o2 p → o ≡ Some v → a ≡ Gives (Got v)
    shown_to o v h a o2 p t e = (let b = rw e at t in b.0)

    -- by what stands at the number of a poll
    polled_shows : (o o2 : Object (Option T) Get) (v : T) (r : ℕ) (w : W) (a : Answer (OnceHeard T)) (p : Option (Option Get)) → AllowsAt (once_rules T) o (Poll r w) r p a o2 → o.core ≡ Some v → ShowsToPoll v (flat p) a
    polled_shows o o2 v r w a None allowed there = allowed.0
    polled_shows o o2 v r w a (Some None) allowed there = allowed.2.0
    polled_shows o o2 v r w a (Some (Some h)) allowed there = shown_to o.core v h a allowed.0 allowed.1 allowed.2 there

    shows : (o o2 : Object (Option T) Get) (value : Option T) (requests : List (Option Get)) (c : Command Get W (OnceCall T)) (a : Answer (OnceHeard T)) → Allows (once_rules T) o c a o2 → IsTold o (record { value = value; requests = requests }) → Shows value requests c a
    shows o o2 None requests c a allowed told = tt
    shows o o2 (Some v) requests (Start r ask) a allowed told = tt
    shows o o2 (Some v) requests (Poll r w) a allowed told =
        subst (λ q. ShowsToPoll v (at_number q r) a) (sym told.1) (polled_shows o o2 v r w a (slice_get o.requests r) allowed told.0)
    shows o o2 (Some v) requests (End r) a allowed told = tt
    shows o o2 (Some v) requests (Call call) a allowed told = told_of o.core v call a allowed.0 told.0 allowed.2.0

pub stays_set : {T W : Type 0} (H : Wakings (Option T) Get (OnceCall T) (OnceHeard T) W) (eq : W → W → Bool) (K : ℕ) (o o2 : Object (Option T) Get) (g g2 : H.Registered) (cs : List (Command Get W (OnceCall T))) (as' : List (Reply (Answer (OnceHeard T)) W K)) → GoodRun (requests_meaning (once_rules T) H eq K) o g cs as' o2 g2 → StaysSet o.core o.requests cs as'
stays_set {T} {W} H eq K o o2 g g2 cs as' run =
    law_run (requests_meaning (once_rules T) H eq K) (λ c. Unit {0}) (λ k c a. after k c a.answer) IsTold
    (λ o o2 k c a kind allowed. each_step (once_rules T) (keeps W) o o2 c a.answer allowed k kind)
    (λ k c a. Shows k.value k.requests c a.answer) (λ o o2 k c a kind allowed told. shows W o o2 k.value k.requests c a.answer allowed told)
    o o2 g g2 (at_first o.core o.requests) cs as' (of_any_kind cs) run (there_at_first o.core, refl)
