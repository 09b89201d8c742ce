-- A change is told once.
use Rattle.std.proofs.Common.{◌≡◌, ℕ, ◌==◌, ◌&&◌, Bool, true, false, List, Option, Some, None, nat_lt, ◌⊎◌, inl, inr, refl, sym, ap, ◌∙◌, subst}
use Rattle.std.specs.Prelude.{[], ◌∷◌, Result, Ok, Err, is_some, nat_eq, slice_get, slice_set, if◌then◌else◌}
use Rattle.std.specs.declared.alloc.AllocError.{AllocError}
use Rattle.std.proofs.lemmas.Bool.{and_parts}
use Rattle.std.proofs.Math.Bool.{and-true, and-false}
use Rattle.esync_base.specs.ListedLaws.{same_number, equal_number, unequal_number, same_or_not}
use Rattle.esync_machine.specs.AccountLaws.{of_any_kind, KeepsTold, law_run}
use Rattle.esync_machine.specs.Numbers.{flat, at_number, swept, swept_place, AllAt}
use Rattle.esync_machine.specs.NumbersLaws.{set_there, there_of, at_of, at_set, at_set_here, at_set_other, swept_at, swept_nothing}
use Rattle.esync_machine.specs.Names.{is_free}
use Rattle.esync_machine.specs.Runs.{GoodRun}
use Rattle.esync_machine.specs.Object.{Object, Allows, AllowsAt, requests_meaning}
use Rattle.esync_machine.specs.ObjectLaws.{EachStep, each_step}
use Rattle.esync_machine.specs.Wakings.{Wakings, called as handed_by_call, polled as handed_by_poll}
use Rattle.esync_machine.specs.Rules.{ended}
use Rattle.esync_machine.specs.declared.run.Reply.{Reply}
use Rattle.esync_machine.specs.declared.primitive.Answer.{Answer}
use Rattle.esync_machine.specs.declared.primitive.Answer.TheVariants.{Pending, NoSuch, Gives}
use Rattle.esync_machine.specs.declared.primitive.Reach.TheVariants.{Nobody, Number, Leavers}
use Rattle.esync_machine.specs.declared.primitive.Command.{Command}
use Rattle.esync_machine.specs.declared.primitive.Command.TheVariants.{Start, Poll, End, Call}
use Rattle.esync_cells.specs.Watch.{Answers, seen_after}
use Rattle.esync_cells.specs.Receivers.{is_counted, seen_at, version_of, with_seen, with_seen_if}
use Rattle.esync_cells.specs.ReceiversLaws.{someone, free_elsewhere, at_marked}
use Rattle.esync_cells.specs.WatchRules.{Watch, sought, marks, with_read, with_receiver, Begins, PollsAs, Polls, Calls, Joins, JoinsAnon, Leaves, Tried, Reads, reach, leaves, watch_rules, watch_wakings, IsReceiving}
use Rattle.esync_cells.specs.WatchLaws.{only_waits}
use Rattle.esync_cells.specs.Asked.{requests_after}
use Rattle.esync_cells.specs.WatchNews.{Account, is_told, told_by, told_by_poll, requests_by, after, WaitsOn, WaitsOnFor, TellsNoMore, at_first, TellsOnce}
use Rattle.esync_cells.specs.declared.watch.machine.Seen.{Seen}
use Rattle.esync_cells.specs.declared.watch.machine.Reading.{Reading}
use Rattle.esync_cells.specs.declared.watch.machine.Reading.TheVariants.{Get, Changed, GetAnd, ChangedAnd}
use Rattle.esync_cells.specs.declared.watch.machine.Await.{Await}
use Rattle.esync_cells.specs.declared.watch.machine.WatchCall.{WatchCall}
use Rattle.esync_cells.specs.declared.watch.machine.WatchCall.TheVariants.{Receiver, Anon, Leave, Clear, Send, Modify, ModifyIf, TryGet, Read, Id, Contains}
use Rattle.esync_cells.specs.declared.watch.machine.WatchHeard.{WatchHeard}
use Rattle.esync_cells.specs.declared.watch.machine.WatchHeard.TheVariants.{Found}
use Rattle.esync_cells.proofs.WatchKept.{not_newer, seen_or_not, seen_same, called_kept, polled_kept}

-- a read that marks a newer version leaves no newer one
marked_newer : {T : Type 0} (b : Bool) (version seen : ℕ) (p : Option T) → nat_lt seen version ≡ b → nat_lt (seen_after {E = AllocError} b version seen (Ok p)) version ≡ false
marked_newer b version seen (Some v) e = not_newer version
marked_newer true version seen None e = not_newer version
marked_newer false version seen None e = e

told_seen : {T J : Type 0} (read : Reading J) (version seen : ℕ) (p : Option T) → is_told read p ≡ true → nat_lt (seen_after {E = AllocError} (marks version seen read) version seen (Ok p)) version ≡ false
told_seen Get version seen p e = marked_always version seen p
  where
    marked_always : {T : Type 0} (version seen : ℕ) (p : Option T) → nat_lt (seen_after {E = AllocError} true version seen (Ok p)) version ≡ false
    marked_always version seen (Some v) = not_newer version
    marked_always version seen None = not_newer version
told_seen Changed version seen p e = marked_newer (nat_lt seen version) version seen p refl
told_seen (GetAnd judge) version seen (Some v) e = not_newer version
told_seen (GetAnd judge) version seen None e = absurd cc
told_seen (ChangedAnd judge) version seen (Some v) e = not_newer version
told_seen (ChangedAnd judge) version seen None e = absurd cc

seen_here : (q : List (Option Seen)) (r version : ℕ) (s : Seen) → at_number q r ≡ Some s → at_number (with_seen r version q) r ≡ Some (record s { version = version })
seen_here q r version s there =
    ap (λ p. at_number (with_seen_if r version p q) r) there ∙ at_set_here q r (Some s) (Some (record s { version = version })) (there_of q r s there)

-- tests that say the same end the same
swept_as : {A : Type 0} (f g : A → Bool) (q : List (Option A)) → ((x : A) → f x ≡ g x) → swept f q ≡ swept g q
swept_as f g [] same = refl
swept_as f g (None ∷ q) same = ap (λ l. None ∷ l) (swept_as f g q same)
swept_as f g (Some x ∷ q) same = rw (same x, swept_place) (ap (λ l. swept_place g (Some x) ∷ l) (swept_as f g q same))

-- a request that is started is what was asked
begun_as : {J : Type 0} (b : Bool) (ask x : Await J) → Begins b ask (Some x) → ask ≡ x
begun_as true ask x e = (let f : x ≡ ask = cc in sym f)
begun_as false ask x e = absurd cc

begun_counted : {J : Type 0} (b : Bool) (ask x : Await J) → Begins b ask (Some x) → b ≡ true
begun_counted true ask x e = refl
begun_counted false ask x e = absurd cc

module _ {T : Type 0} (h : ℕ) where
  -- the receiver at h, if it is told, has seen the latest version
  abbrev IsThere : Watch T → Bool → Type 0
  IsThere o false = Unit {0}
  IsThere o true = (s : Seen) × (at_number o.receivers h ≡ Some s) × (nat_lt s.version o.version ≡ false)

  still : (o o2 : Watch T) (k : Bool) → o2 ≡ o → IsThere o k → IsThere o2 k
  still o o2 k e there = subst (λ x. IsThere x k) (sym e) there

  elsewhere : (o o2 : Watch T) (r : ℕ) (p : Option Seen) (k : Bool) → ((s : Seen) → at_number o.receivers h ≡ Some s → r ≡ h → ⊥) → o2 ≡ with_receiver r p o → IsThere o k → IsThere o2 k
  elsewhere o o2 r p false other e there = tt
  elsewhere o o2 r p true other e there =
      subst (λ x. IsThere x true) (sym e) (there.0, at_set_other o.receivers r h p (other there.0 there.1) ∙ there.1, there.2)

  cleared : (o o2 : Watch T) (k : Bool) → o2 ≡ record o { value = None } → IsThere o k → IsThere o2 k
  cleared o o2 false e there = tt
  cleared o o2 true e there = subst (λ x. IsThere x true) (sym e) there

  marked : (o : Watch T) (r : ℕ) (k : Bool) → IsThere o k → IsThere (with_read r o.version o) k
  marked o r false there = tt
  marked o r true there = elim (at_marked r o.version o.receivers h) [
    | inl e ↦ (there.0, e ∙ there.1, there.2)
    | inr m ↦ (record m.0 { version = o.version }, m.2, not_newer o.version)
  ]

  read_at : (o : Watch T) (r version : ℕ) (s : Seen) (k : Bool) → at_number o.receivers r ≡ Some s → (version ≡ o.version) ⊎ (version ≡ s.version) → IsThere o k → IsThere (with_read r version o) k
  read_at o r version s k at (inl e) there = subst (λ v. IsThere (with_read r v o) k) (sym e) (marked o r k there)
  read_at o r version s k at (inr e) there =
      let same : with_read r s.version o ≡ o = ap (λ q. record o { receivers = q }) (seen_same o.receivers r s at) in
      subst (λ v. IsThere (with_read r v o) k) (sym e) (still o (with_read r s.version o) k same there)

  module _ {J : Type 0} (IsClone : T → T → Type 0) (IsInfallible : T → Type 0) (passes : J → T → Bool) where
    polled_as : (o o2 : Watch T) (k : Bool) (held : Await J) (a : Answer (WatchHeard T)) (p : Option (Await J)) (got : Result (Option T) AllocError) → PollsAs IsClone IsInfallible passes got o held a o2 p → IsThere o k → IsThere o2 k
    polled_as o o2 k held a p (Ok (Some v)) t there = still (with_read held.receiver o.version o) o2 k t.1 (marked o held.receiver k there)
    polled_as o o2 k held a p (Ok None) t there = still o o2 k t.1 there
    polled_as o o2 k held a p (Err e) t there = still o o2 k t.1 there

    -- a poll that shows a value to the receiver at h tells it
    seen_now : (o o2 : Watch T) (r : ℕ) (s : Seen) → at_number o.receivers r ≡ Some s → r ≡ h → o2 ≡ with_read r o.version o → IsThere o2 true
    seen_now o o2 r s at same e =
        let now : Seen = record s { version = o.version } in
        subst (λ y. IsThere y true) (sym e) (now, subst (λ t. at_number (with_seen r o.version o.receivers) t ≡ Some now) same (seen_here o.receivers r o.version s at), not_newer o.version)

    told_polled : (o o2 : Watch T) (k : Bool) (held : Await J) (a : Answer (WatchHeard T)) (p : Option (Await J)) (got : Result (Option T) AllocError) → PollsAs IsClone IsInfallible passes got o held a o2 p → IsReceiving o held → IsThere o k → IsThere o2 (told_by_poll h k (Some held) a)
    told_polled o o2 k held a p (Ok (Some v)) t receiving there = elim (same_or_not held.receiver h) [
      | inl same ↦ rw (t.0, equal_number held.receiver h same) (
          let s = someone (at_number o.receivers held.receiver) receiving in
          seen_now o o2 held.receiver s.0 s.1 same t.1
          )
      | inr other ↦ rw (t.0, unequal_number held.receiver h other) (polled_as o o2 k held a p (Ok (Some v)) t there)
    ]
    told_polled o o2 k held a p (Ok None) t receiving there = rw t.0 (polled_as o o2 k held a p (Ok None) t there)
    told_polled o o2 k held a p (Err e) t receiving there = rw t.0 (polled_as o o2 k held a p (Err e) t there)

    -- a request is over where its poll shows a value, and else goes on
    polled_requests : {W : Type 0} (o o2 : Watch T) (known q : List (Option (Await J))) (r : ℕ) (w : W) (held : Await J) (a : Answer (WatchHeard T)) (p : Option (Await J)) (got : Result (Option T) AllocError) → slice_get q r ≡ Some (Some held) → PollsAs IsClone IsInfallible passes got o held a o2 p → known ≡ q → requests_after {C = Unit {0}} known (Poll r w) a ≡ slice_set q r p
    polled_requests o o2 known q r w held a p (Ok (Some v)) at t are = rw (t.0, t.2) (ap (λ l. slice_set l r None) are)
    polled_requests o o2 known q r w held a p (Ok None) at t are = rw (t.0, t.2) (are ∙ sym (set_there q r (Some held) at))
    polled_requests o o2 known q r w held a p (Err e) at t are = rw (t.0, t.2) (are ∙ sym (set_there q r (Some held) at))

    -- what stands at the number of a poll after it stood there before
    goes_on_as : (o o2 : Watch T) (held x : Await J) (a : Answer (WatchHeard T)) (p : Option (Await J)) (got : Result (Option T) AllocError) → PollsAs IsClone IsInfallible passes got o held a o2 p → p ≡ Some x → held ≡ x
    goes_on_as o o2 held x a p (Ok (Some v)) t e = (let f = sym t.2 ∙ e in absurd cc)
    goes_on_as o o2 held x a p (Ok None) t e = (let f = sym t.2 ∙ e in cc)
    goes_on_as o o2 held x a p (Err error) t e = (let f = sym t.2 ∙ e in cc)

    -- a read of the receiver at r that found this
    module _ (o : Watch T) (k : Bool) (r : ℕ) (read : Reading J) (s : Seen) (at : at_number o.receivers r ≡ Some s) where
      abbrev after_read : Option T → Watch T
      after_read p = with_read r (seen_after {E = AllocError} (marks o.version s.version read) o.version s.version (Ok p)) o

      told_here : (p : Option T) → r ≡ h → is_told read p ≡ true → IsThere (after_read p) true
      told_here p same e =
          let version : ℕ = seen_after {E = AllocError} (marks o.version s.version read) o.version s.version (Ok p) in
          (record s { version = version }, subst (λ n. at_number (with_seen r version o.receivers) n ≡ Some (record s { version = version })) same (seen_here o.receivers r version s at), told_seen read o.version s.version p e)

      found_as : (p : Option T) (b : Bool) → (r == h && is_told read p) ≡ b → IsThere o k → IsThere (after_read p) (if b then true else k)
      found_as p true e there =
          (let both = and_parts (r == h) (is_told read p) e in told_here p (same_number r h both.0) both.1)
      found_as p false e there =
          read_at o r _ s k at (seen_or_not {E = AllocError} (marks o.version s.version read) o.version s.version (Ok p)) there

    -- what is read for a newer version finds nothing
    finds_none : (o o2 later : Watch T) (a : Answer (WatchHeard T)) (got : Result (Option T) AllocError) → Answers IsClone IsInfallible None got → Tried got o later a o2 → a ≡ Gives (Found None)
    finds_none o o2 later a (Ok (Some v)) is t = absurd is
    finds_none o o2 later a (Ok None) is t = t.0
    finds_none o o2 later a (Err e) is t = absurd is

    no_news : (o o2 : Watch T) (r : ℕ) (read : Reading J) (a : Answer (WatchHeard T)) → ((s : Seen) → nat_lt s.version o.version ≡ false → sought passes o.value o.version s.version read ≡ None) → Reads IsClone IsInfallible passes (at_number o.receivers r) r read o a o2 → IsThere o true → r ≡ h → a ≡ Gives (Found None)
    no_news o o2 r read a hides t there same =
        let at : at_number o.receivers r ≡ Some there.0 = ap (at_number o.receivers) same ∙ there.1 in
        let t2 = subst (λ p. Reads IsClone IsInfallible passes p r read o a o2) at t in
        finds_none o o2 _ a t2.0 (subst (λ x. Answers IsClone IsInfallible x t2.0) (hides there.0 there.2) t2.1) t2.2

    -- so does what a poll looks for
    no_news_at : (o : Watch T) (r : ℕ) (read : Reading J) → ((s : Seen) → nat_lt s.version o.version ≡ false → sought passes o.value o.version s.version read ≡ None) → IsThere o true → r ≡ h → sought passes o.value o.version (seen_at o.receivers r) read ≡ None
    no_news_at o r read hides there same =
        let at : at_number o.receivers r ≡ Some there.0 = ap (at_number o.receivers) same ∙ there.1 in
        ap (λ p. sought passes o.value o.version (version_of p) read) at ∙ hides there.0 there.2

    module _ {C : Type 0} (n : ℕ) (changed : C → Option T → Option T) (tells : C → Option T → Bool) where
      tried : (o o2 : Watch T) (k : Bool) (r : ℕ) (read : Reading J) (s : Seen) (a : Answer (WatchHeard T)) (got : Result (Option T) AllocError) → at_number o.receivers r ≡ Some s → Tried got o (with_read r (seen_after (marks o.version s.version read) o.version s.version got) o) a o2 → IsThere o k → IsThere o2 (told_by {C = C} h k (Read r read) a)
      tried o o2 k r read s a (Ok p) at t there = rw t.0 (still (after_read o k r read s at p) o2 (if r == h && is_told read p then true else k) t.1 (found_as o k r read s at p (r == h && is_told read p) refl there))
      tried o o2 k r read s a (Err e) at t there = rw t.0 (still o o2 k t.1 there)

      reads : (o o2 : Watch T) (k : Bool) (r : ℕ) (read : Reading J) (p : Option Seen) (a : Answer (WatchHeard T)) → at_number o.receivers r ≡ p → Reads IsClone IsInfallible passes p r read o a o2 → IsThere o k → IsThere o2 (told_by {C = C} h k (Read r read) a)
      reads o o2 k r read None a at t there = rw t.0 (still o o2 k t.1 there)
      reads o o2 k r read (Some s) a at t there = tried o o2 k r read s a t.0 at t.2 there

      joined : (free room : Bool) (o o2 : Watch T) (k : Bool) (r : ℕ) (a : Answer (WatchHeard T)) → is_free r o.receivers ≡ free → Joins free room r o a o2 → IsThere o k → IsThere o2 k
      joined false room o o2 k r a free t there = still o o2 k t.1 there
      joined true true o o2 k r a free t there = elsewhere o o2 r _ k (λ s at. free_elsewhere r h o.receivers s free at) t.1 there
      joined true false o o2 k r a free t there = still o o2 k t.1 there

      joined_anon : (free : Bool) (o o2 : Watch T) (k : Bool) (r : ℕ) (a : Answer (WatchHeard T)) → is_free r o.receivers ≡ free → JoinsAnon free r o a o2 → IsThere o k → IsThere o2 k
      joined_anon false o o2 k r a free t there = still o o2 k t.1 there
      joined_anon true o o2 k r a free t there = elsewhere o o2 r _ k (λ s at. free_elsewhere r h o.receivers s free at) t.1 there

      left : (p : Option Seen) (o o2 : Watch T) (k : Bool) (r : ℕ) (a : Answer (WatchHeard T)) → Leaves p r o a o2 → IsThere o k → IsThere o2 (told_by {C = C} {J = J} h k (Leave r) a)
      left None o o2 k r a t there = rw t.0 (still o o2 k t.1 there)
      left (Some s) o o2 k r a t there = elim (same_or_not r h) [
        | inl same ↦ rw (t.0, equal_number r h same) tt
        | inr other ↦ rw (t.0, unequal_number r h other) (elsewhere o o2 r None k (λ s2 at. other) t.1 there)
      ]

      called : (o o2 : Watch T) (k : Bool) (call : WatchCall T C J) (a : Answer (WatchHeard T)) → Calls n IsClone IsInfallible changed tells passes o call a o2 → IsThere o k → IsThere o2 (told_by h k call a)
      called o o2 k (Receiver r) a t there = joined (is_free r o.receivers) _ o o2 k r a refl t there
      called o o2 k (Anon r) a t there = joined_anon (is_free r o.receivers) o o2 k r a refl t there
      called o o2 k (Leave r) a t there = left (at_number o.receivers r) o o2 k r a t there
      called o o2 k Clear a t there = cleared o o2 k t.1 there
      called o o2 k (Send value) a (Ok done, e, put, back) there = rw e tt
      called o o2 k (Send value) a (Err x, e, put, back) there = rw e (still o o2 k put.1 there)
      called o o2 k (Modify change) a (Ok done, e, put) there = rw e tt
      called o o2 k (Modify change) a (Err x, e, put) there = rw e (still o o2 k put.1 there)
      called o o2 k (ModifyIf change) a (Ok done, e, put) there = rw e tt
      called o o2 k (ModifyIf change) a (Err x, e, put) there = rw e (still o o2 k put.1 there)
      called o o2 k TryGet a (Ok p, is, t) there = still o o2 k t.1 there
      called o o2 k TryGet a (Err e, is, t) there = still o o2 k t.1 there
      called o o2 k (Read r read) a t there = reads o o2 k r read (at_number o.receivers r) a refl t there
      called o o2 k Id a t there = still o o2 k t.1 there
      called o o2 k Contains a t there = still o o2 k t.1 there

      not_at_a_number : (call : WatchCall T C J) (r : ℕ) → reach call ≡ Number r → ⊥
      not_at_a_number (Leave x) r e = cc
      not_at_a_number call r e = cc

      module _ (W : Type 0) where
        told_nothing : (told : Bool) (ask : Option (Await J)) → told_by_poll {T = T} h told ask NoSuch ≡ told
        told_nothing told None = refl
        told_nothing told (Some ask) = refl

        refused : (k : Account J) (c : Command (Await J) W (WatchCall T C J)) → after h k c NoSuch ≡ k
        refused k (Start r ask) = refl
        refused k (Poll r w) = ap (λ b. record { told = b; requests = k.requests }) (told_nothing k.told (at_number k.requests r))
        refused k (End r) = refl
        refused k (Call (Leave r)) = refl
        refused k (Call call) = refl

        -- the receiver is told, the requests are known, and their receivers are there
        abbrev Told : Object (Watch T) (Await J) → Account J → Type 0
        Told o k = IsThere o.core k.told × (k.requests ≡ o.requests) × AllAt (IsReceiving o.core) o.requests

        requests_alone : (requests : List (Option (Await J))) (call : WatchCall T C J) (a : Answer (WatchHeard T)) → reach call ≡ Nobody → requests_by requests call a ≡ requests
        requests_alone requests (Leave r) a e = cc
        requests_alone requests call a e = refl

        -- a receiver leaves, if one is there, and its requests end
        left_requests : (o o2 : Watch T) (q : List (Option (Await J))) (r : ℕ) (a : Answer (WatchHeard T)) (p : Option Seen) (ends : Await J → Bool) → ((x : Await J) → ends x ≡ (nat_eq x.receiver r && is_some p)) → Leaves p r o a o2 → requests_by {C = C} q (Leave r) a ≡ swept ends q
        left_requests o o2 q r a None ends is t = rw t.0 (sym (swept_nothing ends q (λ x. is x ∙ and-false (nat_eq x.receiver r))))
        left_requests o o2 q r a (Some s) ends is t = rw t.0 (swept_as (λ x. nat_eq x.receiver r) ends q (λ x. sym (is x ∙ and-true (nat_eq x.receiver r))))

        requests_leaving : (o o2 : Watch T) (q : List (Option (Await J))) (call : WatchCall T C J) (a : Answer (WatchHeard T)) → reach call ≡ Leavers → Calls n IsClone IsInfallible changed tells passes o call a o2 → requests_by q call a ≡ swept (leaves o call) q
        requests_leaving o o2 q (Leave r) a e t = left_requests o o2 q r a (at_number o.receivers r) (leaves {C = C} o (Leave r)) (λ x. refl) t
        requests_leaving o o2 q call a e t = cc

        any : W → W → Bool
        any v w = true

        receives_called : (o o2 : Watch T) (call : WatchCall T C J) (a : Answer (WatchHeard T)) (x : Await J) → Calls n IsClone IsInfallible changed tells passes o call a o2 → ended (watch_rules n IsClone IsInfallible changed tells passes) o (reach call) call x ≡ false → IsReceiving o x → IsReceiving o2 x
        receives_called o o2 call a x t stays receiving =
            let handed = handed_by_call (watch_wakings {J = J} any n tells) o [] call None a in
            (called_kept n IsClone IsInfallible changed tells passes any o o2 [] handed.after handed.wakes x receiving a call t (refl, refl) stays).fits receiving

        receives_polled : (o o2 : Watch T) (held : Await J) (w : W) (a : Answer (WatchHeard T)) (p : Option (Await J)) (x : Await J) → Polls IsClone IsInfallible passes o held a o2 p → IsReceiving o x → IsReceiving o2 x
        receives_polled o o2 held w a p x t receiving =
            let handed = handed_by_poll (watch_wakings {C = C} any n tells) o [] held w a p in
            (polled_kept n IsClone IsInfallible changed tells passes any o o2 [] handed.after handed.wakes held a p w (refl, refl) t x).fits receiving

        started_receives : (o : Watch T) (q : List (Option (Await J))) (r : ℕ) (ask x : Await J) → slice_get q r ≡ Some None → Begins (is_counted (at_number o.receivers ask.receiver)) ask (Some x) → AllAt (IsReceiving o) q → AllAt (IsReceiving o) (slice_set q r (Some x))
        started_receives o q r ask x at begins receiving s y e = elim (at_set q r None (Some x) s y at e) [
          | inl here ↦ (let same : x ≡ y = (let f = here.1 in cc) in subst (IsReceiving o) (begun_as _ ask x begins ∙ same) (begun_counted _ ask x begins))
          | inr other ↦ receiving s y other.1
        ]

        polled_receives : (o o2 : Watch T) (q : List (Option (Await J))) (r : ℕ) (w : W) (held : Await J) (a : Answer (WatchHeard T)) (p : Option (Await J)) → slice_get q r ≡ Some (Some held) → Polls IsClone IsInfallible passes o held a o2 p → AllAt (IsReceiving o) q → AllAt (IsReceiving o2) (slice_set q r p)
        polled_receives o o2 q r w held a p at t receiving s y e = elim (at_set q r (Some held) p s y at e) [
          | inl here ↦ receives_polled o o2 held w a p y t (subst (IsReceiving o) (goes_on_as o o2 held y a p t.0 t.2 here.1) (receiving r held (at_of q r (Some held) at)))
          | inr other ↦ receives_polled o o2 held w a p y t (receiving s y other.1)
        ]

        ended_receives : (o : Watch T) (q : List (Option (Await J))) (r : ℕ) (held : Await J) → slice_get q r ≡ Some (Some held) → AllAt (IsReceiving o) q → AllAt (IsReceiving o) (slice_set q r None)
        ended_receives o q r held at receiving s y e = elim (at_set q r (Some held) None s y at e) [
          | inl here ↦ absurd cc
          | inr other ↦ receiving s y other.1
        ]

        keeps : EachStep (watch_rules n IsClone IsInfallible changed tells passes) (KeepsTold (watch_rules n IsClone IsInfallible changed tells passes) (λ c. Unit {0}) (after {W = W} h) Told)
        keeps = record {
          refused = λ o c k kind told. subst (λ x. Told o x) (sym (refused k c)) told;
          starts = λ o r ask x at begins k kind told. (
            told.0,
            ap (λ l. slice_set l r (Some ask)) told.1 ∙ ap (λ y. slice_set o.requests r (Some y)) (begun_as _ ask x begins),
            started_receives o.core o.requests r ask x at begins told.2,
          );
          polls = λ o r w x a core p at t k kind told. (
            let there : at_number o.requests r ≡ Some x = at_of o.requests r (Some x) at in
                subst (λ y. IsThere core (told_by_poll h k.told y a)) (sym (ap (λ l. at_number l r) told.1 ∙ there)) (told_polled o.core core k.told x a p t.0 t.2 (told.2 r x there) told.0),
            polled_requests o.core core k.requests o.requests r w x a p t.0 at t.2 told.1,
            polled_receives o.core core o.requests r w x a p at t told.2,
          );
          ends = λ o r x core at e k kind told. (
            still o.core core k.told e told.0,
            ap (λ l. slice_set l r None) told.1,
            subst (λ z. AllAt (IsReceiving z) (slice_set o.requests r None)) (sym e) (ended_receives o.core o.requests r x at told.2),
          );
          calls = λ o call r p a core p2 at there t k kind told. absurd (not_at_a_number call r at);
          alone = λ o call a core p at t k kind told. (
            called o.core core k.told call a t.0 told.0,
            requests_alone k.requests call a at ∙ told.1,
            λ s y e. receives_called o.core core call a y t.0 (ap (λ z. ended (watch_rules n IsClone IsInfallible changed tells passes) o.core z call y) at) (told.2 s y e),
          );
          leaves = λ o call a core p at t k kind told. (
            called o.core core k.told call a t.0 told.0,
            ap (λ l. requests_by l call a) told.1 ∙ requests_leaving o.core core o.requests call a at t.0,
            λ s y e. let f = swept_at (leaves o.core call) o.requests s y e in receives_called o.core core call a y t.0 (ap (λ z. ended (watch_rules n IsClone IsInfallible changed tells passes) o.core z call y) at ∙ f.1) (told.2 s y f.0),
          );
        }

        -- a request of the receiver finds no news
        polled_tells : (o o2 : Watch T) (a : Answer (WatchHeard T)) (ask : Await J) (p : Option (Await J)) → Polls IsClone IsInfallible passes o ask a o2 p → sought passes o.value o.version (seen_at o.receivers ask.receiver) ask.read ≡ None → a ≡ Pending
        polled_tells o o2 a ask p t none =
            (only_waits n IsClone IsInfallible changed tells passes o ask a o2 p t.0 (subst (λ y. Answers IsClone IsInfallible y t.0) none t.1) t.2).0

        waits_on : (o o2 : Watch T) (a : Answer (WatchHeard T)) (receiver : ℕ) (read : Reading J) (p : Option (Await J)) → Polls IsClone IsInfallible passes o (record { receiver = receiver; read = read }) a o2 p → IsThere o true → WaitsOn h receiver read a
        waits_on o o2 a receiver Get p t there = tt
        waits_on o o2 a receiver Changed p t there = λ same.
            polled_tells o o2 a (record { receiver = receiver; read = Changed }) p t (no_news_at o receiver Changed (λ s seen. rw seen refl) there same)
        waits_on o o2 a receiver (GetAnd judge) p t there = tt
        waits_on o o2 a receiver (ChangedAnd judge) p t there = λ same.
            polled_tells o o2 a (record { receiver = receiver; read = ChangedAnd judge }) p t (no_news_at o receiver (ChangedAnd judge) (λ s seen. rw seen refl) there same)

        -- by what stands at the number of a poll
        waits_on_for : (o o2 : Object (Watch T) (Await J)) (r : ℕ) (w : W) (a : Answer (WatchHeard T)) (p : Option (Option (Await J))) → AllowsAt (watch_rules n IsClone IsInfallible changed tells passes) o (Poll r w) r p a o2 → IsThere o.core true → WaitsOnFor h (flat p) a
        waits_on_for o o2 r w a None allowed there = allowed.0
        waits_on_for o o2 r w a (Some None) allowed there = allowed.2.0
        waits_on_for o o2 r w a (Some (Some ask)) allowed there = waits_on o.core allowed.0 a ask.receiver ask.read allowed.1 allowed.2 there

        tells_no_more : (o o2 : Object (Watch T) (Await J)) (told : Bool) (requests : List (Option (Await J))) (c : Command (Await J) W (WatchCall T C J)) (a : Answer (WatchHeard T)) → Allows (watch_rules n IsClone IsInfallible changed tells passes) o c a o2 → Told o (record { told = told; requests = requests }) → TellsNoMore h told requests c a
        tells_no_more o o2 false requests c a allowed told = tt
        tells_no_more o o2 true requests (Start r ask) a allowed told = tt
        tells_no_more o o2 true requests (Poll r w) a allowed told =
            subst (λ q. WaitsOnFor h (at_number q r) a) (sym told.1) (waits_on_for o o2 r w a (slice_get o.requests r) allowed told.0)
        tells_no_more o o2 true requests (End r) a allowed told = tt
        tells_no_more o o2 true requests (Call (Read r Changed)) a allowed told =
            no_news o.core allowed.0 r Changed a (λ s seen. rw seen refl) allowed.2.0 told.0
        tells_no_more o o2 true requests (Call (Read r (ChangedAnd judge))) a allowed told =
            no_news o.core allowed.0 r (ChangedAnd judge) a (λ s seen. rw seen refl) allowed.2.0 told.0
        tells_no_more o o2 true requests (Call call) a allowed told = tt

-- whatever wakers the watch hands out
pub tells_once : {T C J W : Type 0} (n : ℕ) (IsClone : T → T → Type 0) (IsInfallible : T → Type 0) (changed : C → Option T → Option T) (tells : C → Option T → Bool) (passes : J → T → Bool) (H : Wakings (Watch T) (Await J) (WatchCall T C J) (WatchHeard T) W) (eq : W → W → Bool) (K h : ℕ) (o o2 : Object (Watch T) (Await J)) (g g2 : H.Registered) (cs : List (Command (Await J) W (WatchCall T C J))) (as' : List (Reply (Answer (WatchHeard T)) W K)) → GoodRun (requests_meaning (watch_rules n IsClone IsInfallible changed tells passes) H eq K) o g cs as' o2 g2 → AllAt (IsReceiving o.core) o.requests → TellsOnce h o.requests cs as'
tells_once {T} {C} {J} {W} n IsClone IsInfallible changed tells passes H eq K h o o2 g g2 cs as' run receiving =
    let rules = watch_rules n IsClone IsInfallible changed tells passes in
    law_run (requests_meaning rules H eq K) (λ c. Unit {0}) (λ k c a. after h k c a.answer) (Told h IsClone IsInfallible passes n changed tells W)
    (λ o o2 k c a kind allowed. each_step rules (keeps h IsClone IsInfallible passes n changed tells W) o o2 c a.answer allowed k kind)
    (λ k c a. TellsNoMore h k.told k.requests c a.answer) (λ o o2 k c a kind allowed told. tells_no_more h IsClone IsInfallible passes n changed tells W o o2 k.told k.requests c a.answer allowed told)
    o o2 g g2 (at_first o.requests) cs as' (of_any_kind cs) run (tt, refl, receiving)
