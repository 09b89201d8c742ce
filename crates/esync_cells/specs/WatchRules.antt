-- What a watch allows for each request and each call, and which wakers it hands out.
use Rattle.std.specs.Prelude.{◌≡◌, ℕ, ◌+◌, ◌<◌, ◌&&◌, Bool, true, false, List, Option, Some, None, Result, Ok, Err, IfErr, is_some, nat_lt, nat_eq, slice_set, if◌then◌else◌}
use Rattle.std.specs.declared.alloc.AllocError.{AllocError}
use Rattle.esync_base.specs.Registration.{IsAmong, registered, displaced}
use Rattle.esync_machine.specs.declared.primitive.Answer.{Answer}
use Rattle.esync_machine.specs.declared.primitive.Answer.TheVariants.{Done, Pending, NoMemory, Gives}
use Rattle.esync_machine.specs.declared.primitive.Reach.{Reach}
use Rattle.esync_machine.specs.declared.primitive.Reach.TheVariants.{Nobody, Leavers}
use Rattle.esync_machine.specs.Numbers.{at_number}
use Rattle.esync_machine.specs.Names.{is_free, Where}
use Rattle.esync_machine.specs.Rules.{Rules, Alone}
use Rattle.esync_machine.specs.Wakings.{Wakings, Handed, nothing, hands_out, is_pending}
use Rattle.esync_cells.specs.Watch.{judged, found, Answers, seen_after, last_version}
use Rattle.esync_cells.specs.Receivers.{Followed, is_counted, count, version_of, seen_at, with_seen}
use Rattle.esync_cells.specs.declared.watch.Exhausted.{Exhausted}
use Rattle.esync_cells.specs.declared.watch.machine.Seen.{Seen}
use Rattle.esync_cells.specs.declared.watch.machine.Reading.{Reading}
use Rattle.esync_cells.specs.declared.watch.machine.Reading.TheVariants.{Get, Changed, GetAnd, ChangedAnd}
use Rattle.esync_cells.specs.declared.watch.machine.Await.{Await}
use Rattle.esync_cells.specs.declared.watch.machine.WatchCall.{WatchCall}
use Rattle.esync_cells.specs.declared.watch.machine.WatchCall.TheVariants.{Receiver, Anon, Leave, Clear, Send, Modify, ModifyIf, TryGet, Read, Id, Contains}
use Rattle.esync_cells.specs.declared.watch.machine.WatchHeard.{WatchHeard}
use Rattle.esync_cells.specs.declared.watch.machine.WatchHeard.TheVariants.{Waited, Counted, Sent, Modified, Found, Version, HasValue}

-- the object: the latest value, if there is one, with its version, and the receivers
pub record Watch (T : Type 0) : Type 0 where
  pub value : Option T
  pub version : ℕ
  pub receivers : List (Option Seen)

abbrev pub watch_of : {T W : Type 0} → Followed T W → Watch T
watch_of m = record { value = m.state.value; version = m.state.version; receivers = m.receivers }

-- whether a read shows a value of one version to a receiver that has seen another
abbrev pub shows : {T J : Type 0} → (J → T → Bool) → Option T → ℕ → ℕ → Reading J → Bool
shows passes value version seen Get = true
shows passes value version seen Changed = nat_lt seen version
shows passes value version seen (GetAnd judge) = judged (passes judge) value
shows passes value version seen (ChangedAnd judge) = nat_lt seen version && judged (passes judge) value

-- what a read finds
abbrev pub sought : {T J : Type 0} → (J → T → Bool) → Option T → ℕ → ℕ → Reading J → Option T
sought passes value version seen read = found (shows passes value version seen read) value

-- whether a read marks the version as seen even if it finds nothing
abbrev pub marks : {J : Type 0} → ℕ → ℕ → Reading J → Bool
marks version seen Get = true
marks version seen Changed = nat_lt seen version
marks version seen (GetAnd judge) = false
marks version seen (ChangedAnd judge) = false

-- the object after the receiver at a number has seen this version
abbrev pub with_read : {T : Type 0} → ℕ → ℕ → Watch T → Watch T
with_read h version o = record o { receivers = with_seen h version o.receivers }

-- the object with this receiver at a number, or with none there
abbrev pub with_receiver : {T : Type 0} → ℕ → Option Seen → Watch T → Watch T
with_receiver h p o = record o { receivers = slice_set o.receivers h p }

-- only a counted receiver waits
abbrev pub Begins : {J : Type 0} → Bool → Await J → Option (Await J) → Type 0
Begins true ask p = p ≡ Some ask
Begins false ask p = p ≡ None

-- which numbers a call concerns
abbrev pub reach : {T C J : Type 0} → WatchCall T C J → Reach
reach (Leave h) = Leavers
reach call = Nobody

-- a receiver that leaves ends its requests
abbrev pub leaves : {T C J : Type 0} → Watch T → WatchCall T C J → Await J → Bool
leaves o (Leave h) held = nat_eq held.receiver h && is_some (at_number o.receivers h)
leaves o call held = false

module _ {T : Type 0} where
  -- a counted receiver is made, if its number is free and there is room for one more
  abbrev pub Joins : Bool → Bool → ℕ → Watch T → Answer (WatchHeard T) → Watch T → Type 0
  Joins free room h o a o2 =
      Where free o ((a ≡ Gives (Counted room)) × (o2 ≡ (if room then with_receiver h (Some (record { is_counted = true; version = 0 })) o else o))) a o2

  -- an anonymous receiver is made, if its number is free
  abbrev pub JoinsAnon : Bool → ℕ → Watch T → Answer (WatchHeard T) → Watch T → Type 0
  JoinsAnon free h o a o2 = Where free o ((a ≡ Done) × (o2 ≡ with_receiver h (Some (record { is_counted = false; version = 0 })) o)) a o2

  -- the receiver at the number leaves, if there is one
  abbrev pub Leaves : Option Seen → ℕ → Watch T → Answer (WatchHeard T) → Watch T → Type 0
  Leaves p h o a o2 = Where (is_some p) o ((a ≡ Done) × (o2 ≡ with_receiver h None o)) a o2

  -- a value is put under the next version, unless a change says that it did nothing, or versions have run out
  abbrev pub Puts : {A E : Type 0} → Option T → Bool → Result A E → Watch T → Watch T → Type 0
  Puts value tells (Err e) o o2 = (o.version ≡ last_version) × (o2 ≡ o)
  Puts value true (Ok done) o o2 = (o.version < last_version) × (o2 ≡ record o { value = value; version = o.version + 1 })
  Puts value false (Ok done) o o2 = (o.version < last_version) × (o2 ≡ o)

  abbrev pub Sends : T → Watch T → Answer (WatchHeard T) → Watch T → Type 0
  Sends value o a o2 = (sent : Result (Unit {0}) (Exhausted T)) × (a ≡ Gives (Sent sent)) × Puts (Some value) true sent o o2 × IfErr sent (λ back. back.0 ≡ value)

  abbrev pub Modifies : Option T → Bool → Watch T → Answer (WatchHeard T) → Watch T → Type 0
  Modifies value tells o a o2 = (sent : Result (Unit {0}) (Exhausted (Unit {0}))) × (a ≡ Gives (Modified sent)) × Puts value tells sent o o2

  -- a read that found this, or had no memory for a clone, so that nothing changes
  abbrev pub Tried : Result (Option T) AllocError → Watch T → Watch T → Answer (WatchHeard T) → Watch T → Type 0
  Tried (Ok got) o after a o2 = (a ≡ Gives (Found got)) × (o2 ≡ after)
  Tried (Err e) o after a o2 = (a ≡ NoMemory) × (o2 ≡ o)

-- a read of the watch itself, for no receiver
abbrev pub TriesGet : {T : Type 0} → (T → T → Type 0) → (T → Type 0) → Watch T → Answer (WatchHeard T) → Watch T → Type 0
TriesGet {T} IsClone IsInfallible o a o2 = (got : Result (Option T) AllocError) × Answers IsClone IsInfallible o.value got × Tried got o o a o2

-- What reads and polls do, by what a clone is and what tests mean.
module _ {T J : Type 0} (IsClone : T → T → Type 0) (IsInfallible : T → Type 0) (passes : J → T → Bool) where
  -- a poll that found this marks the version, waits if it found nothing, and changes nothing if a clone had no memory
  abbrev pub PollsAs : Result (Option T) AllocError → Watch T → Await J → Answer (WatchHeard T) → Watch T → Option (Await J) → Type 0
  PollsAs (Ok (Some value)) o h a o2 p = (a ≡ Gives (Waited value)) × (o2 ≡ with_read h.receiver o.version o) × (p ≡ None)
  PollsAs (Ok None) o h a o2 p = (a ≡ Pending) × (o2 ≡ o) × (p ≡ Some h)
  PollsAs (Err e) o h a o2 p = (a ≡ NoMemory) × (o2 ≡ o) × (p ≡ Some h)

  abbrev pub Polls : Watch T → Await J → Answer (WatchHeard T) → Watch T → Option (Await J) → Type 0
  Polls o h a o2 p = (got : Result (Option T) AllocError) × Answers IsClone IsInfallible (sought passes o.value o.version (seen_at o.receivers h.receiver) h.read) got × PollsAs got o h a o2 p

  -- a read for the receiver at the number, if there is one
  abbrev pub Reads : Option Seen → ℕ → Reading J → Watch T → Answer (WatchHeard T) → Watch T → Type 0
  Reads p h read o a o2 =
      Where (is_some p) o ((got : Result (Option T) AllocError)
      × Answers IsClone IsInfallible (sought passes o.value o.version (version_of p) read) got
      × Tried got o (with_read h (seen_after (marks o.version (version_of p) read) o.version (version_of p) got) o) a o2) a o2

-- What calls do with at most n counted receivers, by what a clone is and what changes and tests mean.
module _ {T C J : Type 0} (n : ℕ) (IsClone : T → T → Type 0) (IsInfallible : T → Type 0) (changed : C → Option T → Option T) (tells : C → Option T → Bool) (passes : J → T → Bool) where
  abbrev pub Calls : Watch T → WatchCall T C J → Answer (WatchHeard T) → Watch T → Type 0
  Calls o (Receiver h) a o2 = Joins (is_free h o.receivers) (nat_lt (count o.receivers) n) h o a o2
  Calls o (Anon h) a o2 = JoinsAnon (is_free h o.receivers) h o a o2
  Calls o (Leave h) a o2 = Leaves (at_number o.receivers h) h o a o2
  Calls o Clear a o2 = (a ≡ Done) × (o2 ≡ record o { value = None })
  Calls o (Send value) a o2 = Sends value o a o2
  Calls o (Modify change) a o2 = Modifies (changed change o.value) true o a o2
  Calls o (ModifyIf change) a o2 = Modifies (changed change o.value) (tells change o.value) o a o2
  Calls o TryGet a o2 = TriesGet IsClone IsInfallible o a o2
  Calls o (Read h read) a o2 = Reads IsClone IsInfallible passes (at_number o.receivers h) h read o a o2
  Calls o Id a o2 = (a ≡ Gives (Version o.version)) × (o2 ≡ o)
  Calls o Contains a o2 = (a ≡ Gives (HasValue (is_some o.value))) × (o2 ≡ o)

  abbrev pub watch_rules : Rules (Await J) (Await J) (WatchCall T C J) (WatchHeard T)
  watch_rules = record {
    Core = Watch T;
    begins = λ o ask p. Begins (is_counted (at_number o.receivers ask.receiver)) ask p;
    polls = Polls IsClone IsInfallible passes;
    ends = λ o h o2. o2 ≡ o;
    reach = reach;
    calls = Alone Calls;
    leaves = leaves;
    IsRequest = λ h. Unit {0};
    WakesItself = ⊥;
  }

-- a value that was sent hands out the registered wakers
abbrev pub sent_hands : {A E W : Type 0} → Bool → Result A E → List W → Handed (List W) W
sent_hands tells (Err e) waiters = nothing waiters
sent_hands true (Ok done) waiters = hands_out waiters
sent_hands false (Ok done) waiters = nothing waiters

abbrev pub answer_hands : {T W : Type 0} → Bool → Answer (WatchHeard T) → List W → Handed (List W) W
answer_hands tells (Gives (Sent sent)) waiters = sent_hands tells sent waiters
answer_hands tells (Gives (Modified sent)) waiters = sent_hands tells sent waiters
answer_hands tells a waiters = nothing waiters

-- a poll that finds nothing registers its waker in the list of at most n wakers
abbrev pub poll_hands : {W : Type 0} → (W → W → Bool) → ℕ → List W → W → Bool → Handed (List W) W
poll_hands eq n waiters w true = record { wakes = displaced eq n waiters w; after = registered eq n waiters w }
poll_hands eq n waiters w false = nothing waiters

abbrev pub call_hands : {T C J W : Type 0} → (C → Option T → Bool) → Watch T → List W → WatchCall T C J → Answer (WatchHeard T) → Handed (List W) W
call_hands tells o waiters (Send value) a = answer_hands true a waiters
call_hands tells o waiters (Modify change) a = answer_hands true a waiters
call_hands tells o waiters (ModifyIf change) a = answer_hands (tells change o.value) a waiters
call_hands tells o waiters call a = nothing waiters

abbrev pub watch_wakings : {T C J W : Type 0} → (W → W → Bool) → ℕ → (C → Option T → Bool) → Wakings (Watch T) (Await J) (WatchCall T C J) (WatchHeard T) W
watch_wakings {W = W} eq n tells = record {
  Registered = List W;
  polls = λ o waiters h w a p. poll_hands eq n waiters w (is_pending a);
  ends = λ o waiters h. nothing waiters;
  calls = λ o waiters call p a. call_hands tells o waiters call a;
}

-- a request is that of a counted receiver
abbrev pub IsReceiving : {T J : Type 0} → Watch T → Await J → Type 0
IsReceiving o h = is_counted (at_number o.receivers h.receiver) ≡ true

-- the read finds nothing now, and the waker is registered for news
abbrev pub OwesNews : {T J W : Type 0} → (J → T → Bool) → (W → W → Bool) → Watch T → List W → Await J → W → Type 0
OwesNews passes eq o waiters h w = (sought passes o.value o.version (seen_at o.receivers h.receiver) h.read ≡ None) × IsAmong eq w waiters
