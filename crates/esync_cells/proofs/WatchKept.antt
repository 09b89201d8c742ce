-- What the steps of a watch keep for its requests.
use Rattle.std.proofs.Common.{◌≡◌, ℕ, ◌<◌, ◌&&◌, Bool, true, false, List, [], ◌++◌, Option, Some, None, nat_lt, ◌⊎◌, inl, inr, refl, ap, subst, sym, ◌∙◌, arith}
use Rattle.std.specs.Prelude.{Result, Ok, Err, OnOk, OnErr, is_some, nat_eq, slice_set}
use Rattle.std.specs.declared.alloc.AllocError.{AllocError}
use Rattle.std.proofs.lemmas.Bool.Decides.{nat_tests}
use Rattle.esync_base.specs.ListedLaws.{equal_number}
use Rattle.esync_base.specs.Registration.{IsAmong, registered, displaced}
use Rattle.esync_base.specs.RegistrationLaws.{has_registered, kept_or_displaced, not_displaced}
use Rattle.esync_machine.specs.Numbers.{at_number}
use Rattle.esync_machine.specs.NumbersLaws.{set_there, there_of, at_set_other}
use Rattle.esync_machine.specs.Names.{is_free}
use Rattle.esync_machine.specs.Rules.{ended, IsApart}
use Rattle.esync_machine.specs.Wakings.{IsHanded, nothing, unless_refused, called, polled}
use Rattle.esync_machine.specs.declared.primitive.Answer.{Answer}
use Rattle.esync_machine.specs.declared.primitive.Answer.TheVariants.{Done, Pending, NoSuch, NoMemory, Gives}
use Rattle.esync_cells.specs.Watch.{Watching, Answers, found, seen_after, last_version, sent, woken_by, sent_if, woken_if}
use Rattle.esync_cells.specs.Receivers.{Followed, is_counted, version_of, seen_at, with_seen, with_seen_if}
use Rattle.esync_cells.specs.ReceiversLaws.{someone, free_elsewhere, at_marked}
use Rattle.esync_cells.specs.WatchRules.{Watch, watch_of, sought, marks, with_read, with_receiver, Polls, PollsAs, Calls, Joins, JoinsAnon, Leaves, Puts, Tried, Reads, reach, leaves, watch_rules, watch_wakings, sent_hands, answer_hands, IsReceiving, OwesNews}
use Rattle.esync_cells.specs.declared.watch.machine.Seen.{Seen}
use Rattle.esync_cells.specs.declared.watch.machine.Reading.{Reading}
use Rattle.esync_cells.specs.declared.watch.machine.Reading.TheVariants.{Get, Changed, GetAnd, ChangedAnd}
use Rattle.esync_cells.specs.declared.watch.machine.Await.{Await}
use Rattle.esync_cells.specs.declared.watch.machine.WatchCall.{WatchCall}
use Rattle.esync_cells.specs.declared.watch.machine.WatchCall.TheVariants.{Receiver, Anon, Leave, Clear, Send, Modify, ModifyIf, TryGet, Read, Id, Contains}
use Rattle.esync_cells.specs.declared.watch.machine.WatchHeard.{WatchHeard}

-- a send is a change that tells
module _ {T W A E : Type 0} (s : Watching T W) (value : Option T) where
  pub sent_as : (r : Result A E) → sent s value r ≡ sent_if s value true r
  sent_as (Ok done) = refl
  sent_as (Err e) = refl

  pub woken_as : (r : Result A E) → woken_by r s.waiters ≡ woken_if true r s.waiters
  woken_as (Ok done) = refl
  woken_as (Err e) = refl

-- what is put tells the object and the wakers that are handed out
module _ {T W A E : Type 0} (s s2 : Watching T W) (value : Option T) where
  pub same_count : (tells : Bool) (r : Result A E) → s2 ≡ sent_if s value tells r → s2.receivers ≡ s.receivers
  same_count tells (Err e) is = ap (λ (x : Watching T W). x.receivers) is
  same_count true (Ok done) is = ap (λ (x : Watching T W). x.receivers) is
  same_count false (Ok done) is = ap (λ (x : Watching T W). x.receivers) is

  pub puts : (q : List (Option Seen)) (tells : Bool) (r : Result A E) → OnOk r (s.version < last_version) → OnErr r (s.version ≡ last_version) → s2 ≡ sent_if s value tells r → Puts value tells r (watch_of (record { state = s; receivers = q })) (watch_of (record { state = s2; receivers = q }))
  puts q tells (Err e) room last is = (last, ap (λ (x : Watching T W). watch_of (record { state = x; receivers = q })) is)
  puts q true (Ok done) room last is = (room, ap (λ (x : Watching T W). watch_of (record { state = x; receivers = q })) is)
  puts q false (Ok done) room last is = (room, ap (λ (x : Watching T W). watch_of (record { state = x; receivers = q })) is)

  pub hands : (wakes wakes2 : List W) (tells : Bool) (r : Result A E) → wakes ≡ [] → wakes2 ≡ wakes ++ woken_if tells r s.waiters → s2 ≡ sent_if s value tells r → IsHanded (sent_hands tells r s.waiters) wakes2 s2.waiters
  hands wakes wakes2 tells (Err e) none more is = (more ∙ ap (λ l. l ++ []) none, ap (λ (x : Watching T W). x.waiters) is)
  hands wakes wakes2 true (Ok done) none more is = (more ∙ ap (λ l. l ++ s.waiters) none, ap (λ (x : Watching T W). x.waiters) is)
  hands wakes wakes2 false (Ok done) none more is = (more ∙ ap (λ l. l ++ []) none, ap (λ (x : Watching T W). x.waiters) is)

-- a step that hands out nothing, whatever is answered
pub hands_none : {A G W : Type 0} (a : Answer A) (g : G) → unless_refused {W = W} a g (nothing g) ≡ nothing g
hands_none Done g = refl
hands_none Pending g = refl
hands_none NoSuch g = refl
hands_none NoMemory g = refl
hands_none (Gives x) g = refl

pub handed_none : {A G W : Type 0} (a : Answer A) (g g2 : G) (wakes : List W) → wakes ≡ [] → g2 ≡ g → IsHanded (unless_refused a g (nothing g)) wakes g2
handed_none a g g2 wakes none same = rw (hands_none a g) (none, same)

-- a step that hands out what its answer tells, also where it was refused
pub handed_as : {T W : Type 0} (tells : Bool) (a : Answer (WatchHeard T)) (waiters wakes waiters2 : List W) → IsHanded (answer_hands tells a waiters) wakes waiters2 → IsHanded (unless_refused a waiters (answer_hands tells a waiters)) wakes waiters2
handed_as tells Done waiters wakes waiters2 h = h
handed_as tells Pending waiters wakes waiters2 h = h
handed_as tells NoSuch waiters wakes waiters2 h = h
handed_as tells NoMemory waiters wakes waiters2 h = h
handed_as tells (Gives x) waiters wakes waiters2 h = h

pub not_newer : (version : ℕ) → nat_lt version version ≡ false
not_newer version = grind (arith, nat_tests)

found_none : {T : Type 0} (b : Bool) → found {T = T} b None ≡ None
found_none true = refl
found_none false = refl

pub seen_or_not : {T E : Type 0} (marks : Bool) (version seen : ℕ) (r : Result (Option T) E) → (seen_after marks version seen r ≡ version) ⊎ (seen_after marks version seen r ≡ seen)
seen_or_not marks version seen (Ok (Some v)) = inl refl
seen_or_not true version seen (Ok None) = inl refl
seen_or_not false version seen (Ok None) = inr refl
seen_or_not marks version seen (Err e) = inr refl

-- a receiver that has seen what it had seen
pub seen_same : (q : List (Option Seen)) (h : ℕ) (s : Seen) → at_number q h ≡ Some s → with_seen h s.version q ≡ q
seen_same q h s there = ap (λ p. with_seen_if h s.version p q) there ∙ set_there q h (Some s) (there_of q h s there)

module _ {T J : Type 0} (passes : J → T → Bool) where
  -- who finds nothing finds nothing once the version is marked
  hides : (value : Option T) (version seen : ℕ) (read : Reading J) → sought passes value version seen read ≡ None → sought passes value version version read ≡ None
  hides value version seen Get e = e
  hides value version seen Changed e = rw (not_newer version) refl
  hides value version seen (GetAnd judge) e = e
  hides value version seen (ChangedAnd judge) e = rw (not_newer version) refl

  -- the receiver is counted still, and a request that found nothing finds nothing
  record Stays (o o2 : Watch T) (k : Await J) : Type 0 where
    fits : IsReceiving o k → IsReceiving o2 k
    finds : sought passes o.value o.version (seen_at o.receivers k.receiver) k.read ≡ None → sought passes o2.value o2.version (seen_at o2.receivers k.receiver) k.read ≡ None

  stays_same : (o o2 : Watch T) (k : Await J) → o2 ≡ o → Stays o o2 k
  stays_same o o2 k e = subst (λ x. Stays o x k) (sym e) (record { fits = λ h. h; finds = λ h. h })

  stays_at : (o : Watch T) (q : List (Option Seen)) (k : Await J) → at_number q k.receiver ≡ at_number o.receivers k.receiver → Stays o (record o { receivers = q }) k
  stays_at o q k e = record {
    fits = λ h. subst (λ p. is_counted p ≡ true) (sym e) h;
    finds = λ h. subst (λ p. sought passes o.value o.version (version_of p) k.read ≡ None) (sym e) h;
  }

  stays_marked : (o : Watch T) (h : ℕ) (k : Await J) → Stays o (with_read h o.version o) k
  stays_marked o h k = elim (at_marked h o.version o.receivers k.receiver) [
    | inl e ↦ stays_at o _ k e
    | inr m ↦ record {
      fits = λ f. subst (λ p. is_counted p ≡ true) (sym m.2) (subst (λ p. is_counted p ≡ true) m.1 f);
      finds = λ f. subst (λ p. sought passes o.value o.version (version_of p) k.read ≡ None) (sym m.2) (hides o.value o.version (seen_at o.receivers k.receiver) k.read f);
    }
  ]

  stays_seen : (o : Watch T) (h version : ℕ) (s : Seen) (k : Await J) → at_number o.receivers h ≡ Some s → (version ≡ o.version) ⊎ (version ≡ s.version) → Stays o (with_read h version o) k
  stays_seen o h version s k there (inl e) = subst (λ v. Stays o (with_read h v o) k) (sym e) (stays_marked o h k)
  stays_seen o h version s k there (inr e) =
      let kept : Stays o (with_read h s.version o) k = stays_same o _ k (ap (λ q. record o { receivers = q }) (seen_same o.receivers h s there)) in
      subst (λ v. Stays o (with_read h v o) k) (sym e) kept

  stays_without : (o : Watch T) (k : Await J) → Stays o (record o { value = None }) k
  stays_without o k = record { fits = λ h. h; finds = λ h. found_none _ }

module _ {T J W : Type 0} (passes : J → T → Bool) (eq : W → W → Bool) where
  -- the receiver is counted still, and what is owed stays owed, or is handed out
  pub record Kept (o : Watch T) (waiters wakes : List W) (o2 : Watch T) (waiters2 : List W) (k : Await J) : Type 0 where
    pub fits : IsReceiving o k → IsReceiving o2 k
    pub owed : (v : W) → OwesNews passes eq o waiters k v → IsAmong eq v wakes ⊎ OwesNews passes eq o2 waiters2 k v

  kept_stays : (o o2 : Watch T) (waiters waiters2 wakes : List W) (k : Await J) → Stays passes o o2 k → waiters2 ≡ waiters → Kept o waiters wakes o2 waiters2 k
  kept_stays o o2 waiters waiters2 wakes k stays e = record {
    fits = stays.fits;
    owed = λ v h. inr (stays.finds h.0, subst (λ l. IsAmong eq v l) (sym e) h.1);
  }

  kept_handed : (o o2 : Watch T) (waiters waiters2 wakes : List W) (k : Await J) → o2.receivers ≡ o.receivers → wakes ≡ waiters → Kept o waiters wakes o2 waiters2 k
  kept_handed o o2 waiters waiters2 wakes k same e = record {
    fits = λ f. subst (λ q. is_counted (at_number q k.receiver) ≡ true) (sym same) f;
    owed = λ v h. inl (subst (λ l. IsAmong eq v l) (sym e) h.1);
  }

  kept_registered : (n : ℕ) (o o2 : Watch T) (waiters waiters2 wakes : List W) (w : W) (k : Await J) → o2 ≡ o → wakes ≡ displaced eq n waiters w → waiters2 ≡ registered eq n waiters w → Kept o waiters wakes o2 waiters2 k
  kept_registered n o o2 waiters waiters2 wakes w k same out in_ = record {
    fits = λ f. subst (λ x. IsReceiving x k) (sym same) f;
    owed = λ v h. elim (kept_or_displaced eq n waiters v w h.1) [
      | inl x ↦ inl (subst (λ l. IsAmong eq v l) (sym out) x)
      | inr x ↦ inr (subst (λ y. sought passes y.value y.version (seen_at y.receivers k.receiver) k.read ≡ None) (sym same) h.0, subst (λ l. IsAmong eq v l) (sym in_) x)
    ];
  }

module _ {T C J W : Type 0} (n : ℕ) (IsClone : T → T → Type 0) (IsInfallible : T → Type 0) (changed : C → Option T → Option T) (tells : C → Option T → Bool) (passes : J → T → Bool) (eq : W → W → Bool) (o o2 : Watch T) (waiters waiters2 wakes : List W) where
  -- by a poll
  module _ (h : Await J) (a : Answer (WatchHeard T)) (p : Option (Await J)) (w : W) (handed : IsHanded (polled (watch_wakings {C = C} eq n tells) o waiters h w a p) wakes waiters2) where
    polled_as : (got : Result (Option T) AllocError) → PollsAs IsClone IsInfallible passes got o h a o2 p → (k : Await J) → Kept passes eq o waiters wakes o2 waiters2 k
    polled_as (Ok (Some value)) polls k =
        let e = rw polls.0 at handed in
        kept_stays passes eq o o2 waiters waiters2 wakes k (subst (λ x. Stays passes o x k) (sym polls.1) (stays_marked passes o h.receiver k)) e.1
    polled_as (Ok None) polls k = (let e = rw polls.0 at handed in kept_registered passes eq n o o2 waiters waiters2 wakes w k polls.1 e.0 e.1)
    polled_as (Err x) polls k = (let e = rw polls.0 at handed in kept_stays passes eq o o2 waiters waiters2 wakes k (stays_same passes o o2 k polls.1) e.1)

    pub polled_kept : Polls IsClone IsInfallible passes o h a o2 p → (k : Await J) → Kept passes eq o waiters wakes o2 waiters2 k
    polled_kept polls k = polled_as polls.0 polls.2 k

    pub polled_quiet : a ≡ Pending → IsAmong eq w wakes → ⊥
    polled_quiet pending among = (let e = rw pending at handed in not_displaced eq n waiters w (subst (λ l. IsAmong eq w l) e.0 among))

    waits_as : (x : Option T) (got : Result (Option T) AllocError) → Answers IsClone IsInfallible x got → PollsAs IsClone IsInfallible passes got o h a o2 p → a ≡ Pending → (x ≡ None) × (o2 ≡ o) × (p ≡ Some h)
    waits_as x (Ok (Some value)) is polls pending = (let e = sym polls.0 ∙ pending in absurd cc)
    waits_as None (Ok None) is polls pending = (refl, polls.1, polls.2)
    waits_as (Some v) (Ok None) is polls pending = absurd is
    waits_as x (Err e) is polls pending = (let f = sym polls.0 ∙ pending in absurd cc)

    pub polled_registered : ((x : W) → eq x x ≡ true) → Polls IsClone IsInfallible passes o h a o2 p → a ≡ Pending → (p ≡ Some h) × OwesNews passes eq o2 waiters2 h w
    polled_registered same polls pending =
        let e = rw pending at handed in
        let waits = waits_as (sought passes o.value o.version (seen_at o.receivers h.receiver) h.read) polls.0 polls.1 polls.2 pending in
        (waits.2, (subst (λ y. sought passes y.value y.version (seen_at y.receivers h.receiver) h.read ≡ None) (sym waits.1) waits.0, rw e.1 (has_registered eq same n waiters w)))

  -- by a call
  kept_same : (k : Await J) → o2 ≡ o → waiters2 ≡ waiters → Kept passes eq o waiters wakes o2 waiters2 k
  kept_same k same e = kept_stays passes eq o o2 waiters waiters2 wakes k (stays_same passes o o2 k same) e

  elsewhere : (h : ℕ) (s : Option Seen) (k : Await J) → (h ≡ k.receiver → ⊥) → o2 ≡ with_receiver h s o → waiters2 ≡ waiters → Kept passes eq o waiters wakes o2 waiters2 k
  elsewhere h s k other is e = kept_stays passes eq o o2 waiters waiters2 wakes k (subst (λ x. Stays passes o x k) (sym is) (stays_at passes o (slice_set o.receivers h s) k (at_set_other o.receivers h k.receiver s other))) e

  module _ (k : Await J) (receives : IsReceiving o k) (a : Answer (WatchHeard T)) where
    -- a receiver is made at a free number, which isn't that of the request's receiver
    made : (h : ℕ) (s : Option Seen) → is_free h o.receivers ≡ true → o2 ≡ with_receiver h s o → waiters2 ≡ waiters → Kept passes eq o waiters wakes o2 waiters2 k
    made h s free is e = (let x = someone (at_number o.receivers k.receiver) receives in elsewhere h s k (free_elsewhere h k.receiver o.receivers x.0 free x.1) is e)

    joined : (free room : Bool) (h : ℕ) → is_free h o.receivers ≡ free → Joins free room h o a o2 → waiters2 ≡ waiters → Kept passes eq o waiters wakes o2 waiters2 k
    joined false room h free joins e = kept_same k joins.1 e
    joined true true h free joins e = made h _ free joins.1 e
    joined true false h free joins e = kept_same k joins.1 e

    joined_anon : (free : Bool) (h : ℕ) → is_free h o.receivers ≡ free → JoinsAnon free h o a o2 → waiters2 ≡ waiters → Kept passes eq o waiters wakes o2 waiters2 k
    joined_anon false h free joins e = kept_same k joins.1 e
    joined_anon true h free joins e = made h _ free joins.1 e

    -- a request that isn't ended belongs to another receiver
    other_stays : (h : ℕ) (p : Option Seen) → at_number o.receivers h ≡ p → (nat_eq k.receiver h && is_some p) ≡ false → (s : Seen) → p ≡ Some s → h ≡ k.receiver → ⊥
    other_stays h p there stays s some same =
        let e : nat_eq k.receiver h ≡ true = equal_number k.receiver h (sym same) in
        let f = rw (e, some) at stays in
        absurd cc

    left : (h : ℕ) (p : Option Seen) → at_number o.receivers h ≡ p → (nat_eq k.receiver h && is_some p) ≡ false → Leaves p h o a o2 → waiters2 ≡ waiters → Kept passes eq o waiters wakes o2 waiters2 k
    left h None there stays leaves e = kept_same k leaves.1 e
    left h (Some s) there stays leaves e = elsewhere h None k (other_stays h (Some s) there stays s refl) leaves.1 e

    -- what is put hands out who waits, and nothing else is changed
    putting : {A E : Type 0} (value : Option T) (tells : Bool) (r : Result A E) → Puts value tells r o o2 → IsHanded (sent_hands tells r waiters) wakes waiters2 → Kept passes eq o waiters wakes o2 waiters2 k
    putting value tells (Err x) put handed = kept_same k put.1 handed.1
    putting value true (Ok done) put handed = kept_handed passes eq o o2 waiters waiters2 wakes k (ap (λ (x : Watch T). x.receivers) put.1) handed.0
    putting value false (Ok done) put handed = kept_same k put.1 handed.1

    tried : (got : Result (Option T) AllocError) (h version : ℕ) (s : Seen) → at_number o.receivers h ≡ Some s → (version ≡ o.version) ⊎ (version ≡ s.version) → Tried got o (with_read h version o) a o2 → waiters2 ≡ waiters → Kept passes eq o waiters wakes o2 waiters2 k
    tried (Ok x) h version s there which try e = kept_stays passes eq o o2 waiters waiters2 wakes k (subst (λ y. Stays passes o y k) (sym try.1) (stays_seen passes o h version s k there which)) e
    tried (Err x) h version s there which try e = kept_same k try.1 e

    reading : (h : ℕ) (read : Reading J) (p : Option Seen) → at_number o.receivers h ≡ p → Reads IsClone IsInfallible passes p h read o a o2 → waiters2 ≡ waiters → Kept passes eq o waiters wakes o2 waiters2 k
    reading h read None there reads e = kept_same k reads.1 e
    reading h read (Some s) there reads e = tried reads.0 h (seen_after (marks o.version s.version read) o.version s.version reads.0) s there (seen_or_not (marks o.version s.version read) o.version s.version reads.0) reads.2 e

    tried_same : (got : Result (Option T) AllocError) → Tried got o o a o2 → o2 ≡ o
    tried_same (Ok x) try = try.1
    tried_same (Err x) try = try.1

    pub called_kept : (call : WatchCall T C J) → Calls n IsClone IsInfallible changed tells passes o call a o2 → IsHanded (called (watch_wakings {J = J} eq n tells) o waiters call None a) wakes waiters2 → ended (watch_rules n IsClone IsInfallible changed tells passes) o (reach call) call k ≡ false → Kept passes eq o waiters wakes o2 waiters2 k
    called_kept (Receiver h) calls handed stays = (let e = rw (hands_none {W = W} a waiters) at handed in joined (is_free h o.receivers) _ h refl calls e.1)
    called_kept (Anon h) calls handed stays = (let e = rw (hands_none {W = W} a waiters) at handed in joined_anon (is_free h o.receivers) h refl calls e.1)
    called_kept (Leave h) calls handed stays = (let e = rw (hands_none {W = W} a waiters) at handed in left h (at_number o.receivers h) refl stays calls e.1)
    called_kept Clear calls handed stays = (let e = rw (hands_none {W = W} a waiters) at handed in kept_stays passes eq o o2 waiters waiters2 wakes k (subst (λ x. Stays passes o x k) (sym calls.1) (stays_without passes o k)) e.1)
    called_kept (Send value) calls handed stays = (let e = rw calls.1 at handed in putting (Some value) true calls.0 calls.2 e)
    called_kept (Modify change) calls handed stays = (let e = rw calls.1 at handed in putting (changed change o.value) true calls.0 calls.2 e)
    called_kept (ModifyIf change) calls handed stays = (let e = rw calls.1 at handed in putting (changed change o.value) (tells change o.value) calls.0 calls.2 e)
    called_kept TryGet calls handed stays = (let e = rw (hands_none {W = W} a waiters) at handed in kept_same k (tried_same calls.0 calls.2) e.1)
    called_kept (Read h read) calls handed stays = (let e = rw (hands_none {W = W} a waiters) at handed in reading h read (at_number o.receivers h) refl calls e.1)
    called_kept Id calls handed stays = (let e = rw (hands_none {W = W} a waiters) at handed in kept_same k calls.1 e.1)
    called_kept Contains calls handed stays = (let e = rw (hands_none {W = W} a waiters) at handed in kept_same k calls.1 e.1)

-- the object after a poll that shows the value
pub marked_object : {T W : Type 0} (s s2 : Watching T W) (q : List (Option Seen)) (h version : ℕ) (l : List W) (m2 : Followed T W) → s2 ≡ record s { waiters = l } → version ≡ s.version → m2 ≡ record { state = s2; receivers = with_seen h version q } → watch_of m2 ≡ with_read h s.version (watch_of (record { state = s; receivers = q }))
marked_object {T} {W} s s2 q h version l m2 same seen is =
    ap watch_of is
    ∙ ap (λ (x : Watching T W). watch_of (record { state = x; receivers = with_seen h version q })) same
    ∙ ap (λ n. record { value = s.value; version = s.version; receivers = with_seen h n q }) seen

-- the same after one that shows nothing
pub waiting_object : {T W : Type 0} (s s2 : Watching T W) (q : List (Option Seen)) (l : List W) → s2 ≡ record s { waiters = l } → watch_of (record { state = s2; receivers = q }) ≡ watch_of (record { state = s; receivers = q })
waiting_object {T} {W} s s2 q l same = ap (λ (x : Watching T W). watch_of (record { state = x; receivers = q })) same

-- the object without its value
pub cleared_object : {T W : Type 0} (s s2 : Watching T W) (q : List (Option Seen)) → s2 ≡ record s { value = None } → watch_of (record { state = s2; receivers = q }) ≡ record (watch_of (record { state = s; receivers = q })) { value = None }
cleared_object {T} {W} s s2 q same = ap (λ (x : Watching T W). watch_of (record { state = x; receivers = q })) same

-- the object after a step on its table alone, whatever is counted
pub table_object : {T W : Type 0} (s s2 : Watching T W) (n : ℕ) (q q2 q3 : List (Option Seen)) → s2 ≡ record s { receivers = n } → q2 ≡ q3 → watch_of (record { state = s2; receivers = q2 }) ≡ record (watch_of (record { state = s; receivers = q })) { receivers = q3 }
table_object {T} {W} s s2 n q q2 q3 same is =
    ap (λ (x : Watching T W). watch_of (record { state = x; receivers = q2 })) same
    ∙ ap (λ r. record { value = s.value; version = s.version; receivers = r }) is

-- the object once a receiver has seen a version
pub read_object : {T W : Type 0} (m m2 : Followed T W) (s : Watching T W) (q : List (Option Seen)) (h version seen : ℕ) → record { state = s; receivers = q } ≡ m → m2 ≡ record m { receivers = with_seen h version m.receivers } → version ≡ seen → watch_of m2 ≡ with_read h seen (watch_of (record { state = s; receivers = q }))
read_object {T} {W} m m2 s q h version seen view is same =
    ap watch_of is
    ∙ ap (λ (x : Followed T W). with_read h version (watch_of x)) (sym view)
    ∙ ap (λ n. with_read h n (watch_of (record { state = s; receivers = q }))) same

-- the watch once a receiver of its table has seen a version
pub marked_watch : {T W : Type 0} (m : Followed T W) (s : Watching T W) (h version : ℕ) (q q2 : List (Option Seen)) (seen : Seen) → record { state = s; receivers = q } ≡ m → at_number q h ≡ Some seen → q2 ≡ slice_set q h (Some (record seen { version = version })) → record { state = s; receivers = q2 } ≡ record m { receivers = with_seen h version m.receivers }
marked_watch {T} {W} m s h version q q2 seen view there is =
    ap (λ r. record { state = s; receivers = r }) (is ∙ sym (ap (λ p. with_seen_if h version p q) there))
    ∙ ap (λ (x : Followed T W). record x { receivers = with_seen h version x.receivers }) view

-- requests of a watch are never told apart
pub IsApart-any : {H : Type 0} (p : Option H) (other : H) → IsApart (λ h k. Unit {0}) p other
IsApart-any None other = tt
IsApart-any (Some h) other = tt
