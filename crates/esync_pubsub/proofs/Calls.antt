-- What a call of a pub-sub channel leaves to the requests, from what its log allows and what it hands out.
use Rattle.std.proofs.Common.{◌≡◌, ℕ, ◌≤◌, ◌==◌, ◌&&◌, Bool, true, false, List, [], Option, Some, None, refl, sym, ap, subst, ◌∙◌, ◌⊎◌, inl, inr}
use Rattle.std.specs.Prelude.{is_some, slice_set, slice_index_or, Ok, Err}
use Rattle.esync_base.specs.Registration.{IsAmong}
use Rattle.esync_base.specs.ListedLaws.{true_or_false, equal_number}
use Rattle.esync_machine.specs.declared.primitive.Answer.{Answer}
use Rattle.esync_machine.specs.declared.primitive.Answer.TheVariants.{Done, Pending, NoSuch, NoMemory, Gives}
use Rattle.esync_machine.specs.Numbers.{at_number}
use Rattle.esync_machine.specs.NumbersLaws.{at_set_other}
use Rattle.esync_machine.specs.Names.{is_free, Where}
use Rattle.esync_machine.specs.NamesLaws.{free_number}
use Rattle.esync_machine.specs.Rules.{ended, Finds}
use Rattle.esync_machine.specs.Wakings.{Handed, IsHanded, unless_refused, nothing}
use Rattle.esync_log.specs.Log.{Log, has_subscribers, is_live, published, with_room, left, cleared, number_of, Accepts, Publishes, PublishesAtOnce}
use Rattle.esync_pubsub.specs.PubSub.{Lists, frees, lists_after_room, wakes_of_room}
use Rattle.esync_pubsub.specs.PubSubRules.{Topic, WithLog, Calls, Comes, Counts, Tries, TriesPure, TriesPublish, AtOnce, departed, names_it, place_at, is_subscriber, is_publisher, is_of_subscriber, is_of_publisher, reach, call_hands, OwesNews, OwesRoom, OwesFor, pubsub_rules}
use Rattle.esync_pubsub.proofs.Kept.{Keeps, keeps_same, keeps_publish, keeps_immediate, keeps_read, keeps_pure, keeps_clear, left_room, left_news, join_news, join_room, read_goes, pure_goes}
use Rattle.esync_pubsub.proofs.Turns.{AreHere, log_names}
use Rattle.esync_log.specs.declared.log.TryPublishError.TheVariants.{Full, Exhausted}
use Rattle.esync_pubsub.specs.declared.pubsub.Error.TheVariants.{MaximumSubscribersReached, MaximumPublishersReached}
use Rattle.esync_pubsub.specs.declared.pubsub.machine.PubSubAsk.{PubSubAsk}
use Rattle.esync_pubsub.specs.declared.pubsub.machine.PubSubAsk.TheVariants.{Publish, Message, MessagePure, Stream}
use Rattle.esync_pubsub.specs.declared.pubsub.machine.PubSubCall.{PubSubCall}
use Rattle.esync_pubsub.specs.declared.pubsub.machine.PubSubCall.TheVariants.{Join, Leave, Publisher, Retire, TryPublish, Immediate, Next, NextPure, Available, Clear, Len, FreeCapacity}
use Rattle.esync_pubsub.specs.declared.pubsub.machine.PubSubHeard.{PubSubHeard}
use Rattle.esync_pubsub.specs.declared.pubsub.machine.PubSubHeard.TheVariants.{Came, TriedPublish, PublishedAtOnce, Tried, TriedPure}

-- a number in use is another than one that is free
in_use : {N : Type 0} (names : List (Option N)) (r t : ℕ) → is_free r names ≡ true → is_some (at_number names t) ≡ true → r ≡ t → ⊥
in_use names r t f h e = (let n : at_number names t ≡ None = ap (λ x. at_number names x) (sym e) ∙ free_number names r f in let g : is_some (at_number names t) ≡ false = ap is_some n in cc)

-- who isn't ended by one who leaves is of another
not_ended : (b c : Bool) → b ≡ true → (b && c) ≡ false → c ≡ false
not_ended b c e f = elim (true_or_false c) [ inl t ↦ absurd (let g : (true && true) ≡ false = subst (λ x. (true && x) ≡ false) t (subst (λ x. (x && c) ≡ false) e f) in cc) | inr n ↦ n ]

other_number : (r t : ℕ) → (r == t) ≡ false → r ≡ t → ⊥
other_number r t f e = (let g = equal_number r t e in cc)

names_other : {N : Type 0} (names : List (Option N)) (r : ℕ) (q : Option N) (t : ℕ) → (r ≡ t → ⊥) → is_some (at_number names t) ≡ true → is_some (at_number (slice_set names r q) t) ≡ true
names_other names r q t n h = ap is_some (at_set_other names r t q n) ∙ h

module _ {T : Type 0} where
  -- the numbers after a write at another
  place_other : (o : Topic T) (log2 : Log T) (r : ℕ) (q : Option ℕ) (t : ℕ) → (r ≡ t → ⊥) → place_at t (record o { log = log2; subscribers = slice_set o.subscribers r q }) ≡ place_at t o
  place_other o log2 r q t n = ap number_of (at_set_other o.subscribers r t q n)

  -- whoever the command names, or nothing changes
  pub where_done : (b : Bool) (o : Topic T) (Does : Type 0) (a : Answer (PubSubHeard T)) (o2 : Topic T) → Where b o Does a o2 → ((b ≡ true) × Does) ⊎ ((a ≡ NoSuch) × (o2 ≡ o))
  where_done true o Does a o2 h = inl (refl, h)
  where_done false o Does a o2 h = inr h

-- what a step keeps of another request: it still names who is there, and what was owed is handed out or owed
module _ {T W : Type 0} (eq : W → W → Bool) (cap : ℕ) where
  pub record Stays (o o2 : Topic T) (l l2 : Lists W) (wakes : List W) (other : PubSubAsk T) : Type 0 where
    pub names : names_it other o2 ≡ true
    pub owed : (v : W) → OwesFor eq cap o l other v → IsAmong eq v wakes ⊎ OwesFor eq cap o2 l2 other v

  stays_same : (o o2 : Topic T) (l : Lists W) (other : PubSubAsk T) → o2 ≡ o → names_it other o ≡ true → Stays o o2 l l [] other
  stays_same o o2 l other e f =
      let k : Stays o o l l [] other = record { names = f; owed = λ v h. inr h } in
      subst (λ x. Stays o x l l [] other) (sym e) k

  stays_log : (o o2 : Topic T) (l l2 : Lists W) (wakes : List W) (other : PubSubAsk T) → Keeps eq cap o.log o2.log l l2 wakes → WithLog o o2 → names_it other o ≡ true → Stays o o2 l l2 wakes other
  stays_log o o2 l l2 wakes (Publish p message) k e f = record { names = log_names o o2 e (Publish p message) f; owed = λ v h. k.room v h }
  stays_log o o2 l l2 wakes (Message s) k e f = record { names = log_names o o2 e (Message s) f; owed = λ v h. subst (λ n. IsAmong eq v wakes ⊎ OwesNews eq n o2.log l2 v) (ap (λ x. place_at s x) (sym e)) (k.news (place_at s o) v h) }
  stays_log o o2 l l2 wakes (MessagePure s) k e f = record { names = log_names o o2 e (MessagePure s) f; owed = λ v h. subst (λ n. IsAmong eq v wakes ⊎ OwesNews eq n o2.log l2 v) (ap (λ x. place_at s x) (sym e)) (k.news (place_at s o) v h) }
  stays_log o o2 l l2 wakes (Stream s) k e f = record { names = log_names o o2 e (Stream s) f; owed = λ v h. subst (λ n. IsAmong eq v wakes ⊎ OwesNews eq n o2.log l2 v) (ap (λ x. place_at s x) (sym e)) (k.news (place_at s o) v h) }

  -- a subscriber comes under a number that no request names
  module _ (o : Topic T) (log2 : Log T) (l : Lists W) (s place : ℕ) (f : is_free s o.subscribers ≡ true) where
    abbrev joined : Topic T
    joined = record { log = log2; subscribers = slice_set o.subscribers s (Some place); publishers = o.publishers }

    stays_joined_news : (t : ℕ) → ((q : ℕ) (v : W) → OwesNews eq q o.log l v → OwesNews eq q log2 l v) → is_subscriber t o ≡ true → (v : W) → OwesNews eq (place_at t o) o.log l v → IsAmong eq v [] ⊎ OwesNews eq (place_at t joined) log2 l v
    stays_joined_news t k h v w = inr (subst (λ n. OwesNews eq n log2 l v) (sym (place_other o log2 s (Some place) t (in_use o.subscribers s t f h))) (k (place_at t o) v w))

    stays_joined : ((q : ℕ) (v : W) → OwesNews eq q o.log l v → OwesNews eq q log2 l v) → ((v : W) → OwesRoom eq cap o.log l v → OwesRoom eq cap log2 l v) → (other : PubSubAsk T) → names_it other o ≡ true → Stays o joined l l [] other
    stays_joined k r (Publish p message) h = record { names = h; owed = λ v w. inr (r v w) }
    stays_joined k r (Message t) h = record { names = names_other o.subscribers s (Some place) t (in_use o.subscribers s t f h) h; owed = stays_joined_news t k h }
    stays_joined k r (MessagePure t) h = record { names = names_other o.subscribers s (Some place) t (in_use o.subscribers s t f h) h; owed = stays_joined_news t k h }
    stays_joined k r (Stream t) h = record { names = names_other o.subscribers s (Some place) t (in_use o.subscribers s t f h) h; owed = stays_joined_news t k h }

  -- a subscriber leaves, and its requests have ended
  module _ (c : 1 ≤ cap) (o : Topic T) (l : Lists W) (s : ℕ) (here : is_subscriber s o ≡ true) (apart : (t : ℕ) → (s ≡ t → ⊥) → is_subscriber t o ≡ true → place_at t o ≡ place_at s o → ⊥) where
    abbrev freed : Bool
    freed = frees o.log (left (place_at s o) o.log)

    stays_left_news : (t : ℕ) → (s ≡ t → ⊥) → is_subscriber t o ≡ true → (v : W) → OwesNews eq (place_at t o) o.log l v → IsAmong eq v (wakes_of_room freed l) ⊎ OwesNews eq (place_at t (departed s o)) (left (place_at s o) o.log) (lists_after_room freed l) v
    stays_left_news t n h v w = inr (subst (λ x. OwesNews eq x (left (place_at s o) o.log) (lists_after_room freed l) v) (sym (place_other o (left (place_at s o) o.log) s None t n)) (left_news eq cap l (place_at s o) o.log freed (place_at t o) v (apart t n h) w))

    stays_left : (other : PubSubAsk T) → names_it other o ≡ true → is_of_subscriber s other ≡ false → Stays o (departed s o) l (lists_after_room freed l) (wakes_of_room freed l) other
    stays_left (Publish p message) h e = record { names = h; owed = λ v w. left_room eq cap l (place_at s o) o.log c v w }
    stays_left (Message t) h e = record { names = names_other o.subscribers s None t (other_number s t e) h; owed = stays_left_news t (other_number s t e) h }
    stays_left (MessagePure t) h e = record { names = names_other o.subscribers s None t (other_number s t e) h; owed = stays_left_news t (other_number s t e) h }
    stays_left (Stream t) h e = record { names = names_other o.subscribers s None t (other_number s t e) h; owed = stays_left_news t (other_number s t e) h }

  -- other publishers' numbers stay
  stays_publisher : (o : Topic T) (l : Lists W) (p : ℕ) (q : Option (Unit {0})) (other : PubSubAsk T) → names_it other o ≡ true → ((t : ℕ) (message : T) → other ≡ Publish t message → p ≡ t → ⊥) → Stays o (record o { publishers = slice_set o.publishers p q }) l l [] other
  stays_publisher o l p q (Publish t message) h n = record { names = names_other o.publishers p q t (n t message refl) h; owed = λ v w. inr w }
  stays_publisher o l p q (Message t) h n = record { names = h; owed = λ v w. inr w }
  stays_publisher o l p q (MessagePure t) h n = record { names = h; owed = λ v w. inr w }
  stays_publisher o l p q (Stream t) h n = record { names = h; owed = λ v w. inr w }

-- all calls
module _ {T W : Type 0} (C : T → T → Type 0) (I : T → Type 0) (cap subs pubs : ℕ) (eq : W → W → Bool) (o : Topic T) (l : Lists W) (other : PubSubAsk T) (named : names_it other o ≡ true) where
  -- the request stays, where that is handed out
  abbrev StaysBy : Topic T → Handed (Lists W) W → Type 0
  StaysBy o2 h = Stays eq cap o o2 l h.after h.wakes other

  by_refused : (a : Answer (PubSubHeard T)) (o2 : Topic T) (h : Handed (Lists W) W) → a ≡ NoSuch → o2 ≡ o → StaysBy o2 (unless_refused a l h)
  by_refused a o2 h e s = subst (λ x. StaysBy o2 (unless_refused x l h)) (sym e) (stays_same eq cap o o2 l other s named)

  by_nothing : (a : Answer (PubSubHeard T)) (o2 : Topic T) → StaysBy o2 (nothing l) → StaysBy o2 (unless_refused a l (nothing l))
  by_nothing NoSuch o2 k = k
  by_nothing NoMemory o2 k = k
  by_nothing Done o2 k = k
  by_nothing Pending o2 k = k
  by_nothing (Gives x) o2 k = k

  by_done : (a : Answer (PubSubHeard T)) (o2 o3 : Topic T) (h : Handed (Lists W) W) → a ≡ Done → o2 ≡ o3 → StaysBy o3 h → StaysBy o2 (unless_refused a l h)
  by_done a o2 o3 h e s k = subst (λ x. StaysBy o2 (unless_refused x l h)) (sym e) (subst (λ x. StaysBy x h) (sym s) k)

  comes : (s : ℕ) (a : Answer (PubSubHeard T)) (o2 : Topic T) → is_free s o.subscribers ≡ true → Comes s o a o2 → StaysBy o2 (nothing l)
  comes s (Gives (Came (Ok done))) o2 f h =
      subst (λ x. StaysBy x (nothing l)) (sym h.2)
      (stays_joined eq cap o o2.log l s h.0 f (λ q v w. join_news eq cap l h.0 o.log o2.log h.1 q v w) (λ v w. join_room eq cap l h.0 o.log o2.log h.1 v w) other named)
  comes s (Gives (Came (Err MaximumSubscribersReached))) o2 f h = stays_log eq cap o o2 l l [] other (keeps_same eq cap l o.log o2.log [] h.0.1) h.1 named
  comes s (Gives (Came (Err MaximumPublishersReached))) o2 f h = absurd h.0
  comes s a o2 f h = absurd h

  same_number : (t u : ℕ) (m n : T) → other ≡ Publish t m → is_publisher t o ≡ true
  same_number t u m n e = subst (λ x. names_it x o ≡ true) e named

  counts : (p : ℕ) (a : Answer (PubSubHeard T)) (o2 : Topic T) → is_free p o.publishers ≡ true → Counts pubs p o a o2 → StaysBy o2 (nothing l)
  counts p (Gives (Came (Ok done))) o2 f h = subst (λ x. StaysBy x (nothing l)) (sym h.1) (stays_publisher eq cap o l p (Some tt) other named (λ t m e. in_use o.publishers p t f (same_number t t m m e)))
  counts p (Gives (Came (Err MaximumPublishersReached))) o2 f h = stays_same eq cap o o2 l other h.1 named
  counts p a o2 f h = absurd h

  tries_publish : (p : ℕ) (message : T) (a : Answer (PubSubHeard T)) (o2 : Topic T) → TriesPublish cap message o.log a o2.log → WithLog o o2 → StaysBy o2 (unless_refused a l (call_hands eq subs pubs o l (TryPublish p message) a))
  tries_publish p message (Gives (TriedPublish r)) o2 h e =
      let x = call_hands eq subs pubs o l (TryPublish p message) (Gives (TriedPublish r)) in
      stays_log eq cap o o2 l x.after x.wakes other (keeps_publish eq cap l message pubs None o.log o2.log r h) e named
  tries_publish p message a o2 h e = absurd h

  at_once : 1 ≤ cap → (message : T) (a : Answer (PubSubHeard T)) (o2 : Topic T) → AtOnce cap message o.log a o2.log → WithLog o o2 → StaysBy o2 (unless_refused a l (call_hands eq subs pubs o l (Immediate message) a))
  at_once c message (Gives (PublishedAtOnce r)) o2 h e =
      let x = call_hands eq subs pubs o l (Immediate message) (Gives (PublishedAtOnce r)) in
      stays_log eq cap o o2 l x.after x.wakes other (keeps_immediate eq cap l message o.log o2.log r c h) e named
  at_once c message a o2 h e = absurd h

  tries : (s : ℕ) (a : Answer (PubSubHeard T)) (o2 : Topic T) → is_live (place_at s o) o.log ≡ true → Tries C I (place_at s o) o.log a o2.log → WithLog o o2 → StaysBy o2 (unless_refused a l (call_hands eq subs pubs o l (Next s) a))
  tries s (Gives (Tried answer)) o2 here h e =
      let x = call_hands eq subs pubs o l (Next s) (Gives (Tried answer)) in
      stays_log eq cap o o2 l x.after x.wakes other (keeps_read eq cap l C subs None (place_at s o) o.log here answer o2.log h.0 h.1) e named
  tries s NoMemory o2 here h e = stays_log eq cap o o2 l l [] other (keeps_same eq cap l o.log o2.log [] h.2) e named
  tries s a o2 here h e = absurd h

  tries_pure : (s : ℕ) (a : Answer (PubSubHeard T)) (o2 : Topic T) → is_live (place_at s o) o.log ≡ true → TriesPure C I (place_at s o) o.log a o2.log → WithLog o o2 → StaysBy o2 (unless_refused a l (call_hands eq subs pubs o l (NextPure s) a))
  tries_pure s (Gives (TriedPure answer)) o2 here h e =
      let x = call_hands eq subs pubs o l (NextPure s) (Gives (TriedPure answer)) in
      stays_log eq cap o o2 l x.after x.wakes other (keeps_pure eq cap l C subs (place_at s o) o.log here None answer o2.log h.0 h.1) e named
  tries_pure s NoMemory o2 here h e = stays_log eq cap o o2 l l [] other (keeps_same eq cap l o.log o2.log [] h.2) e named
  tries_pure s a o2 here h e = absurd h

  module _ (c : 1 ≤ cap) (here : AreHere o) (apart : (s t : ℕ) → (s ≡ t → ⊥) → is_subscriber s o ≡ true → is_subscriber t o ≡ true → place_at t o ≡ place_at s o → ⊥) (a : Answer (PubSubHeard T)) (o2 : Topic T) where
    retired : (p : ℕ) → is_publisher p o ≡ true → (is_publisher p o && is_of_publisher p other) ≡ false → (t : ℕ) (m : T) → other ≡ Publish t m → p ≡ t → ⊥
    retired p f n t m e = other_number p t (subst (λ x. is_of_publisher p x ≡ false) e (not_ended (is_publisher p o) (is_of_publisher p other) f n))

    pub stays_called : (call : PubSubCall T) → Calls C I cap pubs o call a o2 → ended (pubsub_rules C I cap pubs) o (reach call) call other ≡ false → StaysBy o2 (unless_refused a l (call_hands eq subs pubs o l call a))
    stays_called (Join s) h n = elim (where_done (is_free s o.subscribers) o (Comes s o a o2) a o2 h) [
      | inl d ↦ by_nothing a o2 (comes s a o2 d.0 d.1)
      | inr r ↦ by_refused a o2 (nothing l) r.0 r.1
    ]
    stays_called (Leave s) h n = elim (where_done (is_subscriber s o) o ((a ≡ Done) × (o2 ≡ departed s o)) a o2 h) [
      | inl d ↦ by_done a o2 (departed s o) (call_hands eq subs pubs o l (Leave s) a) d.1.0 d.1.1 (stays_left eq cap c o l s d.0 (λ t ne f. apart s t ne d.0 f) other named (not_ended (is_subscriber s o) (is_of_subscriber s other) d.0 n))
      | inr r ↦ by_refused a o2 (call_hands eq subs pubs o l (Leave s) a) r.0 r.1
    ]
    stays_called (Publisher p) h n = elim (where_done (is_free p o.publishers) o (Counts pubs p o a o2) a o2 h) [
      | inl d ↦ by_nothing a o2 (counts p a o2 d.0 d.1)
      | inr r ↦ by_refused a o2 (nothing l) r.0 r.1
    ]
    stays_called (Retire p) h n = elim (where_done (is_publisher p o) o ((a ≡ Done) × (o2 ≡ record o { publishers = slice_set o.publishers p None })) a o2 h) [
      | inl d ↦ by_done a o2 (record o { publishers = slice_set o.publishers p None }) (nothing l) d.1.0 d.1.1 (stays_publisher eq cap o l p None other named (retired p d.0 n))
      | inr r ↦ by_refused a o2 (nothing l) r.0 r.1
    ]
    stays_called (TryPublish p message) h n = elim (where_done (is_publisher p o) o (TriesPublish cap message o.log a o2.log × WithLog o o2) a o2 h) [
      | inl d ↦ tries_publish p message a o2 d.1.0 d.1.1
      | inr r ↦ by_refused a o2 (call_hands eq subs pubs o l (TryPublish p message) a) r.0 r.1
    ]
    stays_called (Immediate message) h n = at_once c message a o2 h.0 h.1
    stays_called (Next s) h n = elim (where_done (is_subscriber s o) o (Tries C I (place_at s o) o.log a o2.log × WithLog o o2) a o2 h) [
      | inl d ↦ tries s a o2 (here s d.0) d.1.0 d.1.1
      | inr r ↦ by_refused a o2 (call_hands eq subs pubs o l (Next s) a) r.0 r.1
    ]
    stays_called (NextPure s) h n = elim (where_done (is_subscriber s o) o (TriesPure C I (place_at s o) o.log a o2.log × WithLog o o2) a o2 h) [
      | inl d ↦ tries_pure s a o2 (here s d.0) d.1.0 d.1.1
      | inr r ↦ by_refused a o2 (call_hands eq subs pubs o l (NextPure s) a) r.0 r.1
    ]
    stays_called (Available s) h n = elim (where_done (is_subscriber s o) o _ a o2 h) [
      | inl d ↦ by_nothing a o2 (stays_same eq cap o o2 l other d.1.1 named)
      | inr r ↦ by_refused a o2 (nothing l) r.0 r.1
    ]
    stays_called Clear h n = by_done a o2 (record o { log = cleared o.log }) (call_hands eq subs pubs o l Clear a) h.0 h.1 (stays_log eq cap o (record o { log = cleared o.log }) l (lists_after_room true l) (wakes_of_room true l) other (keeps_clear eq cap l o.log) refl named)
    stays_called Len h n = by_nothing a o2 (stays_same eq cap o o2 l other h.1 named)
    stays_called FreeCapacity h n = by_nothing a o2 (stays_same eq cap o o2 l other h.3 named)

-- a call of leavers or of nobody finds nothing at a number
pub finds_none : {T H : Type 0} (call : PubSubCall T) (p : Option H) → Finds (reach call) p → p ≡ None
finds_none (Leave s) p h = h
finds_none (Retire s) p h = h
finds_none call p h = h

-- who is live after a publish, and after a read
module _ {T : Type 0} (log log2 : Log T) where
  accepted_live : (b : Bool) (after : Log T) → after.positions ≡ log.positions → Accepts b log log2 after → log2.positions ≡ log.positions
  accepted_live true after e h = ap (λ x. x.positions) h.1 ∙ e
  accepted_live false after e h = ap (λ x. x.positions) h

  published_live : (cap : ℕ) (message : T) (r : _) → Publishes cap message log r log2 → log2.positions ≡ log.positions
  published_live cap message (Ok done) h = accepted_live (has_subscribers log) (published message log) refl h.1
  published_live cap message (Err (Full back)) h = ap (λ x. x.positions) h.3
  published_live cap message (Err (Exhausted back)) h = ap (λ x. x.positions) h.4

  once_live : (cap : ℕ) (message : T) (r : _) → PublishesAtOnce cap message log r log2 → log2.positions ≡ log.positions
  once_live cap message (Ok done) h = accepted_live (has_subscribers log) (published message (with_room cap log)) refl h
  once_live cap message (Err refused) h = ap (λ x. x.positions) h.3

  same_live : log2.positions ≡ log.positions → (q : ℕ) → is_live q log2 ≡ is_live q log
  same_live e q = ap (λ ps. is_some (slice_index_or ps q None)) e

  pub tried_live : (cap : ℕ) (message : T) (a : Answer (PubSubHeard T)) → TriesPublish cap message log a log2 → (q : ℕ) → is_live q log2 ≡ is_live q log
  tried_live cap message (Gives (TriedPublish r)) h = same_live (published_live cap message r h)
  tried_live cap message a h = absurd h

  pub at_once_live : (cap : ℕ) (message : T) (a : Answer (PubSubHeard T)) → AtOnce cap message log a log2 → (q : ℕ) → is_live q log2 ≡ is_live q log
  at_once_live cap message (Gives (PublishedAtOnce r)) h = same_live (once_live cap message r h)
  at_once_live cap message a h = absurd h

  module _ (C : T → T → Type 0) (I : T → Type 0) (place : ℕ) (here : is_live place log ≡ true) where
    pub next_live : (a : Answer (PubSubHeard T)) → Tries C I place log a log2 → (q : ℕ) → is_live q log2 ≡ is_live q log
    next_live (Gives (Tried answer)) h = (read_goes C place log answer log2 here h.0 h.1).live
    next_live NoMemory h = same_live (ap (λ x. x.positions) h.2)
    next_live a h = absurd h

    pub next_pure_live : (a : Answer (PubSubHeard T)) → TriesPure C I place log a log2 → (q : ℕ) → is_live q log2 ≡ is_live q log
    next_pure_live (Gives (TriedPure answer)) h = (pure_goes C place log answer log2 here h.0 h.1).live
    next_pure_live NoMemory h = same_live (ap (λ x. x.positions) h.2)
    next_pure_live a h = absurd h

-- a call that hands out nobody, refused or not
pub nobody_handed : {T W G : Type 0} (a : Answer (PubSubHeard T)) (g g2 : G) (wakes : List W) → wakes ≡ [] → g2 ≡ g → IsHanded (unless_refused a g (nothing g)) wakes g2
nobody_handed NoSuch g g2 wakes e f = (e, f)
nobody_handed NoMemory g g2 wakes e f = (e, f)
nobody_handed Done g g2 wakes e f = (e, f)
nobody_handed Pending g g2 wakes e f = (e, f)
nobody_handed (Gives x) g g2 wakes e f = (e, f)

-- who is live after a call by a number that publishes or reads
module _ {T : Type 0} (C : T → T → Type 0) (I : T → Type 0) (cap pubs : ℕ) (o o2 : Topic T) (a : Answer (PubSubHeard T)) where
  where_live : (b : Bool) (Does : Type 0) → (b ≡ true → Does → (q : ℕ) → is_live q o2.log ≡ is_live q o.log) → Where b o Does a o2 → (q : ℕ) → is_live q o2.log ≡ is_live q o.log
  where_live true Does k h = k refl h
  where_live false Does k h = λ q. ap (λ x. is_live q x.log) h.1

  pub tried_named_live : (p : ℕ) (message : T) → Calls C I cap pubs o (TryPublish p message) a o2 → (q : ℕ) → is_live q o2.log ≡ is_live q o.log
  tried_named_live p message h = where_live (is_publisher p o) (TriesPublish cap message o.log a o2.log × WithLog o o2) (λ e d. tried_live o.log o2.log cap message a d.0) h

  pub next_named_live : AreHere o → (s : ℕ) → Calls C I cap pubs o (Next s) a o2 → (q : ℕ) → is_live q o2.log ≡ is_live q o.log
  next_named_live here s h = where_live (is_subscriber s o) (Tries C I (place_at s o) o.log a o2.log × WithLog o o2) (λ e d. next_live o.log o2.log C I (place_at s o) (here s e) a d.0) h

  pub next_pure_named_live : AreHere o → (s : ℕ) → Calls C I cap pubs o (NextPure s) a o2 → (q : ℕ) → is_live q o2.log ≡ is_live q o.log
  next_pure_named_live here s h = where_live (is_subscriber s o) (TriesPure C I (place_at s o) o.log a o2.log × WithLog o o2) (λ e d. next_pure_live o.log o2.log C I (place_at s o) (here s e) a d.0) h
