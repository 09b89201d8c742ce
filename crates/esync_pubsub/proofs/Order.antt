-- A subscriber reads what was published since it came, in order; it is told truly how much is unread and gone, and the channel's sizes add up.
use Rattle.std.proofs.Common.{◌≡◌, ℕ, zero, suc, ◌+◌, ◌-◌, ◌==◌, Bool, true, false, List, [], ◌∷◌, ◌++◌, length, drop, replicate, Option, Some, None, inl, inr, refl, sym, ap, ◌∙◌, subst, arith}
use Rattle.std.specs.Prelude.{is_some, nat_lt, slice_get, slice_set, slice_index_or, if◌then◌else◌, IfSome, Ok, Err}
use Rattle.std.specs.List.{list_any}
use Rattle.std.proofs.lemmas.List.{length_push, length-replicate, drop_all, get_or-set_same, get_or-set_other}
use Rattle.esync_base.specs.ListedLaws.{same_number, equal_number}
use Rattle.esync_machine.specs.AccountLaws.{of_any_kind, asked_at_first, ask_of-started, ask_of-other, KeepsEach, keeps_each, told_requests, law_requests, IsTold, HasLaw}
use Rattle.esync_machine.specs.Account.{ask_of, asked_after}
use Rattle.esync_machine.specs.SizesLaws.{TellsSizes, sizes_requests}
use Rattle.esync_machine.specs.Runs.{GoodRun}
use Rattle.esync_machine.specs.Numbers.{at_number}
use Rattle.esync_machine.specs.NumbersLaws.{at_of, at_set_here, at_set_other}
use Rattle.esync_machine.specs.Names.{is_free}
use Rattle.esync_machine.specs.NamesLaws.{free_is}
use Rattle.esync_machine.specs.Object.{Object, requests_meaning}
use Rattle.esync_machine.specs.ObjectLaws.{EachStep}
use Rattle.esync_machine.specs.Rules.{Rules}
use Rattle.esync_machine.specs.Wakings.{Wakings}
use Rattle.esync_machine.specs.declared.run.Reply.{Reply}
use Rattle.esync_machine.specs.declared.primitive.Answer.{Answer}
use Rattle.esync_machine.specs.declared.primitive.Answer.TheVariants.{Done, Pending, NoSuch, NoMemory, Gives}
use Rattle.esync_machine.specs.declared.primitive.Reach.TheVariants.{Number as AtNumber}
use Rattle.esync_machine.specs.declared.primitive.Command.{Command}
use Rattle.esync_machine.specs.declared.primitive.Command.TheVariants.{Start, Poll, End, Call}
use Rattle.esync_pubsub.specs.Events.{Eventing, AreNamed}
use Rattle.esync_log.specs.Log.{Log, oldest, number_of, has_subscribers, is_live, position, published, with_room, moved, without, left, cleared, lags, caught, gap, Accepts, Joins, Publishes, PublishesAtOnce, Reads, ReadsOn}
use Rattle.esync_pubsub.specs.PubSub.{PubSub}
use Rattle.esync_pubsub.specs.PubSubRules.{Topic, topic_of, place_at, is_subscriber, is_publisher, names_it, reach, rest_of, departed, WithLog, Begins, IsBelow, PollsLog, Polls, Comes, Counts, TriesPublish, AtOnce, Tries, TriesPure, Calls, pubsub_rules}
use Rattle.esync_pubsub.specs.Advance.{gone, topic_after, topic_after_poll}
use Rattle.esync_pubsub.specs.Order.{Reading, Told, Account, and, published_by_poll, published_by_call, given_by, reading_of, read_by_poll, read_by_call, more, told_by_call, told_after, after, known_at_first, AreUnread, Follow, HasRead, IsInOrder, ReadsInOrder, unread_by_poll, unread_by_call, unread_told, IsExact, IsExactPoll, IsExactCall, TellsUnread, TellsGone, HasUnread, CountsAreTrue}
use Rattle.esync_pubsub.specs.Sizes.{IsHeld, SizesAddUp}
use Rattle.esync_log.specs.declared.log.TryPublishError.TheVariants.{Full, Exhausted}
use Rattle.esync_pubsub.specs.declared.pubsub.Error.TheVariants.{MaximumSubscribersReached, MaximumPublishersReached}
use Rattle.esync_log.specs.declared.log.WaitResult.{WaitResult}
use Rattle.esync_log.specs.declared.log.WaitResult.TheVariants.{Lagged, Message as Given}
use Rattle.esync_pubsub.specs.declared.pubsub.machine.PubSubAsk.{PubSubAsk}
use Rattle.esync_pubsub.specs.declared.pubsub.machine.PubSubAsk.TheVariants.{Publish, Message, MessagePure, Stream}
use Rattle.esync_pubsub.specs.declared.pubsub.machine.PubSubCall.{PubSubCall}
use Rattle.esync_pubsub.specs.declared.pubsub.machine.PubSubCall.TheVariants.{Join, Leave, Publisher, Retire, TryPublish, Immediate, Next, NextPure, Available, Clear, Len, FreeCapacity}
use Rattle.esync_pubsub.specs.declared.pubsub.machine.PubSubHeard.{PubSubHeard}
use Rattle.esync_pubsub.specs.declared.pubsub.machine.PubSubHeard.TheVariants.{Published, Read, ReadPure, Streamed, Came, TriedPublish, PublishedAtOnce, Tried, TriedPure, Unread, Number}
use Rattle.esync_pubsub.proofs.Advance.{no_poll as no_topic_poll, no_call as no_topic_call, topic_polled, topic_called}
use Rattle.esync_pubsub.proofs.Calls.{where_done}
use Rattle.esync_pubsub.proofs.Kept.{GoesOn, read_goes, pure_goes}
use Rattle.esync_log.specs.LogLaws.{free_below, free_there, some_number}
use Rattle.esync_pubsub.proofs.Named.{named_new, named_same, named_join, named_leave}
use Rattle.esync_pubsub.proofs.Unread.{IsEnd, end_same, end_none, end_settled, end_room, IsNumbered, numbered_end, unread_end, unread_published, Tells, read_tells, pure_tells, stream_tells, read_end, pure_end, follow_published, follow_reading}

-- one who is live is somebody
somebody : (ps : List (Option ℕ)) (i : ℕ) → is_some (slice_index_or ps i None) ≡ true → list_any is_some ps ≡ true
somebody [] i e = absurd cc
somebody (Some p ∷ ps) i e = refl
somebody (None ∷ ps) zero e = absurd cc
somebody (None ∷ ps) (suc i) e = somebody ps i e

-- the log, without who waits, and no publishers: what the numbers of the subscribers are told of
abbrev seen : {T : Type 0} → Topic T → PubSub T (Unit {0})
seen o = record { log = o.log; publishers = 0; lists = record { subscribers = []; publishers = [] } }

abbrev nobody : ℕ → List (Option (Unit {0}))
nobody names = replicate names None

module _ {T : Type 0} (names : ℕ) where
  -- what holds of every channel
  pub record IsWhole (o : Topic T) : Type 0 where
    named : AreNamed 1 0 names (seen o) (record { subscribers = o.subscribers; publishers = nobody names })
    numbered : IsNumbered o.log

  -- a machine's state, lent
  pub whole_of : {W : Type 0} (most pubs : ℕ) (lent e : Eventing (PubSub T W)) → lent ≡ e → AreNamed most pubs names lent.state lent.tables → IsNumbered lent.state.log → IsWhole (topic_of e.state e.tables)
  whole_of {W} most pubs lent e same m n = subst (λ (x : Eventing (PubSub T W)). IsWhole (topic_of x.state x.tables)) same (record {
    named = record {
      room = omega arith;
      at_most = omega arith;
      subscribers = m.subscribers;
      publishers = length-replicate names None;
      live = m.live;
      apart = m.apart;
      named = m.named;
      counted = (named_new {T = T} {W = Unit {0}} 1 0 names 0 0 (omega arith)).counted;
    };
    numbered = n;
  })

  whole_log : (o o2 : Topic T) → IsWhole o → o2.subscribers ≡ o.subscribers → ((q : ℕ) → is_live q o2.log ≡ is_live q o.log) → IsNumbered o2.log → IsWhole o2
  whole_log o o2 w e live n = record {
    named = subst (λ ns. AreNamed 1 0 names (seen o2) (record { subscribers = ns; publishers = nobody names })) (sym e) (named_same 1 0 names (seen o) (seen o2) o.subscribers (nobody names) w.named refl live);
    numbered = n;
  }

module _ {T : Type 0} (C : T → T → Type 0) (names s : ℕ) where
  -- what is told of the subscriber
  record Stands (o : Topic T) (told : Option (Told T)) : Type 0 where
    whole : IsWhole names o
    reads : IfSome told (λ k. HasRead C s o k)

  -- a message that is published, and a reading, of the subscriber at the place
  abbrev Grows : Option T → Option (Reading T) → ℕ → Log T → Log T → Type 0
  Grows m x q log log2 =
      (unread : List T) → AreUnread q log unread → (unread2 : List T) × AreUnread q log2 unread2 × ((p : List T) (xs : List (Reading T)) → Follow C p xs unread → Follow C (and p m) (and xs x) unread2)

  -- a step of the log in which this message is published, and that is told to the subscriber
  record Steps (m : Option T) (x : Option (Reading T)) (o : Topic T) (log2 : Log T) : Type 0 where
    live : (q : ℕ) → is_live q log2 ≡ is_live q o.log
    numbered : IsNumbered log2
    grows : is_subscriber s o ≡ true → Grows m x (place_at s o) o.log log2

  reads_log : (o o2 : Topic T) (m : Option T) (x : Option (Reading T)) (told : Option (Told T)) → o2.subscribers ≡ o.subscribers → Steps m x o o2.log → IfSome told (λ k. HasRead C s o k) → IfSome (more m x told) (λ k. HasRead C s o2 k)
  reads_log o o2 m x None e t h = tt
  reads_log o o2 m x (Some k) e t h = (let g = t.grows h.here h.unread h.rest in record {
    here = ap (λ ns. is_some (at_number ns s)) e ∙ h.here;
    unread = g.0;
    follow = g.2 k.published k.readings h.follow;
    rest = subst (λ ns. AreUnread (number_of (at_number ns s)) o2.log g.0) (sym e) g.1;
  })

  stands_log : (o o2 : Topic T) (m : Option T) (x : Option (Reading T)) (told : Option (Told T)) → o2.subscribers ≡ o.subscribers → Steps m x o o2.log → Stands o told → Stands o2 (more m x told)
  stands_log o o2 m x told e t h = record { whole = whole_log names o o2 h.whole e t.live t.numbered; reads = reads_log o o2 m x told e t h.reads }

  -- nothing is published, and nothing told
  grows_none : (q : ℕ) (log log2 : Log T) → IsNumbered log → log2.next ≡ log.next → position q log2 ≡ position q log → IsEnd log.held log2.held → Grows None None q log log2
  grows_none q log log2 n next there e unread u = (unread, unread_end q log log2 unread n next there e u, λ p xs f. f)

  module _ (o : Topic T) (w : IsWhole names o) where
    steps_same : (log2 : Log T) → log2 ≡ o.log → Steps None None o log2
    steps_same log2 e =
        let k : Steps None None o o.log = record {
          live = λ q. refl;
          numbered = w.numbered;
          grows = λ here unread u. (unread, u, λ p xs f. f);
        } in
        subst (λ x. Steps None None o x) (sym e) k

    steps_quiet : (b : Bool) (log2 : Log T) → log2 ≡ o.log → Steps None (if b then None else None) o log2
    steps_quiet true log2 e = steps_same log2 e
    steps_quiet false log2 e = steps_same log2 e

    live_at : (t : ℕ) → is_subscriber t o ≡ true → is_live (place_at t o) o.log ≡ true
    live_at t e = w.named.live t (place_at t o) (some_number (at_number o.subscribers t) e)

    apart_at : (t : ℕ) → is_subscriber t o ≡ true → is_subscriber s o ≡ true → (s ≡ t → ⊥) → place_at s o ≡ place_at t o → ⊥
    apart_at t e here n p = n (w.named.apart s t (place_at s o) (some_number (at_number o.subscribers s) here) (some_number (at_number o.subscribers t) e ∙ ap Some (sym p)))

    -- a message is accepted, once others made room
    accepted : (m : T) (log1 log2 : Log T) → log1.positions ≡ o.log.positions → log1.next ≡ o.log.next → IsEnd o.log.held log1.held → (b : Bool) → has_subscribers o.log ≡ b → Accepts b o.log log2 (published m log1) → Steps (Some m) None o log2
    accepted m log1 log2 ps next e true h a =
        let n : IsNumbered log1 = numbered_end o.log log1 w.numbered next e in
        let k : Steps (Some m) None o (published m log1) = record {
          live = λ q. ap (λ x. is_some (slice_index_or x q None)) ps;
          numbered = (let l = length_push log1.held m in omega (arith, l, n));
          grows = λ here unread u. (
            unread ++ m ∷ [],
            unread_published (place_at s o) log1 unread m n (unread_end (place_at s o) o.log log1 unread w.numbered next (ap (λ x. number_of (slice_index_or x (place_at s o) None)) ps) e u),
            λ p xs f. follow_published C p unread xs m f,
          );
        } in
        subst (λ x. Steps (Some m) None o x) (sym a.1) k
    accepted m log1 log2 ps next e false h a = record {
      live = λ q. ap (λ x. is_live q x) a;
      numbered = subst (λ x. IsNumbered x) (sym a) w.numbered;
      grows = λ here unread u. absurd (let i : has_subscribers o.log ≡ true = somebody o.log.positions (place_at s o) (live_at s here) in let j = sym h ∙ i in cc);
    }

    steps_published : (cap : ℕ) (m : T) (log2 : Log T) → Publishes cap m o.log (Ok tt) log2 → Steps (Some m) None o log2
    steps_published cap m log2 h = accepted m o.log log2 refl refl (end_same o.log.held o.log.held refl) (has_subscribers o.log) refl h.1

    steps_at_once : (cap : ℕ) (m : T) (log2 : Log T) → PublishesAtOnce cap m o.log (Ok tt) log2 → Steps (Some m) None o log2
    steps_at_once cap m log2 h = accepted m (with_room cap o.log) log2 refl refl (end_room (nat_lt (length o.log.held) cap) o.log.held) (has_subscribers o.log) refl h

    -- the subscriber t reads, for whom so many messages are gone
    steps_read : (t : ℕ) (x : ℕ → Reading T) (log2 : Log T) → is_subscriber t o ≡ true → GoesOn (place_at t o) o.log log2 → IsEnd o.log.held log2.held → ((unread : List T) → AreUnread (place_at t o) o.log unread → Tells C (x (gone t o)) (place_at t o) log2 unread) → (b : Bool) → (s == t) ≡ b → Steps None (if b then Some (x (gone s o)) else None) o log2
    steps_read t x log2 e g held tells true i = record {
      live = g.live;
      numbered = numbered_end o.log log2 w.numbered g.next held;
      grows = λ here. subst (λ r. Grows None (Some (x (gone r o))) (place_at r o) o.log log2) (sym (same_number s t i)) (λ unread u. (let k = tells unread u in (_, k.rest, λ p xs f. follow_reading C p unread xs (x (gone t o)) k.most k.given f)));
    }
    steps_read t x log2 e g held tells false i = record {
      live = g.live;
      numbered = numbered_end o.log log2 w.numbered g.next held;
      grows = λ here. grows_none (place_at s o) o.log log2 w.numbered g.next (g.others (place_at s o) (apart_at t e here (λ j. (let k = equal_number s t j in let l = sym k ∙ i in cc)))) held;
    }

    module _ (t : ℕ) (e : is_subscriber t o ≡ true) (log2 : Log T) where
      reads : (answer : WaitResult T) → IsBelow (Some answer) (position (place_at t o) o.log) o.log → Reads C (place_at t o) o.log (Some answer) log2 → Steps None (if s == t then Some (reading_of (gone s o) (given_by answer)) else None) o log2
      reads answer b r =
          steps_read t (λ n. reading_of n (given_by answer)) log2 e (read_goes C (place_at t o) o.log (Some answer) log2 (live_at t e) b r) (read_end C (place_at t o) o.log log2 (Some answer) r) (λ unread u. read_tells C (place_at t o) o.log log2 unread w.numbered (live_at t e) u answer r) (s == t) refl

      reads_on : (answer : Option T) → IsBelow answer (position (place_at t o) (caught (place_at t o) o.log)) o.log → ReadsOn C (place_at t o) o.log answer log2 → Steps None (if s == t then Some (reading_of (gone s o) answer) else None) o log2
      reads_on answer b r =
          steps_read t (λ n. reading_of n answer) log2 e (pure_goes C (place_at t o) o.log answer log2 (live_at t e) b r) (pure_end C (place_at t o) o.log log2 answer r) (λ unread u. pure_tells C (place_at t o) o.log log2 unread w.numbered (live_at t e) u answer r) (s == t) refl

      gap_below : (b : Bool) (k : ℕ) → Reads C (place_at t o) o.log (gap b k) log2 → IsBelow (gap {T = T} b k) (position (place_at t o) o.log) o.log
      gap_below true k r = omega (arith, r.0)
      gap_below false k r = tt

      streams : Reads C (place_at t o) o.log (gap (lags (place_at t o) o.log) (oldest o.log - position (place_at t o) o.log)) log2 → Steps None (if s == t then Some (reading_of (gone s o) None) else None) o log2
      streams r =
          let q = place_at t o in
          let x = gap {T = T} (lags q o.log) (oldest o.log - position q o.log) in
          steps_read t (λ n. reading_of n None) log2 e (read_goes C q o.log x log2 (live_at t e) (gap_below (lags q o.log) (oldest o.log - position q o.log) r) r) (read_end C q o.log log2 x r) (λ unread u. stream_tells C q o.log log2 unread w.numbered (live_at t e) u r) (s == t) refl

    -- a poll of a request
    polled : (I : T → Type 0) (cap : ℕ) (ask : PubSubAsk T) (a : Answer (PubSubHeard T)) (log2 : Log T) → names_it ask o ≡ true → PollsLog C I cap o ask a log2 → Steps (published_by_poll (Some ask) a) (read_by_poll s (gone s o) (Some ask) a) o log2
    polled I cap (Publish p message) Pending log2 f h = steps_same log2 h.3
    polled I cap (Publish p message) (Gives (Published (Ok done))) log2 f h = steps_published cap message log2 h
    polled I cap (Publish p message) (Gives (Published (Err refused))) log2 f h = steps_same log2 h.4
    polled I cap (Publish p message) a log2 f h = absurd h
    polled I cap (Message t) Pending log2 f h = steps_quiet (s == t) log2 h.1
    polled I cap (Message t) (Gives (Read answer)) log2 f h = reads t f log2 answer h.0 h.1
    polled I cap (Message t) NoMemory log2 f h = steps_quiet (s == t) log2 h.2
    polled I cap (Message t) a log2 f h = absurd h
    polled I cap (MessagePure t) Pending log2 f h = reads_on t f log2 None tt h
    polled I cap (MessagePure t) (Gives (ReadPure answer)) log2 f h = reads_on t f log2 (Some answer) h.0 h.1
    polled I cap (MessagePure t) NoMemory log2 f h = steps_quiet (s == t) log2 h.2
    polled I cap (MessagePure t) a log2 f h = absurd h
    polled I cap (Stream t) Pending log2 f h = streams t f log2 h
    polled I cap (Stream t) (Gives (Streamed None)) log2 f h = absurd h.1
    polled I cap (Stream t) (Gives (Streamed (Some v))) log2 f h = reads t f log2 (Given v) h.0 h.1
    polled I cap (Stream t) NoMemory log2 f h = steps_quiet (s == t) log2 h.2
    polled I cap (Stream t) a log2 f h = absurd h

    tries_publish : (cap p : ℕ) (message : T) (a : Answer (PubSubHeard T)) (log2 : Log T) → TriesPublish cap message o.log a log2 → Steps (published_by_call (TryPublish p message) a) None o log2
    tries_publish cap p message (Gives (TriedPublish (Ok done))) log2 h = steps_published cap message log2 h
    tries_publish cap p message (Gives (TriedPublish (Err (Full back)))) log2 h = steps_same log2 h.3
    tries_publish cap p message (Gives (TriedPublish (Err (Exhausted back)))) log2 h = steps_same log2 h.4
    tries_publish cap p message a log2 h = absurd h

    at_once : (cap : ℕ) (message : T) (a : Answer (PubSubHeard T)) (log2 : Log T) → AtOnce cap message o.log a log2 → Steps (published_by_call (Immediate message) a) None o log2
    at_once cap message (Gives (PublishedAtOnce (Ok done))) log2 h = steps_at_once cap message log2 h
    at_once cap message (Gives (PublishedAtOnce (Err refused))) log2 h = steps_same log2 h.3
    at_once cap message a log2 h = absurd h

    tries : (I : T → Type 0) (t : ℕ) → is_subscriber t o ≡ true → (a : Answer (PubSubHeard T)) (log2 : Log T) → Tries C I (place_at t o) o.log a log2 → Steps None (read_by_call s (gone s o) (Next t) a) o log2
    tries I t e (Gives (Tried None)) log2 h = steps_same log2 h.1.1
    tries I t e (Gives (Tried (Some answer))) log2 h = reads t e log2 answer h.0 h.1
    tries I t e NoMemory log2 h = steps_same log2 h.2
    tries I t e a log2 h = absurd h

    tries_pure : (I : T → Type 0) (t : ℕ) → is_subscriber t o ≡ true → (a : Answer (PubSubHeard T)) (log2 : Log T) → TriesPure C I (place_at t o) o.log a log2 → Steps None (read_by_call s (gone s o) (NextPure t) a) o log2
    tries_pure I t e (Gives (TriedPure answer)) log2 h = reads_on t e log2 answer h.0 h.1
    tries_pure I t e NoMemory log2 h = steps_same log2 h.2
    tries_pure I t e a log2 h = absurd h

    steps_clear : Steps None None o (cleared o.log)
    steps_clear = record {
      live = λ q. refl;
      numbered = omega arith;
      grows = λ here. grows_none (place_at s o) o.log (cleared o.log) w.numbered refl refl (end_none o.log.held);
    }

    -- a step that changes neither the log nor whom the numbers name
    stands_same : (o2 : Topic T) (told : Option (Told T)) → o2.log ≡ o.log → o2.subscribers ≡ o.subscribers → Stands o told → Stands o2 (more None None told)
    stands_same o2 told e f h = stands_log o o2 None None told f (steps_same o2.log e) h

    -- a subscriber comes under a free number
    module _ (t place : ℕ) (free : is_free t o.subscribers ≡ true) (log2 : Log T) (j : Joins o.log (Some place) log2) where
      abbrev joined : Topic T
      joined = record { log = log2; subscribers = slice_set o.subscribers t (Some place); publishers = o.publishers }

      joined_next : log2.next ≡ o.log.next
      joined_next = ap (λ x. x.next) j.1

      joined_held : log2.held ≡ o.log.held
      joined_held = ap (λ x. x.held) j.1

      joined_whole : IsWhole names joined
      joined_whole = record {
        named = named_join 1 0 names (seen o) (seen joined) o.subscribers (nobody names) w.named t place j free refl;
        numbered = numbered_end o.log log2 w.numbered joined_next (end_same o.log.held log2.held joined_held);
      }

      -- it has nothing to read yet
      joined_unread : AreUnread place log2 []
      joined_unread = subst (λ x. AreUnread place x []) (sym j.1) (
          let there : position place (moved place o.log.next o.log) ≡ o.log.next = ap number_of (get_or-set_same o.log.positions place (Some o.log.next) None (free_below o.log.positions place j.0.free)) in
          let n = w.numbered in
          record {
            count = omega (arith, there);
            held = ap (λ p. drop (p - oldest o.log) o.log.held) there ∙ drop_all (o.log.next - oldest o.log) o.log.held (omega (arith, n)) ∙ sym (drop_all (oldest o.log - position place (moved place o.log.next o.log)) [] (omega arith));
          })

      joined_reads : (told : Option (Told T)) → IfSome told (λ k. HasRead C s o k) → (b : Bool) → (s == t) ≡ b → IfSome (if b then Some (record { published = []; readings = [] }) else told) (λ k. HasRead C s joined k)
      joined_reads told h true e =
          let here : at_number (slice_set o.subscribers t (Some place)) s ≡ Some place = subst (λ r. at_number (slice_set o.subscribers t (Some place)) r ≡ Some place) (sym (same_number s t e)) (at_set_here o.subscribers t None (Some place) (free_is (slice_get o.subscribers t) free)) in
          record {
            here = ap is_some here;
            unread = [];
            follow = refl;
            rest = subst (λ q. AreUnread (number_of q) log2 []) (sym here) joined_unread;
          }
      joined_reads None h false e = tt
      joined_reads (Some k) h false e =
          let same : at_number (slice_set o.subscribers t (Some place)) s ≡ at_number o.subscribers s = at_set_other o.subscribers t s (Some place) (λ i. (let l = equal_number s t (sym i) in let m = sym l ∙ e in cc)) in
          let q = place_at s o in
          let other : q ≡ place → ⊥ = λ i. (let a : is_live q o.log ≡ true = live_at s h.here in let b : is_live place o.log ≡ false = ap is_some (free_there o.log.positions place j.0.free) in let c : is_live place o.log ≡ true = subst (λ x. is_live x o.log ≡ true) i a in cc) in
          let there : position q log2 ≡ position q o.log = ap (λ x. position q x) j.1 ∙ ap number_of (get_or-set_other o.log.positions place q (Some o.log.next) None other) in
          record {
            here = ap is_some same ∙ h.here;
            unread = h.unread;
            follow = h.follow;
            rest = subst (λ q. AreUnread (number_of q) log2 h.unread) (sym same) (unread_end q o.log log2 h.unread w.numbered joined_next there (end_same o.log.held log2.held joined_held) h.rest);
          }

    -- a subscriber leaves
    module _ (t : ℕ) (e : is_subscriber t o ≡ true) where
      left_whole : IsWhole names (departed t o)
      left_whole = record {
        named = named_leave 1 0 names (seen o) (seen (departed t o)) o.subscribers (nobody names) w.named t (place_at t o) (some_number (at_number o.subscribers t) e) refl refl;
        numbered = numbered_end o.log (departed t o).log w.numbered refl (end_settled (oldest o.log) (without (place_at t o) o.log).positions o.log.held);
      }

      left_reads : (told : Option (Told T)) → IfSome told (λ k. HasRead C s o k) → (b : Bool) → (s == t) ≡ b → IfSome (if b then None else told) (λ k. HasRead C s (departed t o) k)
      left_reads told h true i = tt
      left_reads None h false i = tt
      left_reads (Some k) h false i =
          let ne : s ≡ t → ⊥ = λ j. (let l = equal_number s t j in let m = sym l ∙ i in cc) in
          let same : at_number (slice_set o.subscribers t None) s ≡ at_number o.subscribers s = at_set_other o.subscribers t s None (λ j. ne (sym j)) in
          let q = place_at s o in
          let there : position q (left (place_at t o) o.log) ≡ position q o.log = ap number_of (get_or-set_other o.log.positions (place_at t o) q None None (apart_at t e h.here ne)) in
          record {
            here = ap is_some same ∙ h.here;
            unread = h.unread;
            follow = h.follow;
            rest = subst (λ q. AreUnread (number_of q) (left (place_at t o) o.log) h.unread) (sym same) (unread_end q o.log (left (place_at t o) o.log) h.unread w.numbered refl there (end_settled (oldest o.log) (without (place_at t o) o.log).positions o.log.held) h.rest);
          }

  more_none : (told : Option (Told T)) → more None None told ≡ told
  more_none None = refl
  more_none (Some k) = refl

  abbrev unheard : Option (Reading T)
  unheard = None

  either_none : (b : Bool) → (if b then unheard else unheard) ≡ unheard
  either_none true = refl
  either_none false = refl

  no_poll : (n : ℕ) (ask : Option (PubSubAsk T)) → (published_by_poll ask NoSuch ≡ None) × (read_by_poll s n ask NoSuch ≡ None)
  no_poll n None = (refl, refl)
  no_poll n (Some (Publish p message)) = (refl, refl)
  no_poll n (Some (Message t)) = (refl, either_none (s == t))
  no_poll n (Some (MessagePure t)) = (refl, either_none (s == t))
  no_poll n (Some (Stream t)) = (refl, either_none (s == t))

  no_call : (n : ℕ) (told : Option (Told T)) (call : PubSubCall T) → told_by_call s n told call NoSuch ≡ more None None told
  no_call n told (Join t) = refl
  no_call n told (Leave t) = refl
  no_call n told (Publisher p) = refl
  no_call n told (Retire p) = refl
  no_call n told (TryPublish p message) = refl
  no_call n told (Immediate message) = refl
  no_call n told (Next t) = refl
  no_call n told (NextPure t) = refl
  no_call n told (Available t) = refl
  no_call n told Clear = refl
  no_call n told Len = refl
  no_call n told FreeCapacity = refl

  module _ (I : T → Type 0) (cap pubs : ℕ) (W : Type 0) where
    abbrev rules : Rules (PubSubAsk T) (PubSubAsk T) (PubSubCall T) (PubSubHeard T)
    rules = pubsub_rules C I cap pubs

    -- what is told of the channel is so, and what is told of the subscriber
    record On (o : Topic T) (k : Account T) : Type 0 where
      stands : Stands o k.told
      same : k.topic ≡ o

    -- the account has what the request is for
    abbrev IsKnown : Account T → ℕ → PubSubAsk T → Type 0
    IsKnown k r ask = ask_of k.asked r ≡ Some ask

    refused_told : (n : ℕ) (k : Account T) (c : Command (PubSubAsk T) W (PubSubCall T)) → told_after s n k c NoSuch ≡ k.told
    refused_told n k (Start r ask) = refl
    refused_told n k (Poll r w) = (let e = no_poll n (ask_of k.asked r) in ap (λ m. more m (read_by_poll s n (ask_of k.asked r) NoSuch) k.told) e.0 ∙ ap (λ x. more None x k.told) e.1 ∙ more_none k.told)
    refused_told n k (End r) = refl
    refused_told n k (Call call) = no_call n k.told call ∙ more_none k.told

    refused_topic : (k : Account T) (c : Command (PubSubAsk T) W (PubSubCall T)) → topic_after cap k.asked k.topic c NoSuch ≡ k.topic
    refused_topic k (Start r ask) = refl
    refused_topic k (Poll r w) = no_topic_poll k.topic (ask_of k.asked r)
    refused_topic k (End r) = refl
    refused_topic k (Call call) = no_topic_call cap k.topic call

    refused_asked : (k : Account T) (c : Command (PubSubAsk T) W (PubSubCall T)) → asked_after {A = PubSubHeard T} k.asked c NoSuch ≡ k.asked
    refused_asked k (Start r ask) = refl
    refused_asked k (Poll r w) = refl
    refused_asked k (End r) = refl
    refused_asked k (Call call) = refl

    refused : (k : Account T) (c : Command (PubSubAsk T) W (PubSubCall T)) → after cap s k c NoSuch ≡ k
    refused k c =
        let a : List (ℕ × PubSubAsk T) → Topic T → Option (Told T) → Account T = λ asked topic told. record { asked = asked; topic = topic; told = told } in
        ap (λ x. a x (topic_after cap k.asked k.topic c NoSuch) (told_after s (gone s k.topic) k c NoSuch)) (refused_asked k c) ∙ ap (λ x. a k.asked x (told_after s (gone s k.topic) k c NoSuch)) (refused_topic k c) ∙ ap (λ x. a k.asked k.topic x) (refused_told (gone s k.topic) k c)

    -- nothing changed
    by_refused : (o o2 : Topic T) (k : Account T) (c : Command (PubSubAsk T) W (PubSubCall T)) (a : Answer (PubSubHeard T)) → Stands o k.told → a ≡ NoSuch → o2 ≡ o → Stands o2 (told_after s (gone s o) k c a)
    by_refused o o2 k c a h e f = subst (λ x. Stands o2 (told_after s (gone s o) k c x)) (sym e) (subst (λ x. Stands x (told_after s (gone s o) k c NoSuch)) (sym f) (subst (λ x. Stands o x) (sym (refused_told (gone s o) k c)) h))

    -- a step after which what is told stands
    goes_on : (o o2 : Topic T) (k : Account T) (c : Command (PubSubAsk T) W (PubSubCall T)) (a : Answer (PubSubHeard T)) → k.topic ≡ o → topic_after cap k.asked o c a ≡ o2 → Stands o2 (told_after s (gone s o) k c a) → On o2 (after cap s k c a)
    goes_on o o2 k c a e f h = record {
      stands = subst (λ x. Stands o2 (told_after s (gone s x) k c a)) (sym e) h;
      same = subst (λ x. topic_after cap k.asked x c a ≡ o2) (sym e) f;
    }

    began : (b : Bool) (ask h : PubSubAsk T) → Begins b ask (Some h) → Some h ≡ Some ask
    began true ask h e = e
    began false ask h e = cc

    rest_known : (k : Account T) (r : ℕ) (ask : PubSubAsk T) (a : Answer (PubSubHeard T)) → IsKnown k r ask → IfSome (rest_of ask a) (λ x. IsKnown k r x)
    rest_known k r ask Done known = known
    rest_known k r ask Pending known = known
    rest_known k r ask NoSuch known = known
    rest_known k r ask NoMemory known = known
    rest_known k r ask (Gives heard) known = tt

    module _ (o o2 : Topic T) (k : Account T) (on : Stands o k.told) where
      on_polled : (r : ℕ) (v : W) (ask : PubSubAsk T) (a : Answer (PubSubHeard T)) (p : Option (PubSubAsk T)) → IsKnown k r ask → Polls C I cap o ask a o2 p → Stands o2 (told_after s (gone s o) k (Poll r v) a)
      on_polled r v ask a p known h = elim (where_done (names_it ask o) o (PollsLog C I cap o ask a o2.log × WithLog o o2) a o2 h.0) [
        | inl d ↦ subst (λ x. Stands o2 (more (published_by_poll x a) (read_by_poll s (gone s o) x a) k.told)) (sym known) (stands_log o o2 (published_by_poll (Some ask) a) (read_by_poll s (gone s o) (Some ask) a) k.told (ap (λ x. x.subscribers) d.1.1) (polled o on.whole I cap ask a o2.log d.0 d.1.0) on)
        | inr n ↦ by_refused o o2 k (Poll r v) a on n.0 n.1
      ]

      came : (t : ℕ) (a : Answer (PubSubHeard T)) → is_free t o.subscribers ≡ true → Comes t o a o2 → Stands o2 (told_by_call s (gone s o) k.told (Join t) a)
      came t (Gives (Came (Ok done))) f h = subst (λ x. Stands x (told_by_call s (gone s o) k.told (Join t) (Gives (Came (Ok done))))) (sym h.2) (record {
        whole = joined_whole o on.whole t h.0 f o2.log h.1;
        reads = joined_reads o on.whole t h.0 f o2.log h.1 k.told on.reads (s == t) refl;
      })
      came t (Gives (Came (Err MaximumSubscribersReached))) f h = stands_same o on.whole o2 k.told h.0.1 (ap (λ x. x.subscribers) h.1) on
      came t (Gives (Came (Err MaximumPublishersReached))) f h = absurd h.0
      came t a f h = absurd h

      counted : (p : ℕ) (a : Answer (PubSubHeard T)) → Counts pubs p o a o2 → Stands o2 (told_by_call s (gone s o) k.told (Publisher p) a)
      counted p (Gives (Came (Ok done))) h = stands_same o on.whole o2 k.told (ap (λ x. x.log) h.1) (ap (λ x. x.subscribers) h.1) on
      counted p (Gives (Came (Err MaximumPublishersReached))) h = stands_same o on.whole o2 k.told (ap (λ x. x.log) h.1) (ap (λ x. x.subscribers) h.1) on
      counted p a h = absurd h

      module _ (a : Answer (PubSubHeard T)) where
        by_done : (call : PubSubCall T) → a ≡ Done → Stands o2 (told_by_call s (gone s o) k.told call Done) → Stands o2 (told_by_call s (gone s o) k.told call a)
        by_done call e h = subst (λ x. Stands o2 (told_by_call s (gone s o) k.told call x)) (sym e) h

        called : (call : PubSubCall T) → Calls C I cap pubs o call a o2 → Stands o2 (told_by_call s (gone s o) k.told call a)
        called (Join t) h = elim (where_done (is_free t o.subscribers) o (Comes t o a o2) a o2 h) [
          | inl d ↦ came t a d.0 d.1
          | inr n ↦ by_refused o o2 k (Call (Join t)) a on n.0 n.1
        ]
        called (Leave t) h = elim (where_done (is_subscriber t o) o ((a ≡ Done) × (o2 ≡ departed t o)) a o2 h) [
          | inl d ↦ by_done (Leave t) d.1.0 (subst (λ x. Stands x (told_by_call s (gone s o) k.told (Leave t) Done)) (sym d.1.1) (record {
            whole = left_whole o on.whole t d.0;
            reads = left_reads o on.whole t d.0 k.told on.reads (s == t) refl;
          }))
          | inr n ↦ by_refused o o2 k (Call (Leave t)) a on n.0 n.1
        ]
        called (Publisher p) h = elim (where_done (is_free p o.publishers) o (Counts pubs p o a o2) a o2 h) [
          | inl d ↦ counted p a d.1
          | inr n ↦ by_refused o o2 k (Call (Publisher p)) a on n.0 n.1
        ]
        called (Retire p) h = elim (where_done (is_publisher p o) o ((a ≡ Done) × (o2 ≡ record o { publishers = slice_set o.publishers p None })) a o2 h) [
          | inl d ↦ by_done (Retire p) d.1.0 (stands_same o on.whole o2 k.told (ap (λ x. x.log) d.1.1) (ap (λ x. x.subscribers) d.1.1) on)
          | inr n ↦ by_refused o o2 k (Call (Retire p)) a on n.0 n.1
        ]
        called (TryPublish p message) h = elim (where_done (is_publisher p o) o (TriesPublish cap message o.log a o2.log × WithLog o o2) a o2 h) [
          | inl d ↦ stands_log o o2 (published_by_call (TryPublish p message) a) None k.told (ap (λ x. x.subscribers) d.1.1) (tries_publish o on.whole cap p message a o2.log d.1.0) on
          | inr n ↦ by_refused o o2 k (Call (TryPublish p message)) a on n.0 n.1
        ]
        called (Immediate message) h = stands_log o o2 (published_by_call (Immediate message) a) None k.told (ap (λ x. x.subscribers) h.1) (at_once o on.whole cap message a o2.log h.0) on
        called (Next t) h = elim (where_done (is_subscriber t o) o (Tries C I (place_at t o) o.log a o2.log × WithLog o o2) a o2 h) [
          | inl d ↦ stands_log o o2 None (read_by_call s (gone s o) (Next t) a) k.told (ap (λ x. x.subscribers) d.1.1) (tries o on.whole I t d.0 a o2.log d.1.0) on
          | inr n ↦ by_refused o o2 k (Call (Next t)) a on n.0 n.1
        ]
        called (NextPure t) h = elim (where_done (is_subscriber t o) o (TriesPure C I (place_at t o) o.log a o2.log × WithLog o o2) a o2 h) [
          | inl d ↦ stands_log o o2 None (read_by_call s (gone s o) (NextPure t) a) k.told (ap (λ x. x.subscribers) d.1.1) (tries_pure o on.whole I t d.0 a o2.log d.1.0) on
          | inr n ↦ by_refused o o2 k (Call (NextPure t)) a on n.0 n.1
        ]
        called (Available t) h = elim (where_done (is_subscriber t o) o _ a o2 h) [
          | inl d ↦ stands_same o on.whole o2 k.told (ap (λ x. x.log) d.1.1) (ap (λ x. x.subscribers) d.1.1) on
          | inr n ↦ by_refused o o2 k (Call (Available t)) a on n.0 n.1
        ]
        called Clear h = by_done Clear h.0 (subst (λ x. Stands x (more None None k.told)) (sym h.1) (stands_log o (record o { log = cleared o.log }) None None k.told refl (steps_clear o on.whole) on))
        called Len h = stands_same o on.whole o2 k.told (ap (λ x. x.log) h.1) (ap (λ x. x.subscribers) h.1) on
        called FreeCapacity h = stands_same o on.whole o2 k.told (ap (λ x. x.log) h.3) (ap (λ x. x.subscribers) h.3) on

    -- calls concern no number
    no_number : (call : PubSubCall T) (r : ℕ) → reach call ≡ AtNumber r → ⊥
    no_number (Leave t) r e = cc
    no_number (Retire p) r e = cc
    no_number call r e = cc

    keeps : KeepsEach rules (λ c. Unit {0}) (after {W = W} cap s) On IsKnown
    keeps = record {
      refused = refused;
      starts = λ o k r ask h begins on. (goes_on o o k (Start r ask) Done on.same refl on.stands, ask_of-started k.asked r ask ∙ sym (began (names_it ask o) ask h begins));
      polls = λ o o2 k r v ask a p h on known. (
        goes_on o o2 k (Poll r v) a on.same (subst (λ x. topic_after_poll o x a ≡ o2) (sym known) (topic_polled C I cap o o2 ask a p h)) (on_polled o o2 k on.stands r v ask a p known h),
        subst (λ q. IfSome q (λ x. IsKnown k r x)) (sym h.1) (rest_known k r ask a known),
      );
      ends = λ o o2 k r ask e on known. goes_on o o2 k (End r) Done on.same (sym e) (subst (λ x. Stands x k.told) (sym e) on.stands);
      calls = λ o o2 k call r p p2 a reach h on known. absurd (no_number call r reach);
      alone = λ o o2 k call p a none h on. goes_on o o2 k (Call call) a on.same (topic_called C I cap o o2 pubs a call h.0) (called o o2 k on.stands a call h.0);
      others = λ k c a r ask ne known. ask_of-other rules k.asked c a r ne ∙ known;
    }

    in_order_now : (o : Topic T) (k : Account T) → On o k → IsInOrder C s k
    in_order_now o k on = subst (λ x. IfSome k.told (λ t. HasRead C s x t)) (sym on.same) on.stands.reads

    in_order_before : EachStep rules (HasLaw rules (λ c. Unit {0}) (after {W = W} cap s) (IsTold rules (λ c. Unit {0}) (after {W = W} cap s) On IsKnown) (λ k c a. IsInOrder C s k))
    in_order_before = record {
      refused = λ o c k kind told. in_order_now o.core k told.core;
      starts = λ o r ask h there begins k kind told. in_order_now o.core k told.core;
      polls = λ o r v h a core p there polls k kind told. in_order_now o.core k told.core;
      ends = λ o r h core there ends k kind told. in_order_now o.core k told.core;
      calls = λ o call r p a core p2 reach there calls k kind told. in_order_now o.core k told.core;
      alone = λ o call a core p reach calls k kind told. in_order_now o.core k told.core;
      leaves = λ o call a core p reach calls k kind told. in_order_now o.core k told.core;
    }

    -- what is told of how many are unread is so
    abbrev IsSo : Option ℕ → Option (Told T) → Type 0
    IsSo m told = IfSome m (λ n. IfSome told (λ k. HasUnread C n k))

    so_if : (told : Option (Told T)) (n : ℕ) (b : Bool) → (b ≡ true → IfSome told (λ k. HasUnread C n k)) → IsSo (if b then Some n else None) told
    so_if told n true h = h refl
    so_if told n false h = tt

    module _ (o o2 : Topic T) (k : Account T) (on : Stands o k.told) where
      so_many : (told : Option (Told T)) → IfSome told (λ k. HasRead C s o k) → (n : ℕ) → n ≡ o.log.next - position (place_at s o) o.log → IfSome told (λ k. HasUnread C n k)
      so_many None h n e = tt
      so_many (Some k) h n e = (let c = h.rest.count in (h.unread, h.follow, omega (arith, c, e)))

      so_by : (t n : ℕ) → n ≡ o.log.next - position (place_at t o) o.log → IsSo (if s == t then Some n else None) k.told
      so_by t n e = so_if k.told n (s == t) (λ b. so_many k.told on.reads n (subst (λ r. n ≡ o.log.next - position (place_at r o) o.log) (sym (same_number s t b)) e))

      polled_so : (ask : PubSubAsk T) (a : Answer (PubSubHeard T)) (p : Option (PubSubAsk T)) → Polls C I cap o ask a o2 p → IsSo (unread_by_poll s (Some ask) a) k.told
      polled_so (Message t) Pending p h = elim (where_done (is_subscriber t o) o (PollsLog C I cap o (Message t) Pending o2.log × WithLog o o2) Pending o2 h.0) [
        | inl d ↦ so_by t 0 (let e = d.1.0.0 in omega (arith, e))
        | inr n ↦ absurd (let e = n.0 in cc)
      ]
      polled_so ask a p h = tt

      called_so : (call : PubSubCall T) (a : Answer (PubSubHeard T)) → Calls C I cap pubs o call a o2 → IsSo (unread_by_call s call a) k.told
      called_so (Available t) (Gives (Unread n)) h = elim (where_done (is_subscriber t o) o _ (Gives (Unread n)) o2 h) [
        | inl d ↦ so_by t n (let e = d.1.0 in cc)
        | inr r ↦ absurd (let e = r.0 in cc)
      ]
      called_so (Next t) (Gives (Tried None)) h = elim (where_done (is_subscriber t o) o (Tries C I (place_at t o) o.log (Gives (Tried None)) o2.log × WithLog o o2) (Gives (Tried None)) o2 h) [
        | inl d ↦ so_by t 0 (let e = d.1.0.1.0 in omega (arith, e))
        | inr r ↦ absurd (let e = r.0 in cc)
      ]
      called_so call a h = tt

    nothing_polled : (told : Option (Told T)) (ask : Option (PubSubAsk T)) → IsSo (unread_by_poll s ask NoSuch) told
    nothing_polled told (Some (Message t)) = tt
    nothing_polled told ask = tt

    nothing_called : (told : Option (Told T)) (call : PubSubCall T) → IsSo (unread_by_call s call NoSuch) told
    nothing_called told (Next t) = tt
    nothing_called told call = tt

    nothing_told : (k : Account T) (c : Command (PubSubAsk T) W (PubSubCall T)) → IsSo (unread_told s k c NoSuch) k.told
    nothing_told k (Start r ask) = tt
    nothing_told k (Poll r w) = nothing_polled k.told (ask_of k.asked r)
    nothing_told k (End r) = tt
    nothing_told k (Call call) = nothing_called k.told call

    -- what a plain read tells of those that are gone
    module _ (o o2 : Topic T) where
      read_exact : (q : ℕ) (answer : WaitResult T) (log2 : Log T) → Reads C q o.log (Some answer) log2 → IsExact (oldest o.log - position q o.log) answer
      read_exact q (Lagged k) log2 r = (omega (arith, r.0), r.1)
      read_exact q (Given v) log2 r = (let f = r.from in omega (arith, f))

      polled_exact : (ask : PubSubAsk T) (a : Answer (PubSubHeard T)) (p : Option (PubSubAsk T)) → Polls C I cap o ask a o2 p → IsExactPoll o (Some ask) a
      polled_exact (Message t) (Gives (Read answer)) p h = elim (where_done (is_subscriber t o) o (PollsLog C I cap o (Message t) (Gives (Read answer)) o2.log × WithLog o o2) (Gives (Read answer)) o2 h.0) [
        | inl d ↦ read_exact (place_at t o) answer o2.log d.1.0.1
        | inr n ↦ absurd (let e = n.0 in cc)
      ]
      polled_exact (Stream t) (Gives (Streamed (Some v))) p h = elim (where_done (is_subscriber t o) o (PollsLog C I cap o (Stream t) (Gives (Streamed (Some v))) o2.log × WithLog o o2) (Gives (Streamed (Some v))) o2 h.0) [
        | inl d ↦ read_exact (place_at t o) (Given v) o2.log d.1.0.1
        | inr n ↦ absurd (let e = n.0 in cc)
      ]
      polled_exact ask a p h = tt

      called_exact : (call : PubSubCall T) (a : Answer (PubSubHeard T)) → Calls C I cap pubs o call a o2 → IsExactCall o call a
      called_exact (Next t) (Gives (Tried (Some answer))) h = elim (where_done (is_subscriber t o) o (Tries C I (place_at t o) o.log (Gives (Tried (Some answer))) o2.log × WithLog o o2) (Gives (Tried (Some answer))) o2 h) [
        | inl d ↦ read_exact (place_at t o) answer o2.log d.1.0.1
        | inr n ↦ absurd (let e = n.0 in cc)
      ]
      called_exact call a h = tt

    refused_exact_poll : (o : Topic T) (ask : Option (PubSubAsk T)) → IsExactPoll o ask NoSuch
    refused_exact_poll o (Some (Message t)) = tt
    refused_exact_poll o (Some (Stream t)) = tt
    refused_exact_poll o ask = tt

    refused_exact_call : (o : Topic T) (call : PubSubCall T) → IsExactCall o call NoSuch
    refused_exact_call o (Next t) = tt
    refused_exact_call o call = tt

    refused_exact : (k : Account T) (c : Command (PubSubAsk T) W (PubSubCall T)) → TellsGone k c NoSuch
    refused_exact k (Start r ask) = tt
    refused_exact k (Poll r w) = refused_exact_poll k.topic (ask_of k.asked r)
    refused_exact k (End r) = tt
    refused_exact k (Call call) = refused_exact_call k.topic call

    told_truly : (o o2 : Topic T) (k : Account T) → On o k → (call : PubSubCall T) (a : Answer (PubSubHeard T)) → Calls C I cap pubs o call a o2 → IsSo (unread_by_call s call a) k.told × IsExactCall k.topic call a
    told_truly o o2 k on call a h = (called_so o o2 k on.stands call a h, subst (λ x. IsExactCall x call a) (sym on.same) (called_exact o o2 call a h))

    so : EachStep rules (HasLaw rules (λ c. Unit {0}) (after {W = W} cap s) (IsTold rules (λ c. Unit {0}) (after {W = W} cap s) On IsKnown) (λ k c a. TellsUnread C s k c a × TellsGone k c a))
    so = record {
      refused = λ o c k kind told. (nothing_told k c, refused_exact k c);
      starts = λ o r ask h there begins k kind told. (tt, tt);
      polls = λ o r v h a core p there polls k kind told. subst (λ x. IsSo (unread_by_poll s x a) k.told × IsExactPoll k.topic x a) (sym (told.here r h (at_of o.requests r (Some h) there))) (
        polled_so o.core core k told.core.stands h a p polls,
        subst (λ x. IsExactPoll x (Some h) a) (sym told.core.same) (polled_exact o.core core h a p polls),
      );
      ends = λ o r h core there ends k kind told. (tt, tt);
      calls = λ o call r p a core p2 reach there calls k kind told. absurd (no_number call r reach);
      alone = λ o call a core p reach calls k kind told. told_truly o.core core k told.core call a calls.0;
      leaves = λ o call a core p reach calls k kind told. told_truly o.core core k told.core call a calls.0;
    }

    -- a size that is told is that of the channel
    tells : TellsSizes rules (after {W = W} cap s) Len FreeCapacity Number cap IsHeld On IsKnown
    tells = record {
      held = λ o o2 k p p2 n calls on. (let t = calls.0.0 in let e : n ≡ length o.log.held = cc in subst (λ x. n ≡ length x.log.held) (sym on.same) e);
      free = λ o o2 k p p2 n calls on. (let t = calls.0.1 in let f = calls.0.2 in let e : n ≡ calls.0.0 = cc in (length o.log.held, ap (λ x. length x.log.held) (sym on.same), subst (λ x. x + length o.log.held ≡ cap) (sym e) f));
    }

    module _ (H : Wakings (Topic T) (PubSubAsk T) (PubSubCall T) (PubSubHeard T) W) (eq : W → W → Bool) (K : ℕ) (o o2 : Object (Topic T) (PubSubAsk T)) (g g2 : H.Registered) (cs : List (Command (PubSubAsk T) W (PubSubCall T))) (as' : List (Reply (Answer (PubSubHeard T)) W K)) (run : GoodRun (requests_meaning rules H eq K) o g cs as' o2 g2) (whole : IsWhole names o.core) where
      at_first : IsTold rules (λ c. Unit {0}) (after {W = W} cap s) On IsKnown o (known_at_first o.requests o.core)
      at_first = record {
        core = record { stands = record { whole = whole; reads = tt }; same = refl };
        here = asked_at_first o.requests;
      }

      pub in_order : ReadsInOrder C cap s o.requests o.core cs as' o2.core
      in_order =
          let each = keeps_each rules (λ c. Unit {0}) (after cap s) keeps in
          let first = known_at_first o.requests o.core in
          let told = told_requests rules (λ c. Unit {0}) (after cap s) H eq K each o o2 g g2 first cs as' (of_any_kind cs) run at_first in
          (told.core.same, in_order_now o2.core _ told.core, law_requests rules (λ c. Unit {0}) (after cap s) H eq K each in_order_before o o2 g g2 first cs as' (of_any_kind cs) run at_first)

      pub counts_are_true : CountsAreTrue C cap s o.requests o.core cs as'
      counts_are_true = law_requests rules (λ c. Unit {0}) (after cap s) H eq K (keeps_each rules (λ c. Unit {0}) (after cap s) keeps) so o o2 g g2 (known_at_first o.requests o.core) cs as' (of_any_kind cs) run at_first

      pub sizes_add_up : SizesAddUp cap s o.requests o.core cs as'
      sizes_add_up = sizes_requests rules (after cap s) Len FreeCapacity Number cap IsHeld On IsKnown tells H eq K keeps o o2 g g2 (known_at_first o.requests o.core) cs as' run at_first
