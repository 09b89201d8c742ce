-- What a pub-sub channel allows, and which wakers it hands out, for each request and each call.
use Rattle.std.specs.Prelude.{◌≡◌, ℕ, ◌+◌, ◌-◌, ◌<◌, ◌==◌, ◌&&◌, Bool, true, false, List, length, Option, Some, None, is_some, Result, Ok, Err, slice_set}
use Rattle.esync_base.specs.Registration.{IsAmong}
use Rattle.esync_base.specs.declared.waitqueue.Poll.{Poll}
use Rattle.esync_base.specs.declared.waitqueue.Poll.TheVariants.{Pending as NotYet, Ready}
use Rattle.esync_machine.specs.declared.primitive.Answer.{Answer}
use Rattle.esync_machine.specs.declared.primitive.Answer.TheVariants.{Done, Pending, NoMemory, Gives}
use Rattle.esync_machine.specs.declared.primitive.Reach.{Reach}
use Rattle.esync_machine.specs.declared.primitive.Reach.TheVariants.{Nobody, Leavers}
use Rattle.esync_machine.specs.Numbers.{at_number}
use Rattle.esync_machine.specs.Names.{is_free, used, Where}
use Rattle.esync_machine.specs.Rules.{Rules, Alone}
use Rattle.esync_machine.specs.Wakings.{Wakings, Handed, nothing}
use Rattle.esync_pubsub.specs.Events.{Tables}
use Rattle.esync_log.specs.Log.{Log, oldest, has_subscribers, position, number_of, moved, settled, left, cleared, lags, caught, found, Publishes, PublishesAtOnce, Reads, ReadsOn, Streams, IsRefused}
use Rattle.esync_pubsub.specs.PubSub.{PubSub, Lists, Subscribes, frees, tried, lists_after_room, wakes_of_room, lists_after_publish, wakes_of_publish, lists_after_immediate, wakes_of_immediate, lists_after_read, wakes_of_read, lists_after_stream, wakes_of_stream}
use Rattle.esync_pubsub.specs.declared.pubsub.Error.TheVariants.{MaximumPublishersReached}
use Rattle.esync_log.specs.declared.log.TryPublishError.{TryPublishError}
use Rattle.esync_log.specs.declared.log.Exhausted.{Exhausted as NoNumber}
use Rattle.esync_log.specs.declared.log.WaitResult.{WaitResult}
use Rattle.esync_log.specs.declared.log.WaitResult.TheVariants.{Lagged, Message as Given}
use Rattle.esync_pubsub.specs.declared.pubsub.machine.PubSubAsk.{PubSubAsk}
use Rattle.esync_pubsub.specs.declared.pubsub.machine.PubSubAsk.TheVariants.{Publish, Message, MessagePure, Stream}
use Rattle.esync_pubsub.specs.declared.pubsub.machine.PubSubCall.{PubSubCall}
use Rattle.esync_pubsub.specs.declared.pubsub.machine.PubSubCall.TheVariants.{Join, Leave, Publisher, Retire, TryPublish, Immediate, Next, NextPure, Available, Clear, Len, FreeCapacity}
use Rattle.esync_pubsub.specs.declared.pubsub.machine.PubSubHeard.{PubSubHeard}
use Rattle.esync_pubsub.specs.declared.pubsub.machine.PubSubHeard.TheVariants.{Published, Read, ReadPure, Streamed, Came, TriedPublish, PublishedAtOnce, Tried, TriedPure, Unread, Number}

-- the object: the log, the place of each numbered subscriber, and the numbers of the publishers
pub record Topic (T : Type 0) : Type 0 where
  pub log : Log T
  pub subscribers : List (Option ℕ)
  pub publishers : List (Option (Unit {0}))

abbrev pub topic_of : {T W : Type 0} → PubSub T W → Tables → Topic T
topic_of s t = record { log = s.log; subscribers = t.subscribers; publishers = t.publishers }

-- which numbers a call concerns
abbrev pub reach : {T : Type 0} → PubSubCall T → Reach
reach (Leave s) = Leavers
reach (Retire p) = Leavers
reach _ = Nobody

module _ {T : Type 0} where
  -- the place of the subscriber that the number names
  abbrev pub place_at : ℕ → Topic T → ℕ
  place_at s o = number_of (at_number o.subscribers s)

  abbrev pub is_subscriber : ℕ → Topic T → Bool
  is_subscriber s o = is_some (at_number o.subscribers s)

  abbrev pub is_publisher : ℕ → Topic T → Bool
  is_publisher p o = is_some (at_number o.publishers p)

  -- the request's subscriber or publisher is here
  abbrev pub names_it : PubSubAsk T → Topic T → Bool
  names_it (Publish p message) o = is_publisher p o
  names_it (Message s) o = is_subscriber s o
  names_it (MessagePure s) o = is_subscriber s o
  names_it (Stream s) o = is_subscriber s o

  -- the request belongs to the subscriber
  abbrev pub is_of_subscriber : ℕ → PubSubAsk T → Bool
  is_of_subscriber s (Publish p message) = false
  is_of_subscriber s (Message t) = s == t
  is_of_subscriber s (MessagePure t) = s == t
  is_of_subscriber s (Stream t) = s == t

  -- the request belongs to the publisher
  abbrev pub is_of_publisher : ℕ → PubSubAsk T → Bool
  is_of_publisher p (Publish q message) = p == q
  is_of_publisher p _ = false

  -- a subscriber that leaves, or a publisher that retires, ends its requests
  abbrev pub leaves : Topic T → PubSubCall T → PubSubAsk T → Bool
  leaves o (Leave s) ask = is_subscriber s o && is_of_subscriber s ask
  leaves o (Retire p) ask = is_publisher p o && is_of_publisher p ask
  leaves o _ ask = false

  -- only the log changes
  abbrev pub WithLog : Topic T → Topic T → Type 0
  WithLog o o2 = o2 ≡ record o { log = o2.log }

  -- a start is refused unless its subscriber or publisher is here
  abbrev pub Begins : Bool → PubSubAsk T → Option (PubSubAsk T) → Type 0
  Begins true ask p = p ≡ Some ask
  Begins false ask p = p ≡ None

  -- a request is over once it hears something
  abbrev pub rest_of : PubSubAsk T → Answer (PubSubHeard T) → Option (PubSubAsk T)
  rest_of ask (Gives heard) = None
  rest_of ask _ = Some ask

  -- the log after a read with this answer
  abbrev pub read_log : ℕ → Log T → Option (WaitResult T) → Log T
  read_log place log None = log
  read_log place log (Some (Lagged k)) = moved place (oldest log) log
  read_log place log (Some (Given v)) = settled (moved place (position place log + 1) log)

  -- a message that was read has a number below the next
  abbrev pub IsBelow : {A : Type 0} → Option A → ℕ → Log T → Type 0
  IsBelow None n log = Unit {0}
  IsBelow (Some answer) n log = n < log.next

  -- an answer as the result of a publish, a read, a pure read or a poll of a stream
  abbrev pub publish_of : T → Answer (PubSubHeard T) → Result (Unit {0}) (TryPublishError T)
  publish_of message (Gives (Published result)) = tried message (Ready result)
  publish_of message (Gives (TriedPublish result)) = result
  publish_of message _ = tried message NotYet

  abbrev pub immediate_of : T → Answer (PubSubHeard T) → Result (Unit {0}) (NoNumber T)
  immediate_of message (Gives (PublishedAtOnce result)) = result
  immediate_of message _ = Err (record { 0 = message })

  abbrev pub read_of : Answer (PubSubHeard T) → Option (WaitResult T)
  read_of (Gives (Read answer)) = Some answer
  read_of (Gives (Tried answer)) = answer
  read_of _ = None

  abbrev pub pure_of : Answer (PubSubHeard T) → Option T
  pure_of (Gives (ReadPure answer)) = Some answer
  pure_of (Gives (TriedPure answer)) = answer
  pure_of _ = None

  abbrev pub stream_of : Answer (PubSubHeard T) → Poll (Option T)
  stream_of (Gives (Streamed answer)) = Ready answer
  stream_of _ = NotYet

  -- a subscriber comes under the number, unless all places are taken
  abbrev pub Comes : ℕ → Topic T → Answer (PubSubHeard T) → Topic T → Type 0
  Comes s o (Gives (Came (Ok done))) o2 =
      (place : ℕ) × Subscribes o.log (Ok place) o2.log × (o2 ≡ record { log = o2.log; subscribers = slice_set o.subscribers s (Some place); publishers = o.publishers })
  Comes s o (Gives (Came (Err e))) o2 = Subscribes o.log (Err e) o2.log × WithLog o o2
  Comes s o _ o2 = ⊥

  -- one more publisher is counted, under the number, unless the greatest number is
  abbrev pub Counts : ℕ → ℕ → Topic T → Answer (PubSubHeard T) → Topic T → Type 0
  Counts pubs p o (Gives (Came (Ok done))) o2 = (used o.publishers < pubs) × (o2 ≡ record o { publishers = slice_set o.publishers p (Some tt) })
  Counts pubs p o (Gives (Came (Err MaximumPublishersReached))) o2 = (used o.publishers ≡ pubs) × (o2 ≡ o)
  Counts pubs p o _ o2 = ⊥

  -- the channel after the subscriber left, whose number is then free
  abbrev pub departed : ℕ → Topic T → Topic T
  departed s o = record { log = left (place_at s o) o.log; subscribers = slice_set o.subscribers s None; publishers = o.publishers }

module _ {T : Type 0} (cap : ℕ) where
  -- a poll of a publish, which is Pending while there is no room
  abbrev pub PollsPublish : T → Log T → Answer (PubSubHeard T) → Log T → Type 0
  PollsPublish message log Pending log2 = Publishes cap message log (tried message NotYet) log2
  PollsPublish message log (Gives (Published result)) log2 = Publishes cap message log (tried message (Ready result)) log2
  PollsPublish message log _ log2 = ⊥

  abbrev pub TriesPublish : T → Log T → Answer (PubSubHeard T) → Log T → Type 0
  TriesPublish message log (Gives (TriedPublish result)) log2 = Publishes cap message log result log2
  TriesPublish message log _ log2 = ⊥

  abbrev pub AtOnce : T → Log T → Answer (PubSubHeard T) → Log T → Type 0
  AtOnce message log (Gives (PublishedAtOnce result)) log2 = PublishesAtOnce cap message log result log2
  AtOnce message log _ log2 = ⊥

module _ {T : Type 0} (IsClone : T → T → Type 0) (IsInfallible : T → Type 0) where
  -- the clone of the message with the number n is refused, and nothing changes
  abbrev pub Refuses : ℕ → ℕ → Log T → Log T → Type 0
  Refuses place n log log2 = (n < log.next) × IsRefused IsInfallible place n log × (log2 ≡ log)

  -- a poll for a message: Pending once the subscriber has read all
  abbrev pub PollsMessage : ℕ → Log T → Answer (PubSubHeard T) → Log T → Type 0
  PollsMessage place log Pending log2 = Reads IsClone place log None log2
  PollsMessage place log (Gives (Read answer)) log2 = IsBelow (Some answer) (position place log) log × Reads IsClone place log (Some answer) log2
  PollsMessage place log NoMemory log2 = Refuses place (position place log) log log2
  PollsMessage place log _ log2 = ⊥

  -- a poll for a message that passes over a lag: Pending once the subscriber has read all that is held
  abbrev pub PollsPure : ℕ → Log T → Answer (PubSubHeard T) → Log T → Type 0
  PollsPure place log Pending log2 = ReadsOn IsClone place log None log2
  PollsPure place log (Gives (ReadPure given)) log2 = IsBelow (Some given) (position place (caught place log)) log × ReadsOn IsClone place log (Some given) log2
  PollsPure place log NoMemory log2 = Refuses place (position place (caught place log)) log log2
  PollsPure place log _ log2 = ⊥

  -- a poll of a stream: Pending once the subscriber has read all, and at a lag
  abbrev pub PollsStream : ℕ → Log T → Answer (PubSubHeard T) → Log T → Type 0
  PollsStream place log Pending log2 = Streams IsClone place log NotYet log2
  PollsStream place log (Gives (Streamed answer)) log2 = IsBelow answer (position place log) log × Streams IsClone place log (Ready answer) log2
  PollsStream place log NoMemory log2 = Refuses place (position place log) log log2
  PollsStream place log _ log2 = ⊥

  -- a read that doesn't wait
  abbrev pub Tries : ℕ → Log T → Answer (PubSubHeard T) → Log T → Type 0
  Tries place log (Gives (Tried answer)) log2 = IsBelow answer (position place log) log × Reads IsClone place log answer log2
  Tries place log NoMemory log2 = Refuses place (position place log) log log2
  Tries place log _ log2 = ⊥

  abbrev pub TriesPure : ℕ → Log T → Answer (PubSubHeard T) → Log T → Type 0
  TriesPure place log (Gives (TriedPure answer)) log2 = IsBelow answer (position place (caught place log)) log × ReadsOn IsClone place log answer log2
  TriesPure place log NoMemory log2 = Refuses place (position place (caught place log)) log log2
  TriesPure place log _ log2 = ⊥

  module _ (cap : ℕ) where
    -- what a poll of a request does to the log
    abbrev pub PollsLog : Topic T → PubSubAsk T → Answer (PubSubHeard T) → Log T → Type 0
    PollsLog o (Publish p message) a log2 = PollsPublish cap message o.log a log2
    PollsLog o (Message s) a log2 = PollsMessage (place_at s o) o.log a log2
    PollsLog o (MessagePure s) a log2 = PollsPure (place_at s o) o.log a log2
    PollsLog o (Stream s) a log2 = PollsStream (place_at s o) o.log a log2

    abbrev pub Polls : Topic T → PubSubAsk T → Answer (PubSubHeard T) → Topic T → Option (PubSubAsk T) → Type 0
    Polls o ask a o2 p = Where (names_it ask o) o (PollsLog o ask a o2.log × WithLog o o2) a o2 × (p ≡ rest_of ask a)

  abbrev pub Calls : ℕ → ℕ → Topic T → PubSubCall T → Answer (PubSubHeard T) → Topic T → Type 0
  Calls cap pubs o (Join s) a o2 = Where (is_free s o.subscribers) o (Comes s o a o2) a o2
  Calls cap pubs o (Leave s) a o2 = Where (is_subscriber s o) o ((a ≡ Done) × (o2 ≡ departed s o)) a o2
  Calls cap pubs o (Publisher p) a o2 = Where (is_free p o.publishers) o (Counts pubs p o a o2) a o2
  Calls cap pubs o (Retire p) a o2 = Where (is_publisher p o) o ((a ≡ Done) × (o2 ≡ record o { publishers = slice_set o.publishers p None })) a o2
  Calls cap pubs o (TryPublish p message) a o2 = Where (is_publisher p o) o (TriesPublish cap message o.log a o2.log × WithLog o o2) a o2
  Calls cap pubs o (Immediate message) a o2 = AtOnce cap message o.log a o2.log × WithLog o o2
  Calls cap pubs o (Next s) a o2 = Where (is_subscriber s o) o (Tries (place_at s o) o.log a o2.log × WithLog o o2) a o2
  Calls cap pubs o (NextPure s) a o2 = Where (is_subscriber s o) o (TriesPure (place_at s o) o.log a o2.log × WithLog o o2) a o2
  Calls cap pubs o (Available s) a o2 = Where (is_subscriber s o) o ((a ≡ Gives (Unread (o.log.next - position (place_at s o) o.log))) × (o2 ≡ o)) a o2
  Calls cap pubs o Clear a o2 = (a ≡ Done) × (o2 ≡ record o { log = cleared o.log })
  Calls cap pubs o Len a o2 = (a ≡ Gives (Number (length o.log.held))) × (o2 ≡ o)
  Calls cap pubs o FreeCapacity a o2 = (free : ℕ) × (a ≡ Gives (Number free)) × (free + length o.log.held ≡ cap) × (o2 ≡ o)

  -- the rules of a channel of at most cap messages and pubs publishers
  abbrev pub pubsub_rules : ℕ → ℕ → Rules (PubSubAsk T) (PubSubAsk T) (PubSubCall T) (PubSubHeard T)
  pubsub_rules cap pubs = record {
    Core = Topic T;
    begins = λ o ask p. Begins (names_it ask o) ask p;
    polls = Polls cap;
    ends = λ o ask o2. o2 ≡ o;
    reach = reach;
    calls = Alone (Calls cap pubs);
    leaves = leaves;
    IsRequest = λ ask. Unit {0};
    WakesItself = ⊥;
  }

-- a message that leaves hands out the publishers' list
abbrev pub room_hands : {W : Type 0} → Bool → Lists W → Handed (Lists W) W
room_hands freed l = record { wakes = wakes_of_room freed l; after = lists_after_room freed l }

-- the wakes of a channel whose lists hold at most subs and pubs wakers
module _ {T W : Type 0} (eq : W → W → Bool) (subs pubs : ℕ) where
  -- the wakers that a publish hands out, with a waker of its own or without
  abbrev pub publish_hands : Log T → Option W → Result (Unit {0}) (TryPublishError T) → Lists W → Handed (Lists W) W
  publish_hands log w result l = record { wakes = wakes_of_publish eq pubs w (has_subscribers log) result l; after = lists_after_publish eq pubs w (has_subscribers log) result l }

  abbrev pub immediate_hands : Log T → Result (Unit {0}) (NoNumber T) → Lists W → Handed (Lists W) W
  immediate_hands log result l = record { wakes = wakes_of_immediate (has_subscribers log) result l; after = lists_after_immediate (has_subscribers log) result l }

  -- the wakers that a read hands out
  abbrev pub read_hands : ℕ → Log T → Option W → Option (WaitResult T) → Lists W → Handed (Lists W) W
  read_hands place log w answer l = record {
    wakes = wakes_of_read eq subs w answer (frees log (read_log place log answer)) l;
    after = lists_after_read eq subs w answer (frees log (read_log place log answer)) l;
  }

  abbrev pub pure_hands : ℕ → Log T → Option W → Option T → Lists W → Handed (Lists W) W
  pure_hands place log w answer l = record {
    wakes = wakes_of_read eq subs w answer (frees log (read_log place (caught place log) (found answer))) l;
    after = lists_after_read eq subs w answer (frees log (read_log place (caught place log) (found answer))) l;
  }

  abbrev pub stream_hands : ℕ → Log T → W → Poll (Option T) → Lists W → Handed (Lists W) W
  stream_hands place log w answer l = record {
    wakes = wakes_of_stream eq subs w (lags place log) answer (frees log (settled (moved place (position place log + 1) log))) l;
    after = lists_after_stream eq subs w (lags place log) answer (frees log (settled (moved place (position place log + 1) log))) l;
  }

  abbrev pub poll_hands : Topic T → Lists W → PubSubAsk T → W → Answer (PubSubHeard T) → Handed (Lists W) W
  poll_hands o l (Publish p message) w a = publish_hands o.log (Some w) (publish_of message a) l
  poll_hands o l (Message s) w a = read_hands (place_at s o) o.log (Some w) (read_of a) l
  poll_hands o l (MessagePure s) w a = pure_hands (place_at s o) o.log (Some w) (pure_of a) l
  poll_hands o l (Stream s) w a = stream_hands (place_at s o) o.log w (stream_of a) l

  -- a call registers no waker, and a clear hands out the publishers' list
  abbrev pub call_hands : Topic T → Lists W → PubSubCall T → Answer (PubSubHeard T) → Handed (Lists W) W
  call_hands o l (Leave s) a = room_hands (frees o.log (left (place_at s o) o.log)) l
  call_hands o l (TryPublish p message) a = publish_hands o.log None (publish_of message a) l
  call_hands o l (Immediate message) a = immediate_hands o.log (immediate_of message a) l
  call_hands o l (Next s) a = read_hands (place_at s o) o.log None (read_of a) l
  call_hands o l (NextPure s) a = pure_hands (place_at s o) o.log None (pure_of a) l
  call_hands o l Clear a = room_hands true l
  call_hands o l _ a = nothing l

  abbrev pub pubsub_wakings : Wakings (Topic T) (PubSubAsk T) (PubSubCall T) (PubSubHeard T) W
  pubsub_wakings = record {
    Registered = Lists W;
    polls = λ o l ask w a p. poll_hands o l ask w a;
    ends = λ o l ask. nothing l;
    calls = λ o l call p a. call_hands o l call a;
  }

-- a subscriber that has read all that was published is owed the waker in the subscribers' list
abbrev pub OwesNews : {T W : Type 0} → (W → W → Bool) → ℕ → Log T → Lists W → W → Type 0
OwesNews eq place log l w = (position place log ≡ log.next) × IsAmong eq w l.subscribers

-- a publisher is owed its waker in the publishers' list while the log is full
module _ {T W : Type 0} (eq : W → W → Bool) (cap : ℕ) where
  abbrev pub OwesRoom : Log T → Lists W → W → Type 0
  OwesRoom log l w = (has_subscribers log ≡ true) × (length log.held ≡ cap) × IsAmong eq w l.publishers

  abbrev pub OwesFor : Topic T → Lists W → PubSubAsk T → W → Type 0
  OwesFor o l (Publish p message) w = OwesRoom o.log l w
  OwesFor o l (Message s) w = OwesNews eq (place_at s o) o.log l w
  OwesFor o l (MessagePure s) w = OwesNews eq (place_at s o) o.log l w
  OwesFor o l (Stream s) w = OwesNews eq (place_at s o) o.log l w
