-- A subscriber reads the messages published since it came, in order, except those that left before it read them. This
-- follows from the channel and its requests at first, and from the commands and their answers.
use Rattle.std.specs.Prelude.{◌≡◌, ℕ, ◌+◌, ◌-◌, ◌<◌, ◌≤◌, ◌==◌, ◌⊎◌, true, List, [], ◌∷◌, ◌++◌, length, drop, Option, Some, None, IfSome, Ok, if◌then◌else◌}
use Rattle.esync_machine.specs.Account.{account, AtEach, ask_of, asked_from, asked_after}
use Rattle.esync_machine.specs.declared.run.Reply.{Reply}
use Rattle.esync_machine.specs.declared.primitive.Answer.{Answer}
use Rattle.esync_machine.specs.declared.primitive.Answer.TheVariants.{Done, Pending, Gives}
use Rattle.esync_machine.specs.declared.primitive.Command.{Command}
use Rattle.esync_machine.specs.declared.primitive.Command.TheVariants.{Start, Poll, End, Call}
use Rattle.esync_log.specs.Log.{Log, oldest, position}
use Rattle.esync_pubsub.specs.Advance.{gone, topic_after}
use Rattle.esync_pubsub.specs.Events.{Eventing}
use Rattle.esync_pubsub.specs.PubSub.{PubSub}
use Rattle.esync_pubsub.specs.PubSubRules.{Topic, topic_of, place_at, is_subscriber, is_of_subscriber}
use Rattle.esync_log.specs.declared.log.WaitResult.{WaitResult}
use Rattle.esync_log.specs.declared.log.WaitResult.TheVariants.{Lagged, Message as Given}
use Rattle.esync_pubsub.specs.declared.pubsub.machine.PubSubAsk.{PubSubAsk}
use Rattle.esync_pubsub.specs.declared.pubsub.machine.PubSubAsk.TheVariants.{Publish, Message, MessagePure, Stream}
use Rattle.esync_pubsub.specs.declared.pubsub.machine.PubSubCall.{PubSubCall}
use Rattle.esync_pubsub.specs.declared.pubsub.machine.PubSubCall.TheVariants.{Join, Leave, TryPublish, Immediate, Next, NextPure, Available}
use Rattle.esync_pubsub.specs.declared.pubsub.machine.PubSubHeard.{PubSubHeard}
use Rattle.esync_pubsub.specs.declared.pubsub.machine.PubSubHeard.TheVariants.{Published, Read, ReadPure, Streamed, Came, TriedPublish, PublishedAtOnce, Tried, TriedPure, Unread}

-- what a read tells a subscriber: how many messages it passed over, and which one it was given behind them
pub record Reading (T : Type 0) : Type 0 where
  pub skipped : ℕ
  pub given : Option T

-- what is known of a subscriber since it came
pub record Told (T : Type 0) : Type 0 where
  -- the messages that were published, in order
  pub published : List T
  -- what the subscriber was told, in order
  pub readings : List (Reading T)

-- what one subscriber's account knows: from the channel and its requests at first, and from the commands and answers
pub record Account (T : Type 0) : Type 0 where
  -- what each request asks
  pub asked : List (ℕ × PubSubAsk T)
  -- the channel, as the answers tell it
  pub topic : Topic T
  -- None if the subscriber didn't come, or left
  pub told : Option (Told T)

-- the channel of a machine
abbrev pub topic_in : {T W : Type 0} → Eventing (PubSub T W) → Topic T
topic_in e = topic_of e.state e.tables

-- the list with the optional item behind it
abbrev pub and : {A : Type 0} → List A → Option A → List A
and xs None = xs
and xs (Some x) = xs ++ x ∷ []

module _ {T : Type 0} where
  -- the message that a poll of a request published
  abbrev pub published_by_poll : Option (PubSubAsk T) → Answer (PubSubHeard T) → Option T
  published_by_poll (Some (Publish p message)) (Gives (Published (Ok done))) = Some message
  published_by_poll _ _ = None

  -- the message that a call published
  abbrev pub published_by_call : PubSubCall T → Answer (PubSubHeard T) → Option T
  published_by_call (TryPublish p message) (Gives (TriedPublish (Ok done))) = Some message
  published_by_call (Immediate message) (Gives (PublishedAtOnce (Ok done))) = Some message
  published_by_call _ _ = None

  -- the message that a plain read gives: none if it tells of a lag
  abbrev pub given_by : WaitResult T → Option T
  given_by (Lagged k) = None
  given_by (Given message) = Some message

  -- a read passes over the n messages that are gone, whatever it answers
  abbrev pub reading_of : ℕ → Option T → Reading T
  reading_of n given = record { skipped = n; given = given }

  -- what a poll of a request tells its subscriber, for whom n messages are gone: a stream that is Pending has passed over them
  abbrev pub heard_by_poll : ℕ → PubSubAsk T → Answer (PubSubHeard T) → Option (Reading T)
  heard_by_poll n (Message t) (Gives (Read answer)) = Some (reading_of n (given_by answer))
  heard_by_poll n (MessagePure t) (Gives (ReadPure message)) = Some (reading_of n (Some message))
  heard_by_poll n (MessagePure t) Pending = Some (reading_of n None)
  heard_by_poll n (Stream t) (Gives (Streamed (Some message))) = Some (reading_of n (Some message))
  heard_by_poll n (Stream t) Pending = Some (reading_of n None)
  heard_by_poll n _ _ = None

  -- what a subscriber knows, with one more published message and one more reading
  abbrev pub more : Option T → Option (Reading T) → Option (Told T) → Option (Told T)
  more message reading None = None
  more message reading (Some k) = Some (record { published = and k.published message; readings = and k.readings reading })

  -- what a poll or a call tells the subscriber with the number s, for whom n messages are gone
  module _ (s n : ℕ) where
    abbrev pub read_by_poll : Option (PubSubAsk T) → Answer (PubSubHeard T) → Option (Reading T)
    read_by_poll None a = None
    read_by_poll (Some ask) a = if is_of_subscriber s ask then heard_by_poll n ask a else None

    abbrev pub read_by_call : PubSubCall T → Answer (PubSubHeard T) → Option (Reading T)
    read_by_call (Next t) (Gives (Tried (Some answer))) = if s == t then Some (reading_of n (given_by answer)) else None
    read_by_call (NextPure t) (Gives (TriedPure given)) = if s == t then Some (reading_of n given) else None
    read_by_call _ _ = None

    -- a subscriber that comes has read nothing, and one that leaves is known no more
    abbrev pub told_by_call : Option (Told T) → PubSubCall T → Answer (PubSubHeard T) → Option (Told T)
    told_by_call told (Join t) (Gives (Came (Ok done))) = if s == t then Some (record { published = []; readings = [] }) else told
    told_by_call told (Leave t) Done = if s == t then None else told
    told_by_call told call a = more (published_by_call call a) (read_by_call call a) told

    abbrev pub told_after : {W : Type 0} → Account T → Command (PubSubAsk T) W (PubSubCall T) → Answer (PubSubHeard T) → Option (Told T)
    told_after k (Start r ask) a = k.told
    told_after k (Poll r w) a = more (published_by_poll (ask_of k.asked r) a) (read_by_poll (ask_of k.asked r) a) k.told
    told_after k (End r) a = k.told
    told_after k (Call call) a = told_by_call k.told call a

  -- what is known after a command, of a channel of at most cap messages
  abbrev pub after : {W : Type 0} → ℕ → ℕ → Account T → Command (PubSubAsk T) W (PubSubCall T) → Answer (PubSubHeard T) → Account T
  after cap s k c a = record { asked = asked_after k.asked c a; topic = topic_after cap k.asked k.topic c a; told = told_after s (gone s k.topic) k c a }

  -- what is known at first of a channel with these requests, whoever came to it before
  abbrev pub known_at_first : List (Option (PubSubAsk T)) → Topic T → Account T
  known_at_first requests o = record { asked = asked_from 0 requests; topic = o; told = None }

  -- the messages behind the one that was given, or all of them if none was
  abbrev pub behind : Option T → List T → List T
  behind None messages = messages
  behind (Some message) messages = drop 1 messages

  -- the messages from the subscriber's position on: their count reaches the next number, and those still held end them
  pub record AreUnread (place : ℕ) (log : Log T) (unread : List T) : Type 0 where
    pub count : position place log + length unread ≡ log.next
    pub held : drop (position place log - oldest log) log.held ≡ drop (oldest log - position place log) unread

  -- the number of messages that, by an answer, the subscriber with the number s has not read: 0 if a read finds none
  module _ (s : ℕ) where
    abbrev pub unread_by_poll : Option (PubSubAsk T) → Answer (PubSubHeard T) → Option ℕ
    unread_by_poll (Some (Message t)) Pending = if s == t then Some 0 else None
    unread_by_poll _ _ = None

    abbrev pub unread_by_call : PubSubCall T → Answer (PubSubHeard T) → Option ℕ
    unread_by_call (Available t) (Gives (Unread n)) = if s == t then Some n else None
    unread_by_call (Next t) (Gives (Tried None)) = if s == t then Some 0 else None
    unread_by_call _ _ = None

    abbrev pub unread_told : {W : Type 0} → Account T → Command (PubSubAsk T) W (PubSubCall T) → Answer (PubSubHeard T) → Option ℕ
    unread_told k (Start r ask) a = None
    unread_told k (Poll r w) a = unread_by_poll (ask_of k.asked r) a
    unread_told k (End r) a = None
    unread_told k (Call call) a = unread_by_call call a

  -- a plain read with n messages gone: it tells of a lag of exactly n if n isn't 0, and else gives a message
  abbrev pub IsExact : ℕ → WaitResult T → Type 0
  IsExact n (Lagged k) = (0 < n) × (k ≡ n)
  IsExact n (Given message) = n ≡ 0

  -- a poll tells exactly how many messages are gone: a stream gives one only if none is, and a pure read doesn't tell
  abbrev pub IsExactPoll : Topic T → Option (PubSubAsk T) → Answer (PubSubHeard T) → Type 0
  IsExactPoll o (Some (Message t)) (Gives (Read answer)) = IsExact (gone t o) answer
  IsExactPoll o (Some (Stream t)) (Gives (Streamed (Some message))) = IsExact (gone t o) (Given message)
  IsExactPoll o _ _ = Unit {0}

  -- a call tells the subscriber that it names exactly how many messages are gone
  abbrev pub IsExactCall : Topic T → PubSubCall T → Answer (PubSubHeard T) → Type 0
  IsExactCall o (Next t) (Gives (Tried (Some answer))) = IsExact (gone t o) answer
  IsExactCall o _ _ = Unit {0}

  -- each answer tells exactly how many messages are gone, of the channel that the answers before it tell
  abbrev pub TellsGone : {W : Type 0} → Account T → Command (PubSubAsk T) W (PubSubCall T) → Answer (PubSubHeard T) → Type 0
  TellsGone k (Start r ask) a = Unit {0}
  TellsGone k (Poll r w) a = IsExactPoll k.topic (ask_of k.asked r) a
  TellsGone k (End r) a = Unit {0}
  TellsGone k (Call call) a = IsExactCall k.topic call a

  module _ (IsClone : T → T → Type 0) where
    -- a read gives the front message itself, or a clone of it
    abbrev pub IsGiven : Option T → List T → Type 0
    IsGiven None messages = Unit {0}
    IsGiven (Some given) [] = ⊥
    IsGiven (Some given) (message ∷ messages) = (given ≡ message) ⊎ IsClone message given

    -- the readings tell of the first published messages, in order, and the rest is unread
    abbrev pub Follow : List T → List (Reading T) → List T → Type 0
    Follow published [] unread = unread ≡ published
    Follow published (x ∷ readings) unread =
        (x.skipped ≤ length published) × IsGiven x.given (drop x.skipped published) × Follow (behind x.given (drop x.skipped published)) readings unread

    -- the subscriber is here, and has read up to its position
    pub record HasRead (s : ℕ) (o : Topic T) (k : Told T) : Type 0 where
      pub here : is_subscriber s o ≡ true
      -- the messages that the subscriber has neither read nor passed over
      pub unread : List T
      pub follow : Follow k.published k.readings unread
      pub rest : AreUnread (place_at s o) o.log unread

    -- while the subscriber is here, the messages that it was given or passed over since it came, each itself or a
    -- clone, are in order the messages published since then, up to its position
    abbrev pub IsInOrder : ℕ → Account T → Type 0
    IsInOrder s k = IfSome k.told (λ t. HasRead s k.topic t)

    -- a run over a channel o, to o2: the answers tell o2, and the subscriber with the number s has read in order at the
    -- end and before each command, so also before the one by which it leaves
    abbrev pub ReadsInOrder : {W : Type 0} {K : ℕ} → ℕ → ℕ → List (Option (PubSubAsk T)) → Topic T → List (Command (PubSubAsk T) W (PubSubCall T)) → List (Reply (Answer (PubSubHeard T)) W K) → Topic T → Type 0
    ReadsInOrder cap s requests o commands replies o2 =
        let first = known_at_first requests o in
        let last = account (λ k c a. after cap s k c a.answer) first commands replies in
        (last.topic ≡ o2) × IsInOrder s last × AtEach (λ k c a. after cap s k c a.answer) (λ k c a. IsInOrder s k) first commands replies

    -- the subscriber has n unread messages
    abbrev pub HasUnread : ℕ → Told T → Type 0
    HasUnread n k = (unread : List T) × Follow k.published k.readings unread × (length unread ≡ n)

    -- if an answer tells the subscriber a number of unread messages, that number is right
    abbrev pub TellsUnread : {W : Type 0} → ℕ → Account T → Command (PubSubAsk T) W (PubSubCall T) → Answer (PubSubHeard T) → Type 0
    TellsUnread s k c a = IfSome (unread_told s k c a) (λ n. IfSome k.told (HasUnread n))

    -- a run over a channel o: each answer tells truly how many messages are unread, and how many are gone
    abbrev pub CountsAreTrue : {W : Type 0} {K : ℕ} → ℕ → ℕ → List (Option (PubSubAsk T)) → Topic T → List (Command (PubSubAsk T) W (PubSubCall T)) → List (Reply (Answer (PubSubHeard T)) W K) → Type 0
    CountsAreTrue cap s requests o commands replies =
        AtEach (λ k c a. after cap s k c a.answer) (λ k c a. TellsUnread s k c a.answer × TellsGone k c a.answer) (known_at_first requests o) commands replies
