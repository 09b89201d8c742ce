-- A pub-sub channel as its answers tell it: the account knows what each request asks, and an answer tells its outcome.
use Rattle.std.specs.Prelude.{ℕ, suc, ◌-◌, List, [], ◌∷◌, Option, Some, None, Ok, slice_set, if◌then◌else◌}
use Rattle.esync_machine.specs.Account.{ask_of}
use Rattle.esync_machine.specs.declared.primitive.Answer.{Answer}
use Rattle.esync_machine.specs.declared.primitive.Answer.TheVariants.{Done, Pending, Gives}
use Rattle.esync_machine.specs.declared.primitive.Command.{Command}
use Rattle.esync_machine.specs.declared.primitive.Command.TheVariants.{Start, Poll, End, Call}
use Rattle.esync_log.specs.Log.{Log, oldest, has_subscribers, position, published, with_room, moved, cleared, caught, found}
use Rattle.esync_pubsub.specs.PubSubRules.{Topic, place_at, departed, read_log}
use Rattle.esync_log.specs.declared.log.WaitResult.TheVariants.{Message as Given}
use Rattle.esync_pubsub.specs.declared.pubsub.machine.PubSubAsk.{PubSubAsk}
use Rattle.esync_pubsub.specs.declared.pubsub.machine.PubSubAsk.TheVariants.{Publish, Message, MessagePure, Stream}
use Rattle.esync_pubsub.specs.declared.pubsub.machine.PubSubCall.{PubSubCall}
use Rattle.esync_pubsub.specs.declared.pubsub.machine.PubSubCall.TheVariants.{Join, Leave, Publisher, Retire, TryPublish, Immediate, Next, NextPure, Clear}
use Rattle.esync_pubsub.specs.declared.pubsub.machine.PubSubHeard.{PubSubHeard}
use Rattle.esync_pubsub.specs.declared.pubsub.machine.PubSubHeard.TheVariants.{Published, Read, ReadPure, Streamed, Came, TriedPublish, PublishedAtOnce, Tried, TriedPure}

-- the least place where no subscriber stands
abbrev pub least_free : List (Option ℕ) → ℕ
least_free [] = 0
least_free (None ∷ ps) = 0
least_free (Some p ∷ ps) = suc (least_free ps)

module _ {T : Type 0} where
  -- how many messages left before the subscriber with the number s read them
  abbrev pub gone : ℕ → Topic T → ℕ
  gone s o = oldest o.log - position (place_at s o) o.log

  -- the log after an accepted message, for which room was made; without subscribers the message is dropped
  abbrev pub accepted : T → Log T → Log T → Log T
  accepted message log room = if has_subscribers log then published message room else log

  -- the log after a pure read that gives this message, or finds none
  abbrev pub read_on_log : ℕ → Log T → Option T → Log T
  read_on_log place log given = read_log place (caught place log) (found given)

  -- the log after a poll of a request
  abbrev pub log_after_poll : Topic T → PubSubAsk T → Answer (PubSubHeard T) → Log T
  log_after_poll o (Publish p message) (Gives (Published (Ok done))) = accepted message o.log o.log
  log_after_poll o (Message s) (Gives (Read answer)) = read_log (place_at s o) o.log (Some answer)
  log_after_poll o (MessagePure s) (Gives (ReadPure message)) = read_on_log (place_at s o) o.log (Some message)
  log_after_poll o (MessagePure s) Pending = read_on_log (place_at s o) o.log None
  log_after_poll o (Stream s) (Gives (Streamed (Some message))) = read_log (place_at s o) o.log (Some (Given message))
  log_after_poll o (Stream s) Pending = caught (place_at s o) o.log
  log_after_poll o ask a = o.log

  abbrev pub topic_after_poll : Topic T → Option (PubSubAsk T) → Answer (PubSubHeard T) → Topic T
  topic_after_poll o None a = o
  topic_after_poll o (Some ask) a = record o { log = log_after_poll o ask a }

  -- where at most cap messages are held
  module _ (cap : ℕ) where
    -- a subscriber that comes reads on from the next number, at the least free place
    abbrev pub topic_after_call : Topic T → PubSubCall T → Answer (PubSubHeard T) → Topic T
    topic_after_call o (Join s) (Gives (Came (Ok done))) =
        let place = least_free o.log.positions in record o { log = moved place o.log.next o.log; subscribers = slice_set o.subscribers s (Some place) }
    topic_after_call o (Leave s) Done = departed s o
    topic_after_call o (Publisher p) (Gives (Came (Ok done))) = record o { publishers = slice_set o.publishers p (Some tt) }
    topic_after_call o (Retire p) Done = record o { publishers = slice_set o.publishers p None }
    topic_after_call o (TryPublish p message) (Gives (TriedPublish (Ok done))) = record o { log = accepted message o.log o.log }
    topic_after_call o (Immediate message) (Gives (PublishedAtOnce (Ok done))) = record o { log = accepted message o.log (with_room cap o.log) }
    topic_after_call o (Next s) (Gives (Tried answer)) = record o { log = read_log (place_at s o) o.log answer }
    topic_after_call o (NextPure s) (Gives (TriedPure given)) = record o { log = read_on_log (place_at s o) o.log given }
    topic_after_call o Clear Done = record o { log = cleared o.log }
    topic_after_call o call a = o

    -- the channel after a command; the list says what each request asks
    abbrev pub topic_after : {W : Type 0} → List (ℕ × PubSubAsk T) → Topic T → Command (PubSubAsk T) W (PubSubCall T) → Answer (PubSubHeard T) → Topic T
    topic_after asked o (Start r ask) a = o
    topic_after asked o (Poll r w) a = topic_after_poll o (ask_of asked r) a
    topic_after asked o (End r) a = o
    topic_after asked o (Call call) a = topic_after_call o call a
