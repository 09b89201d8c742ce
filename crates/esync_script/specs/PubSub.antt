-- The words of publishers and subscribers, and the text of what they hear.
use Rattle.std.specs.Prelude.{ℕ, List, ◌++◌, codes, decimal, Option, Some, None, Ok, Err, if◌then◌else◌, []}
use Rattle.std.specs.Option.{option_map}
use Rattle.std.proofs.Common.{nat_eq}
use Rattle.esync_pubsub.specs.declared.pubsub.Error.TheVariants.{MaximumSubscribersReached, MaximumPublishersReached}
use Rattle.esync_log.specs.declared.log.TryPublishError.TheVariants.{Full, Exhausted}
use Rattle.esync_log.specs.declared.log.WaitResult.{WaitResult}
use Rattle.esync_log.specs.declared.log.WaitResult.TheVariants.{Lagged, Message as Given}
use Rattle.esync_pubsub.specs.declared.pubsub.machine.PubSubAsk.{PubSubAsk}
use Rattle.esync_pubsub.specs.declared.pubsub.machine.PubSubAsk.TheVariants.{Publish, Message, MessagePure, Stream}
use Rattle.esync_pubsub.specs.declared.pubsub.machine.PubSubCall.{PubSubCall}
use Rattle.esync_pubsub.specs.declared.pubsub.machine.PubSubCall.TheVariants.{Join, Leave, Publisher, Retire, TryPublish, Immediate, Next, NextPure, Available, Clear, Len, FreeCapacity}
use Rattle.esync_pubsub.specs.declared.pubsub.machine.PubSubHeard.{PubSubHeard}
use Rattle.esync_pubsub.specs.declared.pubsub.machine.PubSubHeard.TheVariants.{Published, Read, ReadPure, Streamed, Came, TriedPublish, PublishedAtOnce, Tried, TriedPure, Unread, Number}
use Rattle.esync_words.specs.Words.{is_text, nothing, one, two}
use Rattle.esync_words.specs.Text.{option_text}
use Rattle.std.proofs.Math.ListN.{replicate}
use Rattle.esync_pubsub.specs.PubSub.{Lists}
use Rattle.esync_pubsub.specs.PubSubRules.{Topic, pubsub_rules, pubsub_wakings}
use Rattle.esync_script.specs.Capacity.{Handles}
use Rattle.esync_script.specs.Setting.{Setting, setting_of, IsSame, NeedsNone}

abbrev pub pubsub_asks : ℕ → List ℕ → List (List ℕ) → Option (PubSubAsk ℕ)
pubsub_asks k name words =
    if is_text name (codes "publish") then option_map (λ p. Publish p.0 p.1) (two 64 k words)
    else if is_text name (codes "message") then option_map (λ s. Message s) (one 64 words)
    else if is_text name (codes "message-pure") then option_map (λ s. MessagePure s) (one 64 words)
    else if is_text name (codes "stream") then option_map (λ s. Stream s) (one 64 words)
    else None

abbrev pub pubsub_calls : ℕ → List ℕ → List (List ℕ) → Option (PubSubCall ℕ)
pubsub_calls k name words =
    if is_text name (codes "join") then option_map (λ s. Join s) (one 64 words)
    else if is_text name (codes "leave") then option_map (λ s. Leave s) (one 64 words)
    else if is_text name (codes "publisher") then option_map (λ p. Publisher p) (one 64 words)
    else if is_text name (codes "retire") then option_map (λ p. Retire p) (one 64 words)
    else if is_text name (codes "try-publish") then option_map (λ p. TryPublish p.0 p.1) (two 64 k words)
    else if is_text name (codes "immediate") then option_map (λ v. Immediate v) (one k words)
    else if is_text name (codes "next") then option_map (λ s. Next s) (one 64 words)
    else if is_text name (codes "next-pure") then option_map (λ s. NextPure s) (one 64 words)
    else if is_text name (codes "available") then option_map (λ s. Available s) (one 64 words)
    else if is_text name (codes "clear") then option_map (λ x. Clear) (nothing words)
    else if is_text name (codes "len") then option_map (λ x. Len) (nothing words)
    else if is_text name (codes "free") then option_map (λ x. FreeCapacity) (nothing words)
    else None

-- the text of a read
abbrev pub read_text : WaitResult ℕ → List ℕ
read_text (Lagged k) = codes "Lagged(" ++ decimal k ++ codes ")"
read_text (Given v) = codes "Message(" ++ decimal v ++ codes ")"

abbrev pub pubsub_text : PubSubHeard ℕ → List ℕ
pubsub_text (Published (Ok _)) = codes "Ready"
pubsub_text (Published (Err back)) = codes "Ready(Err(Exhausted(" ++ decimal back.0 ++ codes ")))"
pubsub_text (Read answer) = codes "Ready(" ++ read_text answer ++ codes ")"
pubsub_text (ReadPure value) = codes "Ready(" ++ decimal value ++ codes ")"
pubsub_text (Streamed (Some value)) = codes "Ready(Some(" ++ decimal value ++ codes "))"
pubsub_text (Streamed None) = codes "Ready(None)"
pubsub_text (Came (Ok _)) = codes "Ok"
pubsub_text (Came (Err MaximumSubscribersReached)) = codes "Err(MaximumSubscribersReached)"
pubsub_text (Came (Err MaximumPublishersReached)) = codes "Err(MaximumPublishersReached)"
pubsub_text (TriedPublish (Ok _)) = codes "Ok"
pubsub_text (TriedPublish (Err (Full value))) = codes "Err(Full(" ++ decimal value ++ codes "))"
pubsub_text (TriedPublish (Err (Exhausted value))) = codes "Err(Exhausted(" ++ decimal value ++ codes "))"
pubsub_text (PublishedAtOnce (Ok _)) = codes "Ok"
pubsub_text (PublishedAtOnce (Err back)) = codes "Err(Exhausted(" ++ decimal back.0 ++ codes "))"
pubsub_text (Tried (Some answer)) = read_text answer
pubsub_text (Tried None) = codes "None"
pubsub_text (TriedPure found) = option_text found
pubsub_text (Unread count) = decimal count
pubsub_text (Number number) = decimal number

-- an empty pub-sub channel with so many places for subscribers, none of which is taken, whose first message has this
-- number
abbrev pub a_new_topic : ℕ → ℕ → Topic ℕ
a_new_topic places first = record {
  log = record { held = []; next = first; positions = replicate places None };
  subscribers = replicate 16 None;
  publishers = replicate 16 None;
}

-- no waker in either list
abbrev pub no_lists : Lists ℕ
no_lists = record { subscribers = []; publishers = [] }

-- a channel of at most cap messages, each value of k bits, with these subscribers and publishers: at most 16 of each, so
-- that a step hands out 16 wakers at most
abbrev pub pubsub_setting : ℕ → ℕ → Handles → ℕ → Setting
pubsub_setting k cap h first = setting_of 16 (pubsub_rules IsSame NeedsNone cap h.publishers) (pubsub_wakings nat_eq h.subscribers h.publishers) (pubsub_asks k) (pubsub_calls k) pubsub_text (a_new_topic h.subscribers first) no_lists
