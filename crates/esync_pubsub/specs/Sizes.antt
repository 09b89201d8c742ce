-- The sizes of a pub-sub channel add up: they are those of the channel that the answers tell, from the channel and its
-- requests at first, and from the commands and their answers.
use Rattle.std.specs.Prelude.{◌≡◌, ℕ, List, length, Option}
use Rattle.esync_machine.specs.Sizes.{SizesAddUp as AddUpInRun}
use Rattle.esync_machine.specs.declared.run.Reply.{Reply}
use Rattle.esync_machine.specs.declared.primitive.Answer.{Answer}
use Rattle.esync_machine.specs.declared.primitive.Command.{Command}
use Rattle.esync_pubsub.specs.PubSubRules.{Topic}
use Rattle.esync_pubsub.specs.Order.{Account, after, known_at_first}
use Rattle.esync_pubsub.specs.declared.pubsub.machine.PubSubAsk.{PubSubAsk}
use Rattle.esync_pubsub.specs.declared.pubsub.machine.PubSubCall.{PubSubCall}
use Rattle.esync_pubsub.specs.declared.pubsub.machine.PubSubCall.TheVariants.{Len, FreeCapacity}
use Rattle.esync_pubsub.specs.declared.pubsub.machine.PubSubHeard.{PubSubHeard}
use Rattle.esync_pubsub.specs.declared.pubsub.machine.PubSubHeard.TheVariants.{Number}

module _ {T : Type 0} where
  -- the channel holds as many messages as the answers tell
  abbrev pub IsHeld : Account T → ℕ → Type 0
  IsHeld k held = held ≡ length k.topic.log.held

  -- the sizes that a run answers, over a channel of at most cap messages; s is any subscriber, since the account of
  -- each has the whole channel
  abbrev pub SizesAddUp : {W : Type 0} {K : ℕ} → ℕ → ℕ → List (Option (PubSubAsk T)) → Topic T → List (Command (PubSubAsk T) W (PubSubCall T)) → List (Reply (Answer (PubSubHeard T)) W K) → Type 0
  SizesAddUp cap s requests o commands replies = AddUpInRun Len FreeCapacity Number cap IsHeld (after cap s) (known_at_first requests o) commands replies
