-- What was sent comes out in order. This is told of the commands and their answers alone.
use Rattle.std.specs.Prelude.{◌≡◌, ℕ, List, [], ◌∷◌, ◌++◌, Option, Some, None, Ok}
use Rattle.esync_machine.specs.Account.{account, ask_of, asked_from, asked_after}
use Rattle.esync_machine.specs.declared.run.Reply.{Reply}
use Rattle.esync_machine.specs.declared.primitive.Answer.{Answer}
use Rattle.esync_machine.specs.declared.primitive.Answer.TheVariants.{Done, Gives}
use Rattle.esync_machine.specs.declared.primitive.Command.{Command}
use Rattle.esync_machine.specs.declared.primitive.Command.TheVariants.{Poll, Call}
use Rattle.esync_channel.specs.declared.channel.machine.ChannelAsk.{ChannelAsk}
use Rattle.esync_channel.specs.declared.channel.machine.ChannelAsk.TheVariants.{Send, Receive, SendReady, ReceiveReady}
use Rattle.esync_channel.specs.declared.channel.machine.ChannelCall.{ChannelCall}
use Rattle.esync_channel.specs.declared.channel.machine.ChannelCall.TheVariants.{TrySend, TryReceive, Clear}
use Rattle.esync_channel.specs.declared.channel.machine.ChannelHeard.{ChannelHeard}
use Rattle.esync_channel.specs.declared.channel.machine.ChannelHeard.TheVariants.{Ready, Received, TrySent, TryReceived}

-- what is known of a channel from its commands and answers
pub record Account (T : Type 0) : Type 0 where
  -- what each request was started for
  pub asked : List (ℕ × ChannelAsk T)
  -- the messages that were sent, in order
  pub accepted : List T
  -- the messages that were received or cleared, in order
  pub taken : List T

module _ {T : Type 0} where
  -- a request that is ready has sent its message, if it was started to send one
  abbrev pub sent_by : List T → Option (ChannelAsk T) → List T
  sent_by accepted (Some (Send message)) = accepted ++ message ∷ []
  sent_by accepted (Some Receive) = accepted
  sent_by accepted (Some SendReady) = accepted
  sent_by accepted (Some ReceiveReady) = accepted
  sent_by accepted None = accepted

  -- the messages that were sent, after a command and its answer
  abbrev pub accepted_after : {W : Type 0} → Account T → Command (ChannelAsk T) W (ChannelCall T) → Answer (ChannelHeard T) → List T
  accepted_after k (Poll r w) (Gives Ready) = sent_by k.accepted (ask_of k.asked r)
  accepted_after k (Call (TrySend message)) (Gives (TrySent (Ok done))) = k.accepted ++ message ∷ []
  accepted_after k _ _ = k.accepted

  -- the messages that were taken, after a command and its answer: a clear takes all that was sent before it
  abbrev pub taken_after : {W : Type 0} → Account T → Command (ChannelAsk T) W (ChannelCall T) → Answer (ChannelHeard T) → List T
  taken_after k (Poll r w) (Gives (Received message)) = k.taken ++ message ∷ []
  taken_after k (Call TryReceive) (Gives (TryReceived (Ok message))) = k.taken ++ message ∷ []
  taken_after k (Call Clear) Done = k.accepted
  taken_after k _ _ = k.taken

  abbrev pub after : {W : Type 0} → Account T → Command (ChannelAsk T) W (ChannelCall T) → Answer (ChannelHeard T) → Account T
  after k c a = record { asked = asked_after k.asked c a; accepted = accepted_after k c a; taken = taken_after k c a }

  -- what is known at first of a channel with these requests that holds these messages
  abbrev pub at_first : List (Option (ChannelAsk T)) → List T → Account T
  at_first requests held = record { asked = asked_from 0 requests; accepted = held; taken = [] }

  -- A channel with these requests holds these messages at first, and those at last. The messages that were taken, and
  -- then those held at last, are those held at first and those that were sent since, in order.
  abbrev pub InOrder : {W : Type 0} {K : ℕ} → List (Option (ChannelAsk T)) → List T → List (Command (ChannelAsk T) W (ChannelCall T)) → List (Reply (Answer (ChannelHeard T)) W K) → List T → Type 0
  InOrder requests held commands replies held2 =
      let k = account (λ k c a. after k c a.answer) (at_first requests held) commands replies in
      k.taken ++ held2 ≡ k.accepted
