-- What a channel allows, and which wakers it hands out: for each request and each call.
use Rattle.std.specs.Prelude.{◌≡◌, ℕ, ◌+◌, Bool, true, false, List, [], length, Option, Some, None, nat_lt, Result}
use Rattle.esync_base.specs.Keeping.{Keeping}
use Rattle.esync_base.specs.Registration.{registered, displaced}
use Rattle.esync_channel.specs.Mailbox.{Slots}
use Rattle.esync_channel.specs.Channel.{Sends, Receives, slots_after_send, wakes_of_send, slots_after_receive, wakes_of_receive}
use Rattle.esync_channel.specs.declared.channel.TrySendError.{TrySendError}
use Rattle.esync_channel.specs.declared.channel.TryReceiveError.{TryReceiveError}
use Rattle.esync_machine.specs.declared.primitive.Answer.{Answer}
use Rattle.esync_machine.specs.declared.primitive.Answer.TheVariants.{Done, Pending, Gives}
use Rattle.esync_machine.specs.Rules.{Rules, asked_rules}
use Rattle.esync_machine.specs.Wakings.{Wakings, Handed, nothing}
use Rattle.esync_channel.specs.declared.channel.machine.ChannelAsk.{ChannelAsk}
use Rattle.esync_channel.specs.declared.channel.machine.ChannelAsk.TheVariants.{Send, Receive, SendReady, ReceiveReady}
use Rattle.esync_channel.specs.declared.channel.machine.ChannelCall.{ChannelCall}
use Rattle.esync_channel.specs.declared.channel.machine.ChannelCall.TheVariants.{TrySend, TryReceive, Clear, Len, FreeCapacity}
use Rattle.esync_channel.specs.declared.channel.machine.ChannelHeard.{ChannelHeard}
use Rattle.esync_channel.specs.declared.channel.machine.ChannelHeard.TheVariants.{Ready, Received, TrySent, TryReceived, Number}

module _ {T : Type 0} (k : Keeping T) where
  -- whether there is room
  abbrev pub has_room : List T → Bool
  has_room held = nat_lt (length held) k.capacity

  -- whether there is a message
  abbrev pub has_message : List T → Bool
  has_message held = nat_lt 0 (length held)

  -- the request waits, and nothing changes
  abbrev pub Waits : List T → ChannelAsk T → Answer (ChannelHeard T) → List T → Option (ChannelAsk T) → Type 0
  Waits held ask a held2 p = (a ≡ Pending) × (held2 ≡ held) × (p ≡ Some ask)

  -- the request is over, and nothing changes
  abbrev pub IsReady : List T → Answer (ChannelHeard T) → List T → Option (ChannelAsk T) → Type 0
  IsReady held a held2 p = (a ≡ Gives Ready) × (held2 ≡ held) × (p ≡ None)

  abbrev pub PollsSend : List T → T → Bool → Answer (ChannelHeard T) → List T → Option (ChannelAsk T) → Type 0
  PollsSend held message true a held2 p = (a ≡ Gives Ready) × k.Puts held message held2 × (p ≡ None)
  PollsSend held message false a held2 p = Waits held (Send message) a held2 p

  abbrev pub PollsReceive : List T → Bool → Answer (ChannelHeard T) → List T → Option (ChannelAsk T) → Type 0
  PollsReceive held true a held2 p = (message : T) × (a ≡ Gives (Received message)) × k.Takes held message held2 × (p ≡ None)
  PollsReceive held false a held2 p = Waits held Receive a held2 p

  abbrev pub PollsReady : List T → ChannelAsk T → Bool → Answer (ChannelHeard T) → List T → Option (ChannelAsk T) → Type 0
  PollsReady held ask true a held2 p = IsReady held a held2 p
  PollsReady held ask false a held2 p = Waits held ask a held2 p

  abbrev pub Polls : List T → ChannelAsk T → Answer (ChannelHeard T) → List T → Option (ChannelAsk T) → Type 0
  Polls held (Send message) a held2 p = PollsSend held message (has_room held) a held2 p
  Polls held Receive a held2 p = PollsReceive held (has_message held) a held2 p
  Polls held SendReady a held2 p = PollsReady held SendReady (has_room held) a held2 p
  Polls held ReceiveReady a held2 p = PollsReady held ReceiveReady (has_message held) a held2 p

  abbrev pub Calls : List T → ChannelCall T → Answer (ChannelHeard T) → List T → Type 0
  Calls held (TrySend message) a held2 = (sent : Result (Unit {0}) (TrySendError T)) × (a ≡ Gives (TrySent sent)) × Sends k held message sent held2
  Calls held TryReceive a held2 = (received : Result T TryReceiveError) × (a ≡ Gives (TryReceived received)) × Receives k held received held2
  Calls held Clear a held2 = (a ≡ Done) × (held2 ≡ [])
  Calls held Len a held2 = (a ≡ Gives (Number (length held))) × (held2 ≡ held)
  Calls held FreeCapacity a held2 = (free : ℕ) × (a ≡ Gives (Number free)) × (free + length held ≡ k.capacity) × (held2 ≡ held)

  -- the object is the list of the messages that are held
  abbrev pub channel_rules : Rules (ChannelAsk T) (ChannelAsk T) (ChannelCall T) (ChannelHeard T)
  channel_rules = asked_rules Polls Calls

module _ {T W : Type 0} (eq : W → W → Bool) (k : Keeping T) where
  -- the wakes of a send, with a waker or without
  abbrev pub send_hands : List T → Option W → Slots W → Handed (Slots W) W
  send_hands held w s = record { wakes = wakes_of_send eq w (has_room k held) s; after = slots_after_send eq w (has_room k held) s }

  abbrev pub receive_hands : List T → Option W → Slots W → Handed (Slots W) W
  receive_hands held w s = record { wakes = wakes_of_receive eq k.capacity (length held) w (has_message k held) s; after = slots_after_receive eq k.capacity (length held) w (has_message k held) s }

  -- a poll that asks whether the channel is ready registers its waker, whatever the answer
  abbrev pub poll_hands : List T → Slots W → ChannelAsk T → W → Handed (Slots W) W
  poll_hands held s (Send message) w = send_hands held (Some w) s
  poll_hands held s Receive w = receive_hands held (Some w) s
  poll_hands held s SendReady w = record { wakes = displaced eq 1 s.senders w; after = record s { senders = registered eq 1 s.senders w } }
  poll_hands held s ReceiveReady w = record { wakes = displaced eq 1 s.receivers w; after = record s { receivers = registered eq 1 s.receivers w } }

  abbrev pub call_hands : List T → Slots W → ChannelCall T → Handed (Slots W) W
  call_hands held s (TrySend message) = send_hands held None s
  call_hands held s TryReceive = receive_hands held None s
  call_hands held s Clear = record { wakes = s.senders; after = record s { senders = [] } }
  call_hands held s Len = nothing s
  call_hands held s FreeCapacity = nothing s

  -- at most one waker is registered in each slot
  abbrev pub channel_wakings : Wakings (List T) (ChannelAsk T) (ChannelCall T) (ChannelHeard T) W
  channel_wakings = record {
    Registered = Slots W;
    polls = λ held s ask w a p. poll_hands held s ask w;
    ends = λ held s ask. nothing s;
    calls = λ held s call p a. call_hands held s call;
  }
