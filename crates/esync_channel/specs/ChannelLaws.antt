-- What is owed to a request of a channel, and the laws that its steps keep.
use Rattle.std.specs.Prelude.{◌≡◌, Bool, true, false, List, Option, Some, refl}
use Rattle.esync_base.specs.Registration.{IsAmong}
use Rattle.esync_base.specs.Keeping.{Keeping}
use Rattle.esync_channel.specs.Mailbox.{Slots}
use Rattle.esync_machine.specs.Rules.{IsIdle, IdleIsPending}
use Rattle.esync_machine.specs.declared.primitive.Answer.{Answer}
use Rattle.esync_machine.specs.declared.primitive.Answer.TheVariants.{Pending}
use Rattle.esync_channel.specs.declared.channel.machine.ChannelAsk.{ChannelAsk}
use Rattle.esync_channel.specs.declared.channel.machine.ChannelAsk.TheVariants.{Send, Receive, SendReady, ReceiveReady}
use Rattle.esync_channel.specs.declared.channel.machine.ChannelHeard.{ChannelHeard}
use Rattle.esync_channel.specs.ChannelRules.{channel_rules, PollsSend, PollsReceive, PollsReady, has_room, has_message}

-- a request that waits for room is owed its waker in the senders' slot, and one that waits for a message in the receivers'
module _ {T W : Type 0} (eq : W → W → Bool) (k : Keeping T) where
  abbrev pub OwesRoom : List T → Slots W → W → Type 0
  OwesRoom held s w = (has_room k held ≡ false) × IsAmong eq w s.senders

  abbrev pub OwesMessage : List T → Slots W → W → Type 0
  OwesMessage held s w = (has_message k held ≡ false) × IsAmong eq w s.receivers

  abbrev pub OwesFor : List T → Slots W → ChannelAsk T → W → Type 0
  OwesFor held s (Send message) w = OwesRoom held s w
  OwesFor held s SendReady w = OwesRoom held s w
  OwesFor held s Receive w = OwesMessage held s w
  OwesFor held s ReceiveReady w = OwesMessage held s w

pub channel_idle : {T W : Type 0} (eq : W → W → Bool) (k : Keeping T) (held : List T) (s : Slots W) (ask : ChannelAsk T) (w : W) → OwesFor eq k held s ask w → IsIdle (channel_rules k) held ask
channel_idle eq k held s (Send message) w h = rw (h.0, PollsSend) (refl, refl, refl)
channel_idle eq k held s Receive w h = rw (h.0, PollsReceive) (refl, refl, refl)
channel_idle eq k held s SendReady w h = rw (h.0, PollsReady) (refl, refl, refl)
channel_idle eq k held s ReceiveReady w h = rw (h.0, PollsReady) (refl, refl, refl)

module _ {T : Type 0} (k : Keeping T) (held : List T) (a : Answer (ChannelHeard T)) (held2 : List T) (p : Option (ChannelAsk T)) where
  pending_send : (message : T) (room : Bool) → PollsSend k held message room Pending held (Some (Send message)) → PollsSend k held message room a held2 p → (a ≡ Pending) × (held2 ≡ held) × (p ≡ Some (Send message))
  pending_send message true h j = (let f = h.0 in absurd cc)
  pending_send message false h j = j

  pending_receive : (full : Bool) → PollsReceive k held full Pending held (Some Receive) → PollsReceive k held full a held2 p → (a ≡ Pending) × (held2 ≡ held) × (p ≡ Some Receive)
  pending_receive true h j = (let f = h.1 in absurd cc)
  pending_receive false h j = j

  pending_ready : (ask : ChannelAsk T) (ready : Bool) → PollsReady k held ask ready Pending held (Some ask) → PollsReady k held ask ready a held2 p → (a ≡ Pending) × (held2 ≡ held) × (p ≡ Some ask)
  pending_ready ask true h j = (let f = h.0 in absurd cc)
  pending_ready ask false h j = j

pub channel_pending : {T : Type 0} (k : Keeping T) → IdleIsPending (channel_rules k)
channel_pending k held (Send message) a held2 p h j = pending_send k held a held2 p message (has_room k held) h j
channel_pending k held Receive a held2 p h j = pending_receive k held a held2 p (has_message k held) h j
channel_pending k held SendReady a held2 p h j = pending_ready k held a held2 p SendReady (has_room k held) h j
channel_pending k held ReceiveReady a held2 p h j = pending_ready k held a held2 p ReceiveReady (has_message k held) h j
