-- What the calls of a channel do to its messages and to the registered wakers.
use Rattle.std.specs.Prelude.{◌≡◌, ℕ, ◌<◌, ◌≤◌, Bool, true, false, List, [], length, Option, Result, Ok, Err, nat_lt, if◌then◌else◌}
use Rattle.esync_base.specs.Keeping.{Keeping}
use Rattle.esync_base.specs.Registration.{registered_if, displaced_if}
use Rattle.esync_channel.specs.Mailbox.{Slots}
use Rattle.esync_channel.specs.declared.channel.TrySendError.{TrySendError}
use Rattle.esync_channel.specs.declared.channel.TrySendError.TheVariants.{Full}
use Rattle.esync_channel.specs.declared.channel.TryReceiveError.{TryReceiveError}

module _ {T : Type 0} (k : Keeping T) where
  -- a message is put in if there is room, and is in the error if not
  abbrev pub Sends : List T → T → Result (Unit {0}) (TrySendError T) → List T → Type 0
  Sends held message (Ok done) held2 = (length held < k.capacity) × k.Puts held message held2
  Sends held message (Err e) held2 = (k.capacity ≤ length held) × (e ≡ Full message) × (held2 ≡ held)

  -- a message is taken out if there is one
  abbrev pub Receives : List T → Result T TryReceiveError → List T → Type 0
  Receives held (Ok message) held2 = k.Takes held message held2
  Receives held (Err e) held2 = (held ≡ []) × (held2 ≡ [])

-- whether there is room
abbrev pub IsReadyToSend : ℕ → ℕ → Bool → Type 0
IsReadyToSend capacity n true = n < capacity
IsReadyToSend capacity n false = capacity ≤ n

-- whether there is a message
abbrev pub IsReadyToReceive : ℕ → Bool → Type 0
IsReadyToReceive n true = 0 < n
IsReadyToReceive n false = n ≡ 0

module _ {W : Type 0} (eq : W → W → Bool) where
  -- an accepted send hands out the receivers' slot; a refused one registers the waker, if it has one, in the senders'
  abbrev pub slots_after_send : Option W → Bool → Slots W → Slots W
  slots_after_send w true s = record s { receivers = [] }
  slots_after_send w false s = record s { senders = registered_if eq 1 s.senders w }

  abbrev pub wakes_of_send : Option W → Bool → Slots W → List W
  wakes_of_send w true s = s.receivers
  wakes_of_send w false s = displaced_if eq 1 s.senders w

  -- a receive from a full channel hands out the senders' slot; one from an empty channel registers in the receivers'
  abbrev pub slots_after_receive : ℕ → ℕ → Option W → Bool → Slots W → Slots W
  slots_after_receive capacity n w true s = record s { senders = (if nat_lt n capacity then s.senders else []) }
  slots_after_receive capacity n w false s = record s { receivers = registered_if eq 1 s.receivers w }

  abbrev pub wakes_of_receive : ℕ → ℕ → Option W → Bool → Slots W → List W
  wakes_of_receive capacity n w true s = if nat_lt n capacity then [] else s.senders
  wakes_of_receive capacity n w false s = displaced_if eq 1 s.receivers w
