-- What a poll of a mailbox answers, and what it leaves of its request.
use Rattle.std.specs.Prelude.{◌≡◌, ◌<◌, ◌≤◌, Bool, true, false, List, [], length, Option, Some, None}
use Rattle.esync_base.specs.Keeping.{Keeping}
use Rattle.esync_base.specs.declared.waitqueue.Poll.{Poll}
use Rattle.esync_base.specs.declared.waitqueue.Poll.TheVariants.{Pending, Ready}

abbrev pub is_ready : {T : Type 0} → Poll T → Bool
is_ready (Ready x) = true
is_ready Pending = false

module _ {T : Type 0} (k : Keeping T) where
  abbrev pub ReceivesPoll : List T → Poll T → List T → Type 0
  ReceivesPoll held (Ready message) held2 = k.Takes held message held2
  ReceivesPoll held Pending held2 = (held ≡ []) × (held2 ≡ [])

  -- a poll to send: the messages before it, the message of the request, the messages after it, and what is left to send
  abbrev pub SendsPoll : List T → T → Poll (Unit {0}) → List T → Option T → Type 0
  SendsPoll held message (Ready done) held2 rest = (length held < k.capacity) × k.Puts held message held2 × (rest ≡ None)
  SendsPoll held message Pending held2 rest = (k.capacity ≤ length held) × (held2 ≡ held) × (rest ≡ Some message)

-- what a poll to send leaves of its request: nothing once it is sent
abbrev pub LeavesRequest : {T : Type 0} → Poll (Unit {0}) → Option T → Option T → Type 0
LeavesRequest (Ready done) old new = new ≡ None
LeavesRequest Pending old new = new ≡ old
