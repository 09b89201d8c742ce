-- A change is told once. This is told of the requests at first, and of the commands and their answers.
use Rattle.std.specs.Prelude.{◌≡◌, ℕ, ◌==◌, ◌&&◌, Bool, true, false, List, Option, Some, None, Ok, is_some, nat_eq, if◌then◌else◌}
use Rattle.esync_machine.specs.Account.{AtEach}
use Rattle.esync_machine.specs.Numbers.{at_number, swept}
use Rattle.esync_machine.specs.declared.run.Reply.{Reply}
use Rattle.esync_machine.specs.declared.primitive.Answer.{Answer}
use Rattle.esync_machine.specs.declared.primitive.Answer.TheVariants.{Done, Pending, NoSuch, Gives}
use Rattle.esync_machine.specs.declared.primitive.Command.{Command}
use Rattle.esync_machine.specs.declared.primitive.Command.TheVariants.{Start, Poll, End, Call}
use Rattle.esync_cells.specs.Asked.{requests_after}
use Rattle.esync_cells.specs.declared.watch.machine.Reading.{Reading}
use Rattle.esync_cells.specs.declared.watch.machine.Reading.TheVariants.{Get, Changed, GetAnd, ChangedAnd}
use Rattle.esync_cells.specs.declared.watch.machine.Await.{Await}
use Rattle.esync_cells.specs.declared.watch.machine.WatchCall.{WatchCall}
use Rattle.esync_cells.specs.declared.watch.machine.WatchCall.TheVariants.{Leave, Send, Modify, ModifyIf, Read}
use Rattle.esync_cells.specs.declared.watch.machine.WatchHeard.{WatchHeard}
use Rattle.esync_cells.specs.declared.watch.machine.WatchHeard.TheVariants.{Sent, Modified, Found}

-- whether a read that found this told its receiver of the latest change: one by a test doesn't if it finds nothing
abbrev pub is_told : {T J : Type 0} → Reading J → Option T → Bool
is_told Get p = true
is_told Changed p = true
is_told (GetAnd judge) p = is_some p
is_told (ChangedAnd judge) p = is_some p

-- what is known of a watch from its requests at first, its commands and answers, and of the receiver at a number
pub record Account (J : Type 0) : Type 0 where
  -- whether that receiver was told of the latest change
  pub told : Bool
  -- what stands at each number
  pub requests : List (Option (Await J))

-- what is known at first of a watch with these requests
abbrev pub at_first : {J : Type 0} → List (Option (Await J)) → Account J
at_first requests = record { told = false; requests = requests }

-- The answer to the poll of a request of the receiver at r, while the receiver at h is told of the latest change: a
-- request for a newer version waits on.
abbrev pub WaitsOn : {T J : Type 0} → ℕ → ℕ → Reading J → Answer (WatchHeard T) → Type 0
WaitsOn h r Changed a = r ≡ h → a ≡ Pending
WaitsOn h r (ChangedAnd judge) a = r ≡ h → a ≡ Pending
WaitsOn h r read a = Unit {0}

-- what a poll is answered while the receiver at h is told, by the request that is there at its number, or by none
abbrev pub WaitsOnFor : {T J : Type 0} → ℕ → Option (Await J) → Answer (WatchHeard T) → Type 0
WaitsOnFor h None a = a ≡ NoSuch
WaitsOnFor h (Some ask) a = WaitsOn h ask.receiver ask.read a

-- whether the receiver at h was told of the latest change, after the poll of a request: one that shows a value tells
abbrev pub told_by_poll : {T J : Type 0} → ℕ → Bool → Option (Await J) → Answer (WatchHeard T) → Bool
told_by_poll h k (Some ask) (Gives heard) = if ask.receiver == h then true else k
told_by_poll h k _ _ = k

module _ {T C J : Type 0} where
  -- whether the receiver at h was told of the latest change, after a call and its answer
  abbrev pub told_by : ℕ → Bool → WatchCall T C J → Answer (WatchHeard T) → Bool
  told_by h k (Read r read) (Gives (Found p)) = if r == h && is_told read p then true else k
  told_by h k (Leave r) Done = if r == h then false else k
  told_by h k (Send value) (Gives (Sent (Ok done))) = false
  told_by h k (Modify change) (Gives (Modified (Ok done))) = false
  told_by h k (ModifyIf change) (Gives (Modified (Ok done))) = false
  told_by h k _ _ = k

  abbrev pub told_after : {W : Type 0} → ℕ → Account J → Command (Await J) W (WatchCall T C J) → Answer (WatchHeard T) → Bool
  told_after h k (Start r ask) a = k.told
  told_after h k (Poll r w) a = told_by_poll h k.told (at_number k.requests r) a
  told_after h k (End r) a = k.told
  told_after h k (Call call) a = told_by h k.told call a

  -- a receiver that leaves ends its requests
  abbrev pub requests_by : List (Option (Await J)) → WatchCall T C J → Answer (WatchHeard T) → List (Option (Await J))
  requests_by requests (Leave r) Done = swept (λ ask. nat_eq ask.receiver r) requests
  requests_by requests _ _ = requests

  abbrev pub requests_then : {W : Type 0} → List (Option (Await J)) → Command (Await J) W (WatchCall T C J) → Answer (WatchHeard T) → List (Option (Await J))
  requests_then requests (Call call) a = requests_by requests call a
  requests_then requests c a = requests_after requests c a

  abbrev pub after : {W : Type 0} → ℕ → Account J → Command (Await J) W (WatchCall T C J) → Answer (WatchHeard T) → Account J
  after h k c a = record { told = told_after h k c a; requests = requests_then k.requests c a }

  -- what a call is answered while that receiver is told: its reads for a newer version find nothing
  abbrev pub HasNoNews : ℕ → WatchCall T C J → Answer (WatchHeard T) → Type 0
  HasNoNews h (Read r Changed) a = r ≡ h → a ≡ Gives (Found None)
  HasNoNews h (Read r (ChangedAnd judge)) a = r ≡ h → a ≡ Gives (Found None)
  HasNoNews h call a = Unit {0}

  -- what any command is answered while the receiver at h is told
  abbrev pub TellsNoMore : {W : Type 0} → ℕ → Bool → List (Option (Await J)) → Command (Await J) W (WatchCall T C J) → Answer (WatchHeard T) → Type 0
  TellsNoMore h false requests c a = Unit {0}
  TellsNoMore h true requests (Start r ask) a = Unit {0}
  TellsNoMore h true requests (Poll r w) a = WaitsOnFor h (at_number requests r) a
  TellsNoMore h true requests (End r) a = Unit {0}
  TellsNoMore h true requests (Call call) a = HasNoNews h call a

  -- A watch has these requests at first. From a read of the receiver at h on, or a poll that showed it a value, until a
  -- send, its reads and its requests find no news. A poll at a number without a request names what isn't there. This
  -- holds at each command.
  abbrev pub TellsOnce : {W : Type 0} {K : ℕ} → ℕ → List (Option (Await J)) → List (Command (Await J) W (WatchCall T C J)) → List (Reply (Answer (WatchHeard T)) W K) → Type 0
  TellsOnce h requests commands replies =
      AtEach (λ k c a. after h k c a.answer) (λ k c a. TellsNoMore h k.told k.requests c a.answer) (at_first requests) commands replies
