-- The steps of a pub-sub channel whose caller may not be a subscriber or a publisher: the answer, the channel after it,
-- and the wakers handed out. A step of a caller that isn't one changes nothing.
use Rattle.std.specs.Prelude.{◌≡◌, ℕ, ◌-◌, Bool, true, false, List, [], Option, Some, None, Result, Ok, Err, if◌then◌else◌, nat_eq, not, max}
use Rattle.esync_base.specs.declared.waitqueue.Poll.{Poll}
use Rattle.esync_base.specs.declared.waitqueue.Poll.TheVariants.{Pending}
use Rattle.esync_log.specs.Log.{Log, has_subscribers, is_live, position, left, Publishes, lags, caught, Reads, ReadsOn, Streams, IsRefused}
use Rattle.esync_pubsub.specs.PubSub.{PubSub, Lists, frees, lists_after_room, wakes_of_room, tried, heard, lists_after_publish, wakes_of_publish, lists_after_read, wakes_of_read, lists_after_stream, wakes_of_stream}
use Rattle.esync_log.specs.declared.log.Exhausted.{Exhausted as NoNumber}
use Rattle.esync_log.specs.declared.log.TryPublishError.{TryPublishError}
use Rattle.esync_log.specs.declared.log.WaitResult.{WaitResult}

-- the most wakers that one step hands out, with lists for this many subscribers and publishers
abbrev pub most_wakes : ℕ → ℕ → ℕ
most_wakes subs pubs = max (max subs pubs) 1

-- the first statement if the caller is here, and otherwise the second
abbrev pub IfThere : Bool → Type 0 → Type 0 → Type 0
IfThere true A B = A
IfThere false A B = B

-- what a poll read, or that a clone was refused
abbrev pub answered : {A E : Type 0} → Result (Poll A) E → Result (Option A) E
answered (Ok answer) = Ok (heard answer)
answered (Err e) = Err e

-- how many messages the subscriber at the place has not read; 0 if there is no subscriber
abbrev pub to_read : {T : Type 0} → ℕ → Log T → ℕ
to_read place log = if is_live place log then log.next - position place log else 0

module _ {T W : Type 0} where
  -- nothing changes, and no waker is handed out
  abbrev pub IsIdle : PubSub T W → PubSub T W → List W → Type 0
  IsIdle s s2 wakes = (s2 ≡ s) × (wakes ≡ [])

  -- the subscriber at the place leaves, if there is one; a message that leaves with it hands out the publishers' list
  abbrev pub Leaving : ℕ → PubSub T W → PubSub T W → List W → Type 0
  Leaving place s s2 wakes =
      IfThere (is_live place s.log) ((s2 ≡ record s { log = left place s.log; lists = lists_after_room (frees s.log (left place s.log)) s.lists }) × (wakes ≡ wakes_of_room (frees s.log (left place s.log)) s.lists)) (IsIdle s s2 wakes)

  -- a read: its effect on the log and the lists, and nothing if a clone is refused
  abbrev pub Reading : {A E : Type 0} → (A → Log T → Type 0) → Type 0 → (A → Bool → Lists W → Lists W) → (A → Bool → Lists W → List W) → PubSub T W → Result A E → PubSub T W → List W → Type 0
  Reading Does Refused after handed s (Ok answer) s2 wakes = Does answer s2.log × (s2 ≡ record s { log = s2.log; lists = after answer (frees s.log s2.log) s.lists }) × (wakes ≡ handed answer (frees s.log s2.log) s.lists)
  Reading Does Refused after handed s (Err e) s2 wakes = Refused × IsIdle s s2 wakes

  module _ (eq : W → W → Bool) where
    -- a message is published, among at most cap; without room the waker, if one is given, registers in a list of n places
    abbrev pub Publishing : ℕ → ℕ → T → Option W → PubSub T W → Result (Unit {0}) (TryPublishError T) → PubSub T W → List W → Type 0
    Publishing cap n message waker s result s2 wakes =
        Publishes cap message s.log result s2.log
        × (s2 ≡ record s { log = s2.log; lists = lists_after_publish eq n waker (has_subscribers s.log) result s.lists })
        × (wakes ≡ wakes_of_publish eq n waker (has_subscribers s.log) result s.lists)

    -- a poll of a publish; where no publisher is counted, it is Pending
    abbrev pub PollingPublish : ℕ → ℕ → T → W → PubSub T W → Poll (Result (Unit {0}) (NoNumber T)) → PubSub T W → List W → Type 0
    PollingPublish cap n message waker s answer s2 wakes =
        IfThere (not (nat_eq s.publishers 0)) (Publishing cap n message (Some waker) s (tried message answer) s2 wakes) ((answer ≡ Pending) × IsIdle s s2 wakes)

    -- the subscriber at the place reads, or registers its waker, if one is given, among n; any other caller finds nothing
    module _ (IsClone : T → T → Type 0) (IsInfallible : T → Type 0) {E : Type 0} (n place : ℕ) where
      -- a read of what comes next: a message, or how many are gone
      abbrev pub ReadingNext : Option W → PubSub T W → Result (Option (WaitResult T)) E → PubSub T W → List W → Type 0
      ReadingNext waker s result s2 wakes =
          IfThere (is_live place s.log) (Reading (Reads IsClone place s.log) (IsRefused IsInfallible place (position place s.log) s.log) (lists_after_read eq n waker) (wakes_of_read eq n waker) s result s2 wakes) ((result ≡ Ok None) × IsIdle s s2 wakes)

      -- a read of the next message, past a lag
      abbrev pub ReadingOn : Option W → PubSub T W → Result (Option T) E → PubSub T W → List W → Type 0
      ReadingOn waker s result s2 wakes =
          IfThere (is_live place s.log) (Reading (ReadsOn IsClone place s.log) (IsRefused IsInfallible place (position place (caught place s.log)) s.log) (lists_after_read eq n waker) (wakes_of_read eq n waker) s result s2 wakes) ((result ≡ Ok None) × IsIdle s s2 wakes)

      -- a poll of the stream of messages
      abbrev pub Streaming : W → PubSub T W → Result (Poll (Option T)) E → PubSub T W → List W → Type 0
      Streaming waker s result s2 wakes =
          IfThere (is_live place s.log) (Reading (Streams IsClone place s.log) (IsRefused IsInfallible place (position place s.log) s.log) (lists_after_stream eq n waker (lags place s.log)) (wakes_of_stream eq n waker (lags place s.log)) s result s2 wakes) ((result ≡ Ok Pending) × IsIdle s s2 wakes)
