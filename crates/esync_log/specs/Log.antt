-- A log: messages with consecutive numbers, and how far each subscriber has read.
use Rattle.std.specs.Prelude.{◌≡◌, ℕ, suc, ◌+◌, ◌-◌, ◌<◌, ◌≤◌, Bool, true, false, List, [], ◌∷◌, ◌++◌, length, drop, Option, Some, None, Result, Ok, Err, if◌then◌else◌, is_some, nat_lt, slice_get, slice_set, slice_index_or, refl}
use Rattle.std.specs.List.{list_all, list_any}
use Rattle.std.specs.Coded.{Coded, code_by, coded×, coded_ℕ, coded_list, coded_option}
use Rattle.esync_base.specs.declared.waitqueue.Poll.{Poll}
use Rattle.esync_base.specs.declared.waitqueue.Poll.TheVariants.{Pending, Ready}
use Rattle.esync_log.specs.declared.log.TryPublishError.{TryPublishError}
use Rattle.esync_log.specs.declared.log.TryPublishError.TheVariants.{Full, Exhausted}
use Rattle.esync_log.specs.declared.log.Exhausted.{Exhausted as NoNumber}
use Rattle.esync_log.specs.declared.log.WaitResult.{WaitResult}
use Rattle.esync_log.specs.declared.log.WaitResult.TheVariants.{Lagged, Message}

pub record Log (T : Type 0) : Type 0 where
  -- the messages that are held, oldest first
  pub held : List T
  -- the number of the next message: one above the last held one's
  pub next : ℕ
  -- the number that each subscriber reads next, at its place
  pub positions : List (Option ℕ)

abbrev pub log_code : {T : Type 0} → Coded T → Coded (Log T)
log_code {T} t =
    code_by (List T × (ℕ × List (Option ℕ))) (coded× (coded_list t) (coded× coded_ℕ (coded_list (coded_option coded_ℕ)))) (λ s. (s.held, (s.next, s.positions))) (λ p. record { held = p.0; next = p.1.0; positions = p.1.1 }) (λ _. refl)

-- no subscriber is at the place, or its position is above the number
abbrev pub is_above : ℕ → Option ℕ → Bool
is_above n None = true
is_above n (Some p) = nat_lt n p

-- every live position is above the number
abbrev pub is_read : ℕ → List (Option ℕ) → Bool
is_read n positions = list_all (is_above n) positions

-- the held messages from number n on, without those in front that every live position is above
abbrev pub trimmed : {T : Type 0} → ℕ → List (Option ℕ) → List T → List T
trimmed n positions [] = []
trimmed n positions (m ∷ ms) = if is_read n positions then trimmed (suc n) positions ms else m ∷ ms

-- the number that is never given
abbrev pub last_number : ℕ
last_number = 18446744073709551615

-- a position, or 0 if no subscriber is at the place
abbrev pub number_of : Option ℕ → ℕ
number_of None = 0
number_of (Some p) = p

-- the least place without a subscriber
pub record IsLeastFree (place : ℕ) (positions : List (Option ℕ)) : Type 0 where
  pub free : slice_get positions place ≡ Some None
  pub least : (k : ℕ) → k < place → is_some (slice_index_or positions k None) ≡ true

module _ {T : Type 0} where
  -- the number of the oldest held message, or the next number if none is held
  abbrev pub oldest : Log T → ℕ
  oldest log = log.next - length log.held

  abbrev pub has_subscribers : Log T → Bool
  has_subscribers log = list_any is_some log.positions

  -- a subscriber is at the place
  abbrev pub is_live : ℕ → Log T → Bool
  is_live place log = is_some (slice_index_or log.positions place None)

  -- the number that the subscriber at the place reads next
  abbrev pub position : ℕ → Log T → ℕ
  position place log = number_of (slice_index_or log.positions place None)

  -- a log with the message added under the next number
  abbrev pub published : T → Log T → Log T
  published message log = record { held = log.held ++ message ∷ []; next = log.next + 1; positions = log.positions }

  -- a log without its oldest message, if cap messages are held
  abbrev pub with_room : ℕ → Log T → Log T
  with_room cap log = record log { held = (if nat_lt (length log.held) cap then log.held else drop 1 log.held) }

  -- a log in which the subscriber at the place is at position p
  abbrev pub moved : ℕ → ℕ → Log T → Log T
  moved place p log = record log { positions = slice_set log.positions place (Some p) }

  -- a log without the subscriber at the place
  abbrev pub without : ℕ → Log T → Log T
  without place log = record log { positions = slice_set log.positions place None }

  -- a log without the messages that every live position is above
  abbrev pub settled : Log T → Log T
  settled log = record log { held = trimmed (oldest log) log.positions log.held }

  abbrev pub left : ℕ → Log T → Log T
  left place log = settled (without place log)

  abbrev pub cleared : Log T → Log T
  cleared log = record log { held = [] }

  -- a subscriber comes to the least free place and reads on from the next number, or all places are taken
  abbrev pub Joins : Log T → Option ℕ → Log T → Type 0
  Joins log (Some place) log2 = IsLeastFree place log.positions × (log2 ≡ moved place log.next log)
  Joins log None log2 = (list_all is_some log.positions ≡ true) × (log2 ≡ log)

  -- the message in an error
  abbrev pub message_of : TryPublishError T → T
  message_of (Full message) = message
  message_of (Exhausted message) = message

  -- without subscribers a message is dropped; otherwise it is held
  abbrev pub Accepts : Bool → Log T → Log T → Log T → Type 0
  Accepts true log log2 after = (log.next < last_number) × (log2 ≡ after)
  Accepts false log log2 after = log2 ≡ log

  -- publishing: Full if cap messages are held, otherwise Exhausted if the numbers have run out
  abbrev pub Publishes : ℕ → T → Log T → Result (Unit {0}) (TryPublishError T) → Log T → Type 0
  Publishes cap message log (Ok done) log2 = (has_subscribers log ≡ true → length log.held < cap) × Accepts (has_subscribers log) log log2 (published message log)
  Publishes cap message log (Err (Full back)) log2 = (has_subscribers log ≡ true) × (length log.held ≡ cap) × (back ≡ message) × (log2 ≡ log)
  Publishes cap message log (Err (Exhausted back)) log2 = (has_subscribers log ≡ true) × (length log.held < cap) × (log.next ≡ last_number) × (back ≡ message) × (log2 ≡ log)

  -- publishing at once: the oldest message makes room
  abbrev pub PublishesAtOnce : ℕ → T → Log T → Result (Unit {0}) (NoNumber T) → Log T → Type 0
  PublishesAtOnce cap message log (Ok done) log2 = Accepts (has_subscribers log) log log2 (published message (with_room cap log))
  PublishesAtOnce cap message log (Err refused) log2 = (has_subscribers log ≡ true) × (log.next ≡ last_number) × (refused ≡ record { 0 = message }) × (log2 ≡ log)

  -- every live position, except that at the place, is above the number
  abbrev pub is_last : ℕ → ℕ → Log T → Bool
  is_last place n log = is_read n (slice_set log.positions place None)

  -- the message at index k of the list is cloned
  pub record ClonesAt (IsClone : T → T → Type 0) (k : ℕ) (held : List T) (given : T) : Type 0 where
    pub message : T
    pub here : slice_get held k ≡ Some message
    pub clone : IsClone message given

  -- the clone of the message at index k of the list may be refused
  pub record MayFailAt (IsInfallible : T → Type 0) (k : ℕ) (held : List T) : Type 0 where
    pub message : T
    pub here : slice_get held k ≡ Some message
    pub fallible : ¬ (IsInfallible message)

  -- the last live reader is given the message itself, every other reader a clone
  abbrev pub Gives : (T → T → Type 0) → Bool → ℕ → List T → T → Type 0
  Gives IsClone true k held given = slice_get held k ≡ Some given
  Gives IsClone false k held given = ClonesAt IsClone k held given

  -- the message with number n is read: its last reader gets the message itself, every other one a clone
  pub record Takes (IsClone : T → T → Type 0) (place n : ℕ) (log : Log T) (given : T) (log2 : Log T) : Type 0 where
    pub from : oldest log ≤ n
    pub gives : Gives IsClone (is_last place n log) (n - oldest log) log.held given
    pub after : log2 ≡ settled (moved place (n + 1) log)

  -- a read: nothing at the end; how many messages are gone, if the position lags; otherwise the message there
  abbrev pub Reads : (T → T → Type 0) → ℕ → Log T → Option (WaitResult T) → Log T → Type 0
  Reads IsClone place log None log2 = (position place log ≡ log.next) × (log2 ≡ log)
  Reads IsClone place log (Some (Lagged k)) log2 = (position place log < oldest log) × (k ≡ oldest log - position place log) × (log2 ≡ moved place (oldest log) log)
  Reads IsClone place log (Some (Message given)) log2 = Takes IsClone place (position place log) log given log2

  -- the position of the subscriber at the place is behind the oldest held number
  abbrev pub lags : ℕ → Log T → Bool
  lags place log = nat_lt (position place log) (oldest log)

  -- the log in which a subscriber that lags goes on from the oldest message
  abbrev pub caught_if : Bool → ℕ → Log T → Log T
  caught_if true place log = moved place (oldest log) log
  caught_if false place log = log

  abbrev pub caught : ℕ → Log T → Log T
  caught place log = caught_if (lags place log) place log

  -- what is read without a lag: a message, or nothing
  abbrev pub found : Option T → Option (WaitResult T)
  found None = None
  found (Some given) = Some (Message given)

  -- a pure read: a subscriber that lags goes on from the oldest message, and reads there
  abbrev pub ReadsOn : (T → T → Type 0) → ℕ → Log T → Option T → Log T → Type 0
  ReadsOn IsClone place log answer log2 = Reads IsClone place (caught place log) (found answer) log2

  -- what a stream has read if it answers Pending: a lag, or nothing
  abbrev pub gap : Bool → ℕ → Option (WaitResult T)
  gap true k = Some (Lagged k)
  gap false k = None

  -- a poll of a stream, which never ends: Pending at a lag, and if all is read
  abbrev pub Streams : (T → T → Type 0) → ℕ → Log T → Poll (Option T) → Log T → Type 0
  Streams IsClone place log (Ready (Some given)) log2 = Reads IsClone place log (Some (Message given)) log2
  Streams IsClone place log (Ready None) log2 = ⊥
  Streams IsClone place log Pending log2 = Reads IsClone place log (gap (lags place log) (oldest log - position place log)) log2

  -- a clone is refused, of a message that has other readers
  pub record IsRefused (IsInfallible : T → Type 0) (place n : ℕ) (log : Log T) : Type 0 where
    pub from : oldest log ≤ n
    pub shared : is_last place n log ≡ false
    pub fails : MayFailAt IsInfallible (n - oldest log) log.held
