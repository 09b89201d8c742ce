-- Line 1 of a script, and what is played behind it.
use Rattle.std.specs.Prelude.{◌≡◌, ℕ, ◌==◌, List, Option, Some, None, ◌⊎◌, Result, Ok, Err, if◌then◌else◌, codes}
use Rattle.std.specs.Option.{option_map}
use Rattle.std.specs.Io.KnownBytes.{Appends}
use Rattle.std.specs.Ordering.{nat_cmp}
use Rattle.esync_base.specs.Keeping.{BoundedList}
use Rattle.esync_machine.specs.declared.primitive.Answer.{Answer}
use Rattle.esync_machine.specs.declared.primitive.Command.{Command}
use Rattle.esync_machine.specs.Runs.{Meaning}
use Rattle.esync_priority.specs.Prio.{Bag, greater, less}
use Rattle.esync_words.specs.declared.fault.Fault.{Fault}
use Rattle.esync_words.specs.Fault.{status_of}
use Rattle.esync_words.specs.Words.{is_text, and_then, one, two, number_and_values}
use Rattle.esync_words.specs.Perhaps.{one_or_two, one_two_or_four}
use Rattle.esync_words.specs.Commands.{says}
use Rattle.esync_words.specs.Played.{Opened, NotOpened, IsJudged}
use Rattle.esync_words.specs.Story.{Story}
use Rattle.esync_script.specs.Player.{plays_and_tells}
use Rattle.esync_script.specs.Setting.{Setting, PlaysFrom}
use Rattle.esync_script.specs.declared.capacity.Capacity.{Capacity}
use Rattle.esync_script.specs.Capacity.{capacity, places, any_capacity, Handles, four_and_four, handles, no_handles}
use Rattle.esync_script.specs.declared.opening.OpeningOf.{OpeningOf}
use Rattle.esync_script.specs.declared.opening.OpeningOf.TheVariants.{Channel, Max, Min, Signal, Greedy, Fair, Pipe, PubSub, Once, Lazy, Mutex, Watch, Zerocopy}
use Rattle.esync_script.specs.Channel.{channel_setting}
use Rattle.esync_script.specs.Signal.{signal_setting}
use Rattle.esync_script.specs.Once.{once_setting}
use Rattle.esync_script.specs.Lazy.{lazy_setting}
use Rattle.esync_script.specs.Mutex.{mutex_setting}
use Rattle.esync_script.specs.Pipe.{pipe_setting}
use Rattle.esync_script.specs.PubSub.{pubsub_setting}
use Rattle.esync_script.specs.Watch.{watch_setting}
use Rattle.esync_script.specs.Semaphore.{greedy_setting, fair_setting}
use Rattle.esync_script.specs.Zerocopy.{zero_setting}

-- the value x for capacity 1, the only one that the primitive can have
abbrev pub only_one : {A : Type 0} → A → ℕ → Option A
only_one x n = if n == 1 then Some x else None

-- The number of a pub-sub channel's first message, and how many subscribers and publishers it may have, by the numbers
-- behind its capacity: 0, four and four where there are none.
abbrev pub first_and_handles : (ℕ → ℕ → Option Handles) → Option (ℕ × Option (ℕ × ℕ)) → Option (ℕ × Handles)
first_and_handles handled None = Some (0, four_and_four)
first_and_handles handled (Some (first, None)) = Some (first, four_and_four)
first_and_handles handled (Some (first, Some (s, p))) = option_map (λ h. (first, h)) (handled s p)

module _ {C : Type 0} where
  -- The primitive that line 1 names, where a number says this capacity, or none, two numbers say these subscribers and
  -- publishers, or none, and a value has k bits.
  abbrev pub opening : (ℕ → Option C) → (ℕ → ℕ → Option Handles) → ℕ → List ℕ → List (List ℕ) → Option (OpeningOf C)
  opening sized handled k name words =
      if is_text name (codes "channel") then option_map (λ c. Channel c) (and_then (one 64 words) sized)
      else if is_text name (codes "max") then option_map (λ c. Max c) (and_then (one 64 words) sized)
      else if is_text name (codes "min") then option_map (λ c. Min c) (and_then (one 64 words) sized)
      else if is_text name (codes "signal") then and_then (one 64 words) (only_one Signal)
      else if is_text name (codes "greedy") then and_then (two 64 64 words) (λ p. only_one (Greedy p.1) p.0)
      else if is_text name (codes "fair") then and_then (two 64 64 words) (λ p. option_map (λ c. Fair c p.1) (sized p.0))
      else if is_text name (codes "pipe") then option_map (λ c. Pipe c) (and_then (one 64 words) sized)
      else if is_text name (codes "pubsub") then and_then (one_two_or_four 64 words) (λ p. and_then (first_and_handles handled p.1) (λ t. option_map (λ c. PubSub c t.0 t.1) (sized p.0)))
      else if is_text name (codes "once") then and_then (one 64 words) (only_one Once)
      else if is_text name (codes "lazy") then and_then (two 64 k words) (λ p. only_one (Lazy p.1) p.0)
      else if is_text name (codes "zerocopy") then option_map (λ c. Zerocopy c) (and_then (one 64 words) sized)
      else if is_text name (codes "mutex") then and_then (number_and_values k words) (λ p. only_one (Mutex p.1 p.2) p.0)
      else if is_text name (codes "watch") then and_then (one_or_two 64 k words) (λ p. option_map (λ c. Watch c p.1) (sized p.0))
      else None

  -- The setting of the primitive that line 1 names. A capacity has this number of places, a command of a pipe has at most
  -- so many bytes, and a value has k bits.
  module _ (size : C → ℕ) (bytes k : ℕ) where
    abbrev pub setting : OpeningOf C → Setting
    setting (Channel c) = channel_setting k (BoundedList ℕ (size c))
    setting (Max c) = channel_setting k (Bag ℕ (greater nat_cmp) (size c))
    setting (Min c) = channel_setting k (Bag ℕ (less nat_cmp) (size c))
    setting Signal = signal_setting k
    setting (Greedy permits) = greedy_setting permits
    setting (Fair c permits) = fair_setting (size c) permits
    setting (Pipe c) = pipe_setting bytes (size c)
    setting (PubSub c first h) = pubsub_setting k (size c) h first
    setting Once = once_setting k
    setting (Lazy v) = lazy_setting v
    setting (Mutex v x) = mutex_setting k v x
    setting (Watch c value) = watch_setting k (size c) value
    setting (Zerocopy c) = zero_setting k (size c)

  -- How many requests the primitive has at a time, where n is the language's number. Those of a pipe have rows of bytes,
  -- and there are 16.
  abbrev pub numbers : ℕ → OpeningOf C → ℕ
  numbers n (Pipe c) = 16
  numbers n other = n

-- What line 1 can say, the setting of each primitive that it names, the greatest number of bytes of a line, and how many
-- requests a primitive has at a time.
pub record Language : Type 1 where
  pub Opening : Type 0
  pub opening : List ℕ → List (List ℕ) → Option Opening
  pub setting : Opening → Setting
  pub longest : ℕ
  pub requests : Opening → ℕ

-- the language whose capacities are of the type C: `sized` reads a number as one, `size` is its number of places, and
-- `handled` reads numbers of subscribers and publishers
abbrev pub language : (C : Type 0) → (ℕ → Option C) → (C → ℕ) → (ℕ → ℕ → Option Handles) → (bytes bits longest requests : ℕ) → Language
language C sized size handled bytes bits longest requests = record { Opening = OpeningOf C; opening = opening sized handled bits; setting = setting size bytes bits; longest = longest; requests = numbers requests }

-- the language of `syncrun`
abbrev pub scripts : Language
scripts = language Capacity capacity places no_handles 16 32 256 16

-- the language of recorded runs, and of every script but those of `syncrun`
abbrev pub runs : Language
runs = language ℕ any_capacity (λ c. c) handles 4096 64 16640 1024

-- Behind lines that were played, the foot is written. The script's outcome is theirs, unless a write or memory failed.
abbrev pub Closes : List ℕ → Option (List ℕ) → Option (List ℕ) → Result (Unit {0}) Fault → Result (Unit {0}) Fault → Type 0
Closes foot before after played outcome = IsJudged outcome → (outcome ≡ played) × Appends before after foot

-- The statement `plays` on the lines behind line n and on the named primitive's machine, which begins as line 1 says.
module _ (L : Language) (plays : (Q C A Reply : Type 0) (M : Meaning (Command Q ℕ C) Reply ℕ) → (List ℕ → Option (Command Q ℕ C)) → (A → List ℕ) → (Reply → Answer A) → (Reply → List ℕ) → M.Object → M.Registered → ℕ → Option (List ℕ) → Option (List ℕ) → Option (List ℕ) → Result (Unit {0}) Fault → Type 0) where
  abbrev pub Plays : L.Opening → ℕ → Option (List ℕ) → Option (List ℕ) → Option (List ℕ) → Result (Unit {0}) Fault → Type 0
  Plays o n left before after outcome = PlaysFrom plays L.longest (L.requests o) (L.setting o) n left before after outcome

-- A whole script. Line 1 names a primitive, the story tells of it, the lines behind it are played, and the foot is
-- written. Or line 1 names none; or a read, a write or memory failed before.
abbrev pub PlaysBehind : (L : Language) (S : Story) → (S.Notes → S.Notes → (Q C A Reply : Type 0) (M : Meaning (Command Q ℕ C) Reply ℕ) → (List ℕ → Option (Command Q ℕ C)) → (A → List ℕ) → (Reply → Answer A) → (Reply → List ℕ) → M.Object → M.Registered → ℕ → Option (List ℕ) → Option (List ℕ) → Option (List ℕ) → Result (Unit {0}) Fault → Type 0) → Option (List ℕ) → Option (List ℕ) → Option (List ℕ) → Result (Unit {0}) Fault → Type 0
PlaysBehind L S plays left before after outcome =
    ((o : L.Opening) × (was now : S.Notes) × (rest mid last : Option (List ℕ)) × (played : Result (Unit {0}) Fault) × Opened (says L.longest L.opening) S o was left rest before mid × Plays L (plays was now) o 1 rest mid last played × Closes S.foot last after played outcome)
    ⊎ ((fault : Fault) × (outcome ≡ Err fault) × (IsJudged (Err fault) → NotOpened (says L.longest L.opening) fault left before after))

-- A whole script, whose lines are given to the primitive as commands, and of which the story is written.
abbrev pub PlaysScript : Language → Story → Option (List ℕ) → Option (List ℕ) → Option (List ℕ) → Result (Unit {0}) Fault → Type 0
PlaysScript L S left before after outcome = PlaysBehind L S (plays_and_tells S) left before after outcome

-- A script with this outcome was played up to it: to its end, or to a line that is no command.
abbrev pub EndsScript : Language → Story → Option (List ℕ) → Result (Unit {0}) Fault → Type 0
EndsScript L S left outcome =
    IsJudged outcome → (before after : Option (List ℕ)) × PlaysScript L S left before after outcome

-- the status of a script with this outcome
abbrev pub status_of_outcome : Result (Unit {0}) Fault → ℕ
status_of_outcome (Ok _) = 0
status_of_outcome (Err fault) = status_of fault

-- a script that was played up to its outcome has this status
abbrev pub EndsWith : Language → Story → Option (List ℕ) → ℕ → Type 0
EndsWith L S left status = (outcome : Result (Unit {0}) Fault) × (status ≡ status_of_outcome outcome) × EndsScript L S left outcome
