-- Reader counts: beside each held message, how many subscribers still read it.
use Rattle.std.specs.Prelude.{◌≡◌, ℕ, zero, suc, ◌+◌, ◌-◌, ◌<◌, ◌≤◌, List, [], ◌∷◌, length, not, Option, Some, None, is_some, slice_index, slice_index_or, refl}
use Rattle.std.specs.Coded.{Coded, code_by, coded×, coded_ℕ, coded_list}
use Rattle.std.specs.List.{count_by}
use Rattle.esync_base.specs.Ring.{next}
use Rattle.esync_log.specs.Log.{is_above}

-- messages, oldest first, and the count of each
pub record Held (T : Type 0) : Type 0 where
  pub messages : List T
  pub counts : List ℕ

abbrev pub held_code : {T : Type 0} → Coded T → Coded (Held T)
held_code {T} t = code_by (List T × List ℕ) (coded× (coded_list t) (coded_list coded_ℕ)) (λ h. (h.messages, h.counts)) (λ p. record { messages = p.0; counts = p.1 }) (λ _. refl)

-- k numbers of a row of n, one behind the other from place f on; behind the last place comes the first
abbrev pub beside : ℕ → ℕ → List ℕ → ℕ → List ℕ
beside n f row zero = []
beside n f row (suc k) = slice_index row f ∷ beside n (next n f) row k

-- how many live positions are at or below the number
abbrev pub readers_of : ℕ → List (Option ℕ) → ℕ
readers_of n positions = count_by (λ q. not (is_above n q)) positions

-- the count beside each message is how many live positions are at or below its number; the first message's number is `first`
pub record AreCounted {T : Type 0} (held : List T) (counts : List ℕ) (first : ℕ) (positions : List (Option ℕ)) : Type 0 where
  pub paired : length counts ≡ length held
  pub each : (k : ℕ) → k < length held → slice_index counts k ≡ readers_of (first + k) positions

-- what holds of every log
pub record IsLog {T : Type 0} (cap subs : ℕ) (held : List T) (counts : List ℕ) (next : ℕ) (positions : List (Option ℕ)) (subscribers : ℕ) : Type 0 where
  pub room : 1 ≤ cap
  pub places : length positions ≡ subs
  pub numbered : length held ≤ next
  pub counted : AreCounted held counts (next - length held) positions
  -- no subscriber has read what isn't published
  pub within : (i p : ℕ) → slice_index_or positions i None ≡ Some p → p ≤ next
  pub live : subscribers ≡ count_by is_some positions
  -- the oldest message still has a reader
  pub wanted : 0 < length held → 0 < slice_index counts 0

-- how many messages in front no subscriber has still to read
abbrev pub unread : List ℕ → ℕ
unread [] = 0
unread (zero ∷ counts) = suc (unread counts)
unread (suc n ∷ counts) = 0
