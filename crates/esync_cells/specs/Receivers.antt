-- The receivers of a watch: a table of numbers, each free or in use by a receiver that has seen some version.
use Rattle.std.specs.Prelude.{◌≡◌, ℕ, Bool, false, List, length, Option, Some, None, slice_set, refl}
use Rattle.std.specs.Coded.{Coded, code_by, coded×, coded_list, coded_option, coded_bool, coded_ℕ}
use Rattle.esync_machine.specs.Numbers.{at_number}
use Rattle.esync_machine.specs.Names.{used_by}
use Rattle.esync_cells.specs.Watch.{Watching, watching_code}
use Rattle.esync_cells.specs.declared.watch.machine.Seen.{Seen}

abbrev pub seen_code : Coded Seen
seen_code = code_by (Bool × ℕ) (coded× coded_bool coded_ℕ) (λ s. (s.is_counted, s.version)) (λ p. record { is_counted = p.0; version = p.1 }) (λ _. refl)

-- a watch with its receivers
pub record Followed (T W : Type 0) : Type 0 where
  pub state : Watching T W
  pub receivers : List (Option Seen)

abbrev pub followed_code : {T W : Type 0} → Coded T → Coded W → Coded (Followed T W)
followed_code {T} {W} t w =
    code_by (Watching T W × List (Option Seen)) (coded× (watching_code t w) (coded_list (coded_option seen_code))) (λ s. (s.state, s.receivers)) (λ p. record { state = p.0; receivers = p.1 }) (λ _. refl)

-- whether the receiver at a number is counted
abbrev pub is_counted : Option Seen → Bool
is_counted None = false
is_counted (Some s) = s.is_counted

-- how many receivers are counted
abbrev pub count : List (Option Seen) → ℕ
count q = used_by (λ s. s.is_counted) q

-- k receivers are counted of a table of n numbers
abbrev pub IsCounted : ℕ → ℕ → List (Option Seen) → Type 0
IsCounted n k q = (length q ≡ n) × (k ≡ count q)

-- the version that the receiver at a number has seen
abbrev pub version_of : Option Seen → ℕ
version_of None = 0
version_of (Some s) = s.version

abbrev pub seen_at : List (Option Seen) → ℕ → ℕ
seen_at q h = version_of (at_number q h)

-- the table after the receiver at a number, if there is one, has seen this version
abbrev pub with_seen_if : ℕ → ℕ → Option Seen → List (Option Seen) → List (Option Seen)
with_seen_if h version None q = q
with_seen_if h version (Some s) q = slice_set q h (Some (record s { version = version }))

abbrev pub with_seen : ℕ → ℕ → List (Option Seen) → List (Option Seen)
with_seen h version q = with_seen_if h version (at_number q h) q
