-- The runs of places that a ring's bytes fill, and those that are free: each ends at the wrap at the latest.
use Rattle.std.specs.Prelude.{◌≡◌, ℕ, zero, suc, ◌+◌, ◌-◌, ◌≤◌, min, List, ◌++◌, take, drop, length, refl, if◌then◌else◌, nat_lt}
use Rattle.std.specs.Coded.{Coded, code_by, coded×, coded_ℕ}
use Rattle.esync_base.specs.Places.{read_from}

-- which places of a ring are filled: a count of places from the front on, round
pub record Stretch : Type 0 where
  -- the place of the oldest byte, or where the next one goes if there is none
  pub front : ℕ
  pub count : ℕ

abbrev pub stretch_code : Coded Stretch
stretch_code = code_by (ℕ × ℕ) (coded× coded_ℕ coded_ℕ) (λ s. (s.front, s.count)) (λ p. record { front = p.0; count = p.1 }) (λ _. refl)

-- how many filled places stand one behind the other from the front on
abbrev pub filled_run : ℕ → Stretch → ℕ
filled_run n s = min s.count (n - s.front)

-- how many free places stand one behind the other, behind the filled ones
abbrev pub free_run : ℕ → Stretch → ℕ
free_run n s = if nat_lt (s.front + s.count) n then n - (s.front + s.count) else n - s.count

-- where a range of some places begins: an empty range is 0..0
abbrev pub begins : ℕ → ℕ → ℕ
begins start zero = 0
begins start (suc k) = start

-- a row after the bytes were written from this place on
abbrev pub written : List ℕ → ℕ → List ℕ → List ℕ
written row at bytes = take at row ++ (bytes ++ drop (at + length bytes) row)

-- the bytes of a row that stand where it is filled, the oldest first
abbrev pub laid : List ℕ → Stretch → List ℕ
laid row s = take s.count (read_from s.front row)

-- a row of n places, of which these are filled
pub record IsLaid (n : ℕ) (row : List ℕ) (s : Stretch) : Type 0 where
  pub places : length row ≡ n
  pub first : s.front ≤ n - 1
  pub fits : s.count ≤ n
