-- A ring: n places one behind the other, and the first one again behind the last.
use Rattle.std.specs.Prelude.{ℕ, zero, suc, ◌+◌, List, refl, if◌then◌else◌, nat_lt}
use Rattle.std.specs.Coded.{Coded, code_by, coded×, coded_ℕ, coded_list}

-- the items that a ring holds, and where the first of them stands
pub record Ringed (T : Type 0) : Type 0 where
  -- oldest first
  pub items : List T
  -- the place of the oldest item, or where the next one goes if there is none
  pub front : ℕ

-- a ring is stored as the pair of its fields
abbrev pub ringed_code : {T : Type 0} → Coded T → Coded (Ringed T)
ringed_code {T} t = code_by (List T × ℕ) (coded× (coded_list t) coded_ℕ) (λ r. (r.items, r.front)) (λ p. record { items = p.0; front = p.1 }) (λ _. refl)

-- the place behind place i
abbrev pub next : ℕ → ℕ → ℕ
next n i = if nat_lt (i + 1) n then i + 1 else 0

-- the place of item i, where the oldest item stands at place f
abbrev pub slot : ℕ → ℕ → ℕ → ℕ
slot n f zero = f
slot n f (suc i) = next n (slot n f i)
