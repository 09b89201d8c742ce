-- The numbers that line 1 of a script can say: capacities, and how many subscribers and publishers there may be.
use Rattle.std.specs.Prelude.{ℕ, ◌==◌, nat_lt, Option, Some, None, if◌then◌else◌, refl}
use Rattle.std.specs.Coded.{Coded, code_by, coded×, coded_ℕ}
use Rattle.esync_script.specs.declared.capacity.Capacity.{Capacity}
use Rattle.esync_script.specs.declared.capacity.Capacity.TheVariants.{One, Two, Three, Four, Eight}

-- the capacity that a script of `syncrun` says by this number
abbrev pub capacity : ℕ → Option Capacity
capacity n =
    if n == 1 then Some One
    else if n == 2 then Some Two
    else if n == 3 then Some Three
    else if n == 4 then Some Four
    else if n == 8 then Some Eight
    else None

-- how many places it is
abbrev pub places : Capacity → ℕ
places One = 1
places Two = 2
places Three = 3
places Four = 4
places Eight = 8

-- the capacity that any other script says by this number
abbrev pub any_capacity : ℕ → Option ℕ
any_capacity n = if nat_lt n 1 then None else if nat_lt 4096 n then None else Some n

-- how many subscribers, and how many publishers, a pub-sub channel may have
pub record Handles : Type 0 where
  pub subscribers : ℕ
  pub publishers : ℕ

abbrev pub handles_code : Coded Handles
handles_code = code_by (ℕ × ℕ) (coded× coded_ℕ coded_ℕ) (λ h. (h.subscribers, h.publishers)) (λ p. record { subscribers = p.0; publishers = p.1 }) (λ _. refl)

-- how many there may be where line 1 says neither number
abbrev pub four_and_four : Handles
four_and_four = record { subscribers = 4; publishers = 4 }

-- what two numbers of line 1 say, in any language but that of `syncrun`, which has no words for them
abbrev pub handles : ℕ → ℕ → Option Handles
handles s p = if nat_lt 16 s then None else if nat_lt 16 p then None else Some (record { subscribers = s; publishers = p })

abbrev pub no_handles : ℕ → ℕ → Option Handles
no_handles s p = None
