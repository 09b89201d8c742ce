-- Numbers that name something, as the subscribers of a channel: each of a table is free or in use.
use Rattle.std.specs.Prelude.{◌≡◌, ℕ, ◌+◌, Bool, true, false, List, [], ◌∷◌, Option, Some, None, slice_get}
use Rattle.esync_machine.specs.declared.primitive.Answer.{Answer}
use Rattle.esync_machine.specs.declared.primitive.Answer.TheVariants.{NoSuch}

-- the place exists and is free
abbrev pub is_place : {A : Type 0} → Option (Option A) → Bool
is_place (Some None) = true
is_place _ = false

-- the number stands in the table, and is free
abbrev pub is_free : {A : Type 0} → ℕ → List (Option A) → Bool
is_free r names = is_place (slice_get names r)

-- n, and one more if the test holds
abbrev pub counted : Bool → ℕ → ℕ
counted true n = n + 1
counted false n = n

-- how many numbers are in use by what passes the test
abbrev pub used_by : {A : Type 0} → (A → Bool) → List (Option A) → ℕ
used_by f [] = 0
used_by f (None ∷ names) = used_by f names
used_by f (Some x ∷ names) = counted (f x) (used_by f names)

-- how many numbers are in use
abbrev pub used : {A : Type 0} → List (Option A) → ℕ
used names = used_by (λ x. true) names

-- a command does its work where what it names is there, and else hears NoSuch and changes nothing
abbrev pub Where : {O A : Type 0} → Bool → O → Type 0 → Answer A → O → Type 0
Where true o Does a o2 = Does
Where false o Does a o2 = (a ≡ NoSuch) × (o2 ≡ o)
