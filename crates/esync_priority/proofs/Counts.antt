-- Numbers of comparisons, and the binary digits of how many items there are.
use Rattle.std.proofs.Common.{◌≡◌, ℕ, zero, suc, ◌+◌, ◌-◌, ◌*◌, ◌/◌, ◌^◌, ◌<◌, ◌≤◌, ◌⊎◌, inl, inr, refl, subst, arith}
use Rattle.std.proofs.Math.Pow.{pow_mono}
use Rattle.std.proofs.Math.Nat.{pow-suc, mul-le-mul_left, mul-le-mul_right}
use Rattle.std.proofs.lemmas.Nat.{pow_pos}
use Rattle.std.proofs.lemmas.Int.Digits.{length-digits_of_step}
use Rattle.esync_priority.specs.Heap.{CostsWithin}
use Rattle.esync_priority.specs.Prio.{bits}

-- one comparison more at most doubles
pub doubled : (old mid new : ℕ) → old ≤ mid → mid ≤ new → new ≤ mid + 1 → 2 ^ (new - old) ≤ 2 ^ (mid - old) * 2
doubled old mid new a b c =
    subst (λ (n : ℕ). 2 ^ (new - old) ≤ n) (pow-suc 2 (mid - old)) (pow_mono {i = new - old} {j = suc (mid - old)} (omega arith))

pub costs_more : (old mid new n m : ℕ) → CostsWithin old mid n → mid ≤ new → new ≤ mid + 1 → n * 2 ≤ m → CostsWithin old new m
costs_more old mid new n m cost a b h =
    let two = doubled old mid new cost.more a b in let few = cost.few in
    record { more = omega (arith, cost.more); few = omega (arith, two, few) }

-- one level up halves the places
pub halved : (old mid new i p start : ℕ) → old ≤ mid → mid ≤ new → new ≤ mid + 1 → 2 * p < i → 2 ^ (mid - old) * (i + 1) ≤ start + 1 → 2 ^ (new - old) * (p + 1) ≤ start + 1
halved old mid new i p start a b c h few =
    let two = mul-le-mul_right (p + 1) (doubled old mid new a b c) in
    let level = mul-le-mul_left {m = 2 * (p + 1)} {n = i + 1} (2 ^ (mid - old)) (omega arith) in
    omega (arith, two, level, few)

-- a bound on a power of two bounds its exponent
pub digits_above : (u n : ℕ) → 2 ^ u ≤ n → u < bits n
unfolding bits
digits_above zero n h = omega (arith, length-digits_of_step 2 n (omega arith) (omega arith))
digits_above (suc u) n h =
    let double : 2 ^ u * 2 ≤ n = subst (λ (m : ℕ). m ≤ n) (pow-suc 2 u) h in
    let positive = pow_pos u in
    let more = digits_above u (n / 2) (omega arith) in
    omega (arith, length-digits_of_step 2 n (omega arith) (omega arith))

one_at_most : (u : ℕ) → 2 ^ u ≤ 1 → u ≡ 0
one_at_most zero h = refl
one_at_most (suc u) h =
    let double : 2 ^ u * 2 ≤ 1 = subst (λ (m : ℕ). m ≤ 1) (pow-suc 2 u) h in
    let positive = pow_pos u in
    absurd (omega arith)

first_or_behind : (place : ℕ) → (place ≡ 0) ⊎ (0 < place)
first_or_behind zero = inl refl
first_or_behind (suc place) = inr (omega arith)

not_below_zero : (place : ℕ) → place < 0 → ⊥
not_below_zero place h = omega arith

-- on the way from a place of m to the first, or back
pub few_levels : (old new place m : ℕ) → (0 < place → place < m) → CostsWithin old new (place + 1) → new ≤ old + (bits m - 1)
few_levels old new place zero inside cost =
    let few = cost.few in
    let first : place ≡ 0 = elim (first_or_behind place) [ inl e ↦ e | inr h ↦ absurd (not_below_zero place (inside h)) ] in
    let none = one_at_most (new - old) (omega arith) in
    omega (arith, cost.more, none)
few_levels old new place (suc m) inside cost =
    let few = cost.few in
    let below : place < suc m = elim (first_or_behind place) [ inl e ↦ omega arith | inr h ↦ inside h ] in
    let digits = digits_above (new - old) (suc m) (omega arith) in
    omega (arith, cost.more, digits)

-- a comparison on a level that isn't the first
pub last_level : (old mid new place start : ℕ) → old ≤ mid → mid ≤ new → new ≤ mid + 1 → 0 < place → 2 ^ (mid - old) * (place + 1) ≤ start + 1 → CostsWithin old new (start + 1)
last_level old mid new place start a b c h few =
    let two = doubled old mid new a b c in
    let level = mul-le-mul_left {m = 2} {n = place + 1} (2 ^ (mid - old)) (omega arith) in
    record { more = omega arith; few = omega (arith, two, level, few) }

-- where no item is left, nothing was compared
pub at_most_none : (old new m : ℕ) → m ≡ 0 → old ≤ new → new ≤ old + 2 * (bits m - 1) → new ≡ old
unfolding bits
at_most_none old new m e more few = let none = rw e at few in omega (arith, more, none)
