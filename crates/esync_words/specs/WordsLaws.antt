-- Laws of words.
use Rattle.std.proofs.Common.{◌≡◌, ℕ, suc, ◌<◌, ◌+◌, ◌⊎◌, inl, inr, Bool, true, false, List, [], ◌∷◌, Some, length, take, drop, refl, ap, subst, arith}
use Rattle.std.specs.Prelude.{◌==◌, ◌^◌, nat_lt, slice_index, Result, Ok, Err}
use Rattle.std.specs.Result.{OkIff, result_ok}
use Rattle.std.specs.Char.{digit_value}
use Rattle.std.specs.Str.Parse.{AllDigits, IsNumeral, digits_value, without_leading_plus, ParsesUnsigned}
use Rattle.std.proofs.lemmas.Bool.Decides.{nat_tests}
use Rattle.std.specs.List.{before_first, after_first, position_or_len}
use Rattle.esync_words.specs.Words.{parts_of, is_text, are_digits, is_numeral, number}

true_or_false : (b : Bool) → (b ≡ true) ⊎ (b ≡ false)
true_or_false true = inl refl
true_or_false false = inr refl

-- texts that differ
pub not_text : (xs ys : List ℕ) → (xs ≡ ys → ⊥) → is_text xs ys ≡ false
not_text [] [] n = absurd (n refl)
not_text [] (y ∷ ys) n = refl
not_text (x ∷ xs) [] n = refl
not_text (x ∷ xs) (y ∷ ys) n = elim (true_or_false (x == y)) [
  | inl e ↦ (let s : x ≡ y = grind (arith, nat_tests) in rw e (not_text xs ys (λ t. n cc)))
  | inr e ↦ rw e refl
]

take_next : (n c : ℕ) (cs : List ℕ) → take (1 + n) (c ∷ cs) ≡ c ∷ take n cs
take_next n c cs = (let e : 1 + n ≡ suc n = omega arith in rw e refl)

drop_next : (n c : ℕ) (cs : List ℕ) → drop (1 + n + 1) (c ∷ cs) ≡ drop (n + 1) cs
drop_next n c cs = (let e : 1 + n + 1 ≡ suc (n + 1) = omega arith in rw e refl)

-- Parts of a text between its letters s.
module _ (s : ℕ) where
  -- a text without such a letter is one part
  pub parts_of_one : (t : List ℕ) → position_or_len (λ b. b == s) t ≡ length t → parts_of s t ≡ t ∷ []
  parts_of_one [] h = refl
  parts_of_one (c ∷ cs) h = elim (true_or_false (c == s)) [
    | inl e ↦ (let k = rw e at h in absurd (omega arith))
    | inr e ↦ (let k = rw e at h in rw (e, parts_of_one cs (omega (arith, k))) refl)
  ]

  -- a text with such a letter is the part before the first one, and the parts behind it
  pub parts_of_more : (t : List ℕ) → position_or_len (λ b. b == s) t < length t → parts_of s t ≡ before_first (λ b. b == s) t ∷ parts_of s (after_first (λ b. b == s) t)
  parts_of_more [] h = absurd (omega arith)
  parts_of_more (c ∷ cs) h = elim (true_or_false (c == s)) [
    | inl e ↦ rw e refl
    | inr e ↦ (let k = rw e at h in rw (e, parts_of_more cs (omega (arith, k)), take_next (position_or_len (λ b. b == s) cs) c cs, drop_next (position_or_len (λ b. b == s) cs) c cs) refl)
  ]

digits-true : (w : List ℕ) → are_digits w ≡ true → AllDigits 10 w
digits-true [] h = tt
digits-true (c ∷ cs) h = elim (true_or_false (nat_lt (digit_value c) 10)) [
  | inl e ↦ (let k = rw e at h in (grind (arith, nat_tests), digits-true cs k))
  | inr e ↦ (let k = rw e at h in absurd cc)
]

true-digits : (w : List ℕ) → AllDigits 10 w → are_digits w ≡ true
true-digits [] h = refl
true-digits (c ∷ cs) h = (let e : nat_lt (digit_value c) 10 ≡ true = (let l = h.0 in grind (arith, nat_tests)) in rw e (true-digits cs h.1))

numeral-true : (w : List ℕ) → is_numeral w ≡ true → IsNumeral 10 w
numeral-true [] h = absurd cc
numeral-true (c ∷ cs) h = (omega arith, digits-true (c ∷ cs) h)

true-numeral : (w : List ℕ) → IsNumeral 10 w → is_numeral w ≡ true
true-numeral [] h = (let l = h.0 in absurd (omega arith))
true-numeral (c ∷ cs) h = true-digits (c ∷ cs) h.1

unsigned : (w : List ℕ) → (slice_index w 0 ≡ 43 → ⊥) → without_leading_plus w ≡ w
unsigned w n = (let e : (slice_index w 0 == 43) ≡ false = grind (arith, nat_tests) in rw e refl)

read_plain : {E : Type 0} (k : ℕ) (w : List ℕ) (r : Result ℕ E) → OkIff r (IsNumeral 10 w × (digits_value 10 w < 2 ^ k)) (digits_value 10 w) → result_ok r ≡ number k w
read_plain k w (Ok x) h =
    let l : nat_lt (digits_value 10 w) (2 ^ k) ≡ true = (let m = h.0.1 in grind (arith, nat_tests)) in
    rw (true-numeral w h.0.0, l) (ap Some h.1)
read_plain k w (Err e) h = elim (true_or_false (is_numeral w)) [
  | inl n ↦ elim (true_or_false (nat_lt (digits_value 10 w) (2 ^ k))) [
    | inl l ↦ absurd (h (numeral-true w n, grind (arith, nat_tests)))
    | inr l ↦ rw (n, l) refl
  ]
  | inr n ↦ rw n refl
]

-- what `parse` reads of a word without a sign
pub read_number : {E : Type 0} (k : ℕ) (w : List ℕ) (r : Result ℕ E) → (slice_index w 0 ≡ 43 → ⊥) → ParsesUnsigned k 10 w r → result_ok r ≡ number k w
read_number k w r n h = read_plain k w r (subst (λ v. OkIff r (IsNumeral 10 v × (digits_value 10 v < 2 ^ k)) (digits_value 10 v)) (unsigned w n) h)

pub no_sign : (w : List ℕ) (b : Bool) → b ≡ false → b ≡ (slice_index w 0 == 43) → slice_index w 0 ≡ 43 → ⊥
no_sign w b e f h = (let t : (slice_index w 0 == 43) ≡ true = rw h refl in cc)
