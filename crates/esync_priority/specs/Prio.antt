-- Items of which one is to leave before another.
use Rattle.std.specs.Prelude.{◌≡◌, ℕ, Bool, false, List, ◌∷◌, length, IsPermutation, All}
use Rattle.std.specs.Ordering.{is_gt, is_lt}
use Rattle.std.specs.declared.cmp.Ordering.{Ordering}
use Rattle.std.specs.Int.Digits.{digits_of}
use Rattle.std.proofs.Common.{sym}
use Rattle.std.proofs.lemmas.List.Sorted.{length_permutation}
use Rattle.esync_base.specs.Keeping.{Keeping}

-- a is greater than b
abbrev pub greater : {T : Type 0} → (T → T → Ordering) → T → T → Bool
greater cmp a b = is_gt (cmp a b)

-- a is less than b
abbrev pub less : {T : Type 0} → (T → T → Ordering) → T → T → Bool
less cmp a b = is_lt (cmp a b)

-- no item of the list is above this one
abbrev pub IsTop : {T : Type 0} → (T → T → Bool) → T → List T → Type 0
IsTop above x xs = All (λ y. above y x ≡ false) xs

-- at most n messages, each as often as it is held; the one that leaves is one that no held message is above
abbrev pub Bag : (T : Type 0) → (T → T → Bool) → ℕ → Keeping T
Bag T above n = record {
  capacity = n;
  Puts = λ old message new. IsPermutation (message ∷ old) new;
  Takes = λ old message new. IsPermutation old (message ∷ new) × IsTop above message old;
  one_more = λ old new message h. length_permutation (message ∷ old) new h;
  one_less = λ old new message h. sym (length_permutation old (message ∷ new) h.0);
}

-- the number of binary digits of n
unfoldable pub bits : ℕ → ℕ
bits n = length (digits_of 2 n)
