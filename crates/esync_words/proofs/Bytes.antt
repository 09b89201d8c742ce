-- Bytes, read and printed one after another.
use Rattle.std.proofs.Common.{◌≡◌, ℕ, ◌<◌, ◌⊎◌, inl, inr, Bool, true, false, List, [], ◌∷◌, ◌++◌, Option, Some, None, length, refl, ap, sym, ◌∙◌, arith, append_assoc, length-append}
use Rattle.std.specs.Prelude.{◌==◌, nat_lt}
use Rattle.std.specs.Option.{option_map}
use Rattle.std.proofs.lemmas.Bool.Decides.{nat_tests}
use Rattle.esync_words.specs.Words.{parts_of, with_letter, number, numbers, at_most, and_then}

true_or_false : (b : Bool) → (b ≡ true) ⊎ (b ≡ false)
true_or_false true = inl refl
true_or_false false = inr refl

behind_those : (done : List ℕ) (n : ℕ) (x : Option (List ℕ)) → option_map (λ ns. done ++ ns) (option_map (λ ns. n ∷ ns) x) ≡ option_map (λ ns. (done ++ n ∷ []) ++ ns) x
behind_those done n None = refl
behind_those done n (Some ns) = ap Some (sym (append_assoc done (n ∷ []) ns))

within : (m : ℕ) (done : List ℕ) (n : ℕ) → length done < m → at_most m (done ++ n ∷ []) ≡ Some (done ++ n ∷ [])
within m done n h =
    let l = length-append done (n ∷ []) in
    let e : nat_lt m (length (done ++ n ∷ [])) ≡ false = grind (arith, nat_tests) in
    rw e refl

with_first : (c : ℕ) (ws : List (List ℕ)) → (v : List ℕ) × (vs : List (List ℕ)) × (with_letter c ws ≡ v ∷ vs)
with_first c [] = (c ∷ [], [], refl)
with_first c (w ∷ ws) = (c ∷ w, ws, refl)

-- a text has a part
first_part : (s : ℕ) (t : List ℕ) → (v : List ℕ) × (vs : List (List ℕ)) × (parts_of s t ≡ v ∷ vs)
first_part s [] = ([], [], refl)
first_part s (c ∷ cs) = elim (true_or_false (c == s)) [
  | inl e ↦ ([], parts_of s cs, rw e refl)
  | inr e ↦ rw e (with_first c (parts_of s cs))
]

too_many : (m : ℕ) (done : List ℕ) (n : ℕ) (x : Option (List ℕ)) → length done ≡ m → and_then (option_map (λ ns. done ++ ns) (option_map (λ ns. n ∷ ns) x)) (at_most m) ≡ None
too_many m done n None h = refl
too_many m done n (Some ns) h =
    let l = length-append done (n ∷ ns) in
    let e : nat_lt m (length (done ++ n ∷ ns)) ≡ true = grind (arith, nat_tests) in
    rw e refl

too_many_parts : (m k : ℕ) (done w : List ℕ) (ws : List (List ℕ)) (x : Option ℕ) → x ≡ number k w → length done ≡ m → and_then (option_map (λ ns. done ++ ns) (numbers k (w ∷ ws))) (at_most m) ≡ None
too_many_parts m k done w ws None e h = rw (← e) refl
too_many_parts m k done w ws (Some n) e h = rw (← e) (too_many m done n (numbers k ws) h)

-- A text of numbers of which these were read, and this is the rest.
module _ (k s : ℕ) (text done rest : List ℕ) (read : numbers k (parts_of s text) ≡ option_map (λ ns. done ++ ns) (numbers k (parts_of s rest))) where
  -- another number
  pub number_more : (part behind : List ℕ) (n : ℕ) → parts_of s rest ≡ part ∷ parts_of s behind → number k part ≡ Some n → numbers k (parts_of s text) ≡ option_map (λ ns. (done ++ n ∷ []) ++ ns) (numbers k (parts_of s behind))
  number_more part behind n p q = rw (p, q) at read ∙ behind_those done n (numbers k (parts_of s behind))

  -- a part that is no number
  pub number_none : (m : ℕ) (part : List ℕ) (parts : List (List ℕ)) → parts_of s rest ≡ part ∷ parts → number k part ≡ None → and_then (numbers k (parts_of s text)) (at_most m) ≡ None
  number_none m part parts p q = (let r = rw (p, q) at read in rw r refl)

  -- the last number
  pub number_last : (m n : ℕ) → parts_of s rest ≡ rest ∷ [] → number k rest ≡ Some n → length done < m → and_then (numbers k (parts_of s text)) (at_most m) ≡ Some (done ++ n ∷ [])
  number_last m n p q h = (let r = rw (p, q) at read in rw r (within m done n h))

  -- there are more numbers than there can be
  pub number_beyond : (m : ℕ) → length done ≡ m → and_then (numbers k (parts_of s text)) (at_most m) ≡ None
  number_beyond m h =
      let f = first_part s rest in
      let r = read in
      rw (r, f.2) (too_many_parts m k done f.0 f.1 (number k f.0) refl h)
