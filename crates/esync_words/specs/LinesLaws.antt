-- Laws of lines.
use Rattle.std.proofs.Common.{◌≡◌, ℕ, ◌<◌, ◌≤◌, ◌⊎◌, inl, inr, Bool, true, false, List, [], ◌∷◌, ◌++◌, Option, Some, None, length, refl, ap, ◌∙◌, sym, arith, length-append, append_assoc, append-nil}
use Rattle.std.specs.Prelude.{◌==◌, IfSome, not}
use Rattle.std.proofs.lemmas.Bool.Decides.{nat_tests}
use Rattle.std.specs.Io.KnownBytes.{Consumes, IsAtEnd}
use Rattle.esync_words.specs.Lines.{IsRead, first_line, other_lines}
use Rattle.esync_words.specs.Words.{is_empty}

true_or_false : (b : Bool) → (b ≡ true) ⊎ (b ≡ false)
true_or_false true = inl refl
true_or_false false = inr refl

not_feed : (c : ℕ) (cs : List ℕ) → first_line (c ∷ cs) ≡ c ∷ cs → (c == 10) ≡ false
not_feed c cs h = elim (true_or_false (c == 10)) [ inl e ↦ (let k = rw e at h in absurd cc) | inr e ↦ e ]

plain_behind : (c : ℕ) (cs : List ℕ) → first_line (c ∷ cs) ≡ c ∷ cs → first_line cs ≡ cs
plain_behind c cs h = (let k = rw (not_feed c cs h) at h in cc)

-- the first line of a text that goes on behind letters without a line feed
pub line_before : (xs ys : List ℕ) → first_line xs ≡ xs → first_line (xs ++ ys) ≡ xs ++ first_line ys
line_before [] ys h = refl
line_before (c ∷ cs) ys h = rw (not_feed c cs h, line_before cs ys (plain_behind c cs h)) refl

others_before : (xs ys : List ℕ) → first_line xs ≡ xs → other_lines (xs ++ ys) ≡ other_lines ys
others_before [] ys h = refl
others_before (c ∷ cs) ys h = rw (not_feed c cs h) (others_before cs ys (plain_behind c cs h))

-- the first line grows by a letter that is no line feed
pub plain_more : (xs : List ℕ) (b : ℕ) → (b ≡ 10 → ⊥) → first_line xs ≡ xs → first_line (xs ++ b ∷ []) ≡ xs ++ b ∷ []
plain_more xs b n h = line_before xs (b ∷ []) h ∙ (let e : (b == 10) ≡ false = grind (arith, nat_tests) in rw e refl)

not_empty : (xs : List ℕ) (c : ℕ) (ys : List ℕ) → xs ++ c ∷ ys ≡ [] → ⊥
not_empty [] c ys h = cc
not_empty (x ∷ xs) c ys h = cc

is_empty-length : (xs : List ℕ) → (length xs == 0) ≡ is_empty xs
is_empty-length [] = refl
is_empty-length (x ∷ xs) = grind (arith, nat_tests)

last_line : (n number : ℕ) (ended : Bool) (line a : List ℕ) → a ≡ line → first_line line ≡ line → length line ≤ n → IsRead n a (not (is_empty line)) (record { number = number; line = line; left = Some []; ended = ended })
last_line n number ended [] a e plain l = e
last_line n number ended (x ∷ xs) a e plain l =
    (λ z. (let k = sym e ∙ z in absurd cc), λ _. (sym (ap first_line e ∙ plain), ap Some (sym (ap other_lines (e ∙ sym (append-nil (x ∷ xs))) ∙ others_before (x ∷ xs) [] plain))), λ m. omega (arith, ap length (ap first_line e ∙ plain)))

-- What was read of a text from whose front these letters were taken.
module _ (n number : ℕ) (ended : Bool) (line : List ℕ) (plain : first_line line ≡ line) where
  -- a line and its line feed
  pub read_feed : (old new : Option (List ℕ)) → Consumes old new (line ++ 10 ∷ []) → length line ≤ n → IfSome old (λ text. IsRead n text true (record { number = number; line = line; left = new; ended = ended }))
  read_feed None new h l = tt
  read_feed (Some a) None h l = absurd h
  read_feed (Some a) (Some b) h l =
      let e : a ≡ line ++ 10 ∷ b = h ∙ append_assoc line (10 ∷ []) b in
      let f : first_line a ≡ line = ap first_line e ∙ line_before line (10 ∷ b) plain ∙ append-nil line in
      (λ z. not_empty line 10 b (sym e ∙ z), λ _. (sym f, ap Some (sym (ap other_lines e ∙ others_before line (10 ∷ b) plain))), λ m. omega (arith, ap length f))

  -- the last line, if it has a letter
  pub read_last : (old new : Option (List ℕ)) → Consumes old new line → IsAtEnd new → length line ≤ n → (b : Bool) → b ≡ (length line == 0) → IfSome old (λ text. IsRead n text (not b) (record { number = number; line = line; left = new; ended = ended }))
  read_last None new h e l c q = tt
  read_last (Some a) None h e l c q = absurd h
  read_last (Some a) (Some b) h e l c q = rw (e, q ∙ is_empty-length line) (last_line n number ended line a (h ∙ ap (λ zs. line ++ zs) e ∙ append-nil line) plain l)

  -- the front of a line that is too long
  pub read_long : (old new : Option (List ℕ)) → Consumes old new line → n < length line → IfSome old (λ text. IsRead n text true (record { number = number; line = line; left = new; ended = ended }))
  read_long None new h l = tt
  read_long (Some a) None h l = absurd h
  read_long (Some a) (Some b) h l =
      let f : first_line a ≡ line ++ first_line b = ap first_line h ∙ line_before line b plain in
      (λ z. (let k = ap length h ∙ length-append line b in let k0 = ap length z in omega (arith, k, k0)), λ m. absurd (omega (arith, ap length f ∙ length-append line (first_line b))), λ m. l)
