-- Wakers, printed one after another.
use Rattle.std.proofs.Common.{◌≡◌, ℕ, ◌+◌, ◌<◌, List, [], ◌∷◌, ◌++◌, Option, Some, None, length, take, get_or, nat_eq, refl, ap, append_assoc, append-nil}
use Rattle.std.specs.Prelude.{IsTrue, is_none, ◌↔◌, ◌||◌}
use Rattle.std.specs.List.{list_all, list_any}
use Rattle.std.specs.Option.{option_eq}
use Rattle.std.specs.Io.KnownBytes.{Appends}
use Rattle.std.proofs.lemmas.List.{take_more}
use Rattle.esync_base.specs.Rows.{items_of}
use Rattle.esync_words.proofs.Known.{appends_more}
use Rattle.esync_words.specs.Text.{each_text}
use Rattle.esync_words.specs.Diagram.{is_woken}

items_of-append : {A : Type 0} → (xs ys : List (Option A)) → items_of (xs ++ ys) ≡ items_of xs ++ items_of ys
items_of-append [] ys = refl
items_of-append (Some x ∷ xs) ys = ap (λ zs. x ∷ zs) (items_of-append xs ys)
items_of-append (None ∷ xs) ys = items_of-append xs ys

module _ (text : ℕ → List ℕ) where
  each_text-append : (ws vs : List ℕ) → each_text text (ws ++ vs) ≡ each_text text ws ++ each_text text vs
  each_text-append [] vs = refl
  each_text-append (w ∷ ws) vs = rw (each_text-append ws vs) (simp append_assoc)

  text_more : (row : List (Option ℕ)) (i : ℕ) (place : Option ℕ) → i < length row → get_or row i None ≡ place → each_text text (items_of (take (i + 1) row)) ≡ each_text text (items_of (take i row)) ++ each_text text (items_of (place ∷ []))
  text_more row i place h e =
      rw (take_more row i None h, e, items_of-append (take i row) (place ∷ []), each_text-append (items_of (take i row)) (items_of (place ∷ [])))

  -- a waker is printed after those before it
  pub prints_one : (row : List (Option ℕ)) (i w : ℕ) (a b c : Option (List ℕ)) → i < length row → get_or row i None ≡ Some w → Appends a b (each_text text (items_of (take i row))) → Appends b c (text w) → Appends a c (each_text text (items_of (take (i + 1) row)))
  prints_one row i w a b c h e p q =
      rw (text_more row i (Some w) h e) (appends_more a b c _ _ p (rw (append-nil (text w)) q))

  -- an empty place prints nothing
  pub prints_none : (row : List (Option ℕ)) (i : ℕ) (a b : Option (List ℕ)) → i < length row → get_or row i None ≡ None → Appends a b (each_text text (items_of (take i row))) → Appends a b (each_text text (items_of (take (i + 1) row)))
  prints_none row i a b h e p = rw (text_more row i None h e, append-nil (each_text text (items_of (take i row)))) p

  -- so is a number, where each place has one
  pub prints_next : (row : List ℕ) (i n : ℕ) (a b c : Option (List ℕ)) → i < length row → get_or row i 0 ≡ n → Appends a b (each_text text (take i row)) → Appends b c (text n) → Appends a c (each_text text (take (i + 1) row))
  prints_next row i n a b c h e p q =
      rw (take_more row i 0 h, e, each_text-append (take i row) (n ∷ [])) (appends_more a b c _ _ p (rw (append-nil (text n)) q))

-- a row of empty places has no waker
pub free_row : (row : List (Option ℕ)) → IsTrue (list_all is_none row) ↔ (items_of row ≡ [])
free_row [] = (λ h. refl, λ h. refl)
free_row (None ∷ row) = free_row row
free_row (Some w ∷ row) = (λ h. absurd cc, λ h. absurd cc)

-- a place of the row has a waker that is equal to this
pub any_waker : (row : List (Option ℕ)) (w : ℕ) → list_any (λ place. option_eq nat_eq place (Some w)) row ≡ is_woken (items_of row) w
any_waker [] w = refl
any_waker (Some v ∷ row) w = ap (λ b. nat_eq v w || b) (any_waker row w)
any_waker (None ∷ row) w = any_waker row w
