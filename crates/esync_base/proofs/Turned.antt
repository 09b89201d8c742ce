-- The row of a ring as it is read from its front on.
use Rattle.std.proofs.Common.{◌≡◌, ℕ, zero, suc, ◌+◌, ◌-◌, ◌<◌, ◌≤◌, List, [], ◌∷◌, ◌++◌, length, Option, Some, None, refl, sym, ap, ◌∙◌, inl, inr, get_or, set, take, drop, append_assoc, length-drop, length-set, arith}
use Rattle.std.specs.Prelude.{map}
use Rattle.std.specs.List.{remove}
use Rattle.std.proofs.Math.ListN.{get_or-append}
use Rattle.std.proofs.Math.Seq.{take-set-lt}
use Rattle.std.proofs.lemmas.List.{drop-set-lt, drop-set-add, take-set-le, set-append_left, set-append_right, get_or-drop, get_or-take, get_or-append_right, take_more_set, drop_more, drop_all, set_split, append-nil}
use Rattle.esync_base.specs.Ring.{next, slot}
use Rattle.esync_base.specs.Places.{read_from, moved, closed}
use Rattle.esync_base.proofs.Places.{next-inside, next-end, lt_or_le, slot-is}

pub read-set : {A : Type 0} (n f : ℕ) (row : List A) (i : ℕ) (v : A) → length row ≡ n → f ≤ n - 1 → i < n → read_from f (set row (slot n f i) v) ≡ set (read_from f row) i v
read-set n f row i v long first h =
    let many = length-drop f row in
    elim (slot-is n f i first (omega arith)) [
      | inl e ↦ rw (e.1, drop-set-add f row i v, take-set-le f row (f + i) v (omega arith), set-append_left (drop f row) (take f row) i v (omega arith)) refl
      | inr e ↦ rw (e.1, drop-set-lt f row (i - (n - f)) v (omega arith), take-set-lt f row (i - (n - f)) v (omega arith), set-append_right (drop f row) (take f row) (n - f) i v (omega arith) (omega arith)) refl
    ]

pub read-get : {A : Type 0} (n f : ℕ) (row : List A) (i : ℕ) (d : A) → length row ≡ n → f ≤ n - 1 → i < n → get_or row (slot n f i) d ≡ get_or (read_from f row) i d
read-get n f row i d long first h =
    let many = length-drop f row in
    elim (slot-is n f i first (omega arith)) [
      | inl e ↦ rw (e.1, get_or-append (drop f row) (take f row) d i (omega arith), get_or-drop f row i d) refl
      | inr e ↦ rw (e.1, get_or-append_right (drop f row) (take f row) (n - f) i d (omega arith) (omega arith), get_or-take f row (i - (n - f)) d (omega arith)) refl
    ]

-- one place on, the first place is the last one
pub read-next : {A : Type 0} (n f : ℕ) (row : List A) (v : A) → length row ≡ n → f < n → read_from (next n f) (set row f v) ≡ drop 1 (read_from f row) ++ v ∷ []
read-next n f row v long h = elim (lt_or_le (f + 1) n) [
  | inl e ↦ rw (next-inside n f e, drop-set-lt (f + 1) row f v (omega arith), take_more_set row f v (omega arith), drop_more row f v (omega arith)) (sym (append_assoc (drop (f + 1) row) (take f row) (v ∷ [])))
  | inr e ↦ rw (next-end n f (omega arith), append-nil (set row f v), set_split row f v (omega arith), drop_all (suc f) row (omega arith), drop_more row f v (omega arith), drop_all (f + 1) row (omega arith)) refl
]

-- the list after the k items behind an empty place i have gone one place towards it
abbrev pub gathered : {A : Type 0} → List (Option A) → ℕ → ℕ → List (Option A)
gathered xs i zero = xs
gathered xs i (suc k) = gathered (set (set xs (suc i) None) i (get_or xs (suc i) None)) (suc i) k

pub length-closed : {A : Type 0} (n : ℕ) (row : List (Option A)) (gap k : ℕ) → length (closed n row gap k) ≡ length row
length-closed n row gap zero = refl
length-closed n row gap (suc k) =
    length-closed n (moved row (next n gap) gap) (next n gap) k
    ∙ length-set (set row (next n gap) None) gap (get_or row (next n gap) None)
    ∙ length-set row (next n gap) None

pub read-closed : {A : Type 0} (n f : ℕ) (row : List (Option A)) (i k : ℕ) → length row ≡ n → f ≤ n - 1 → i + k < n → read_from f (closed n row (slot n f i) k) ≡ gathered (read_from f row) i k
read-closed n f row i zero long first h = refl
read-closed n f row i (suc k) long first h =
    let v = get_or row (slot n f (suc i)) None in
    let row1 = set row (slot n f (suc i)) None in
    let long1 : length row1 ≡ n = length-set row (slot n f (suc i)) None ∙ long in
    let long2 : length (set row1 (slot n f i) v) ≡ n = length-set row1 (slot n f i) v ∙ long1 in
    let e : read_from f (set row1 (slot n f i) v) ≡ set (set (read_from f row) (suc i) None) i (get_or (read_from f row) (suc i) None) =
    read-set n f row1 i v long1 first (omega arith)
    ∙ ap (λ t. set t i v) (read-set n f row (suc i) None long first (omega arith))
    ∙ ap (set (set (read_from f row) (suc i) None) i) (read-get n f row (suc i) None long first (omega arith)) in
    read-closed n f (set row1 (slot n f i) v) (suc i) k long2 first (omega arith)
    ∙ ap (λ t. gathered t (suc i) k) e

gathered-behind : {A : Type 0} (x : Option A) (xs : List (Option A)) (i k : ℕ) → gathered (x ∷ xs) (suc i) k ≡ x ∷ gathered xs i k
gathered-behind x xs i zero = refl
gathered-behind x xs i (suc k) = gathered-behind x (set (set xs (suc i) None) i (get_or xs (suc i) None)) (suc i) k

gathered-all : {A : Type 0} (xs : List A) (rest : List (Option A)) → gathered (None ∷ (map Some xs ++ rest)) 0 (length xs) ≡ map Some xs ++ None ∷ rest
gathered-all [] rest = refl
gathered-all (x ∷ xs) rest = gathered-behind (Some x) (None ∷ (map Some xs ++ rest)) 0 (length xs) ∙ ap (λ t. Some x ∷ t) (gathered-all xs rest)

-- what was behind an item that is taken out closes up
pub gathered-removed : {A : Type 0} (xs : List A) (rest : List (Option A)) (i k : ℕ) → k + 1 + i ≡ length xs → gathered (set (map Some xs ++ rest) i None) i k ≡ map Some (remove xs i) ++ None ∷ rest
gathered-removed [] rest i k h = absurd (omega arith)
gathered-removed (x ∷ xs) rest zero k h = ap (gathered (None ∷ (map Some xs ++ rest)) 0) (let e : k ≡ length xs = omega arith in e) ∙ gathered-all xs rest
gathered-removed (x ∷ xs) rest (suc i) k h = gathered-behind (Some x) (set (map Some xs ++ rest) i None) i k ∙ ap (λ t. Some x ∷ t) (gathered-removed xs rest i k (omega arith))
