-- A ring after each of its calls.
use Rattle.std.proofs.Common.{◌≡◌, ℕ, zero, suc, ◌+◌, ◌-◌, ◌<◌, ◌≤◌, Bool, true, false, not, List, [], ◌∷◌, ◌++◌, length, Option, Some, None, refl, sym, ap, ◌∙◌, inl, inr, ◌⊎◌, ◌≢◌, get_or, set, take, drop, append_assoc, length-append, length-set, arith}
use Rattle.std.specs.Prelude.{map, slice_get, ◌↔◌, IsTrue, IsSome}
use Rattle.std.specs.List.{remove}
use Rattle.std.proofs.Math.ListN.{replicate}
use Rattle.std.proofs.lemmas.List.{length-replicate, append-nil, get_or-set_other, set-set, replicate_more, take-append-drop, drop-replicate, take-replicate, replicate-append-replicate}
use Rattle.std.proofs.Math.Seq.{take-append_seam, drop-append_seam}
use Rattle.std.proofs.lemmas.List.Edits.{length-remove}
use Rattle.std.proofs.lemmas.List.{length_push}
use Rattle.esync_base.specs.Rows.{items_of, row_of}
use Rattle.esync_base.specs.Ring.{Ringed, next, slot}
use Rattle.esync_base.specs.Places.{read_from, items_from, IsRing, closed, HoldsBehind}
use Rattle.esync_base.proofs.Lists.{items_of-row, set_is, get-row}
use Rattle.esync_base.proofs.Places.{slot-is, next-within, lt_or_le, slot-next, slot-add, slot-round, slot-apart}
use Rattle.esync_base.proofs.Stretches.{slot-within}
use Rattle.esync_base.proofs.Turned.{read-set, read-get, read-next, length-closed, read-closed, gathered, gathered-removed}

-- a row that is read as these items is a ring of them
pub laid_as : {A : Type 0} (n : ℕ) (row : List (Option A)) (start end : ℕ) (full : Bool) (xs : List A)
    → read_from start row ≡ row_of n xs → length row ≡ n → length xs ≤ n → start ≤ n - 1 → end ≡ slot n start (length xs) → (IsTrue full ↔ ((length xs ≡ n) × (0 < n)))
    → IsRing n row start end full × (items_from start row ≡ xs)
laid_as n row start end full xs laid places fits first last filled =
    let is : items_from start row ≡ xs = ap items_of laid ∙ items_of-row xs (n - length xs) in (
      record {
        laid = laid ∙ sym (ap (row_of n) is);
        places = places;
        fits = rw is fits;
        first = first;
        last = rw is last;
        filled = rw is filled;
      },
      is,
    )

pub new_ring : {A : Type 0} (n start : ℕ) → start ≤ n - 1 → IsRing {A = A} n (replicate n None) start start false × (items_from {A = A} start (replicate n None) ≡ [])
new_ring n start h =
    laid_as n (replicate n None) start start false []
    (ap (λ t. t ++ take start (replicate n None)) (drop-replicate start n None)
    ∙ ap (λ t. replicate (n - start) None ++ t) (take-replicate start n None (omega arith))
    ∙ replicate-append-replicate (n - start) start None
    ∙ ap (λ k. replicate k None) (let e : n - start + start ≡ n - 0 = omega arith in e))
    (length-replicate n None) (omega arith) h refl (λ t. absurd cc, λ m. absurd (omega arith))

pub same_ring : {A : Type 0} (r s : Ringed A) → r.items ≡ s.items → r.front ≡ s.front → r ≡ s
same_ring r s e f = λ i. record { items = e i; front = f i }

pub set_or_not : {X : Type 0} (xs : List (Option X)) (i j : ℕ) → get_or xs j None ≡ None → get_or (set xs i None) j None ≡ None
set_or_not [] i j h = h
set_or_not (x ∷ xs) zero zero h = refl
set_or_not (x ∷ xs) zero (suc j) h = h
set_or_not (x ∷ xs) (suc i) zero h = h
set_or_not (x ∷ xs) (suc i) (suc j) h = set_or_not xs i j h

pub none_after_none : {X : Type 0} (xs : List (Option X)) (i : ℕ) → get_or (set xs i None) i None ≡ None
none_after_none [] i = refl
none_after_none (x ∷ xs) zero = refl
none_after_none (x ∷ xs) (suc i) = none_after_none xs i

nothing_in : {X : Type 0} (m i : ℕ) → get_or (replicate {A = Option X} m None) i None ≡ None
nothing_in zero i = refl
nothing_in (suc m) zero = refl
nothing_in (suc m) (suc i) = nothing_in m i

nothing_behind : {X : Type 0} (xs : List X) (m : ℕ) → get_or (map Some xs ++ replicate m None) (length xs) None ≡ None
nothing_behind [] m = nothing_in m 0
nothing_behind (x ∷ xs) m = nothing_behind xs m

some_at : {X : Type 0} (xs : List X) (i : ℕ) → i < length xs → IsSome (slice_get xs i)
some_at [] i h = absurd (omega arith)
some_at (x ∷ xs) zero h = refl
some_at (x ∷ xs) (suc i) h = some_at xs i (omega arith)

-- one step of a gap towards the back: the place behind it is free then, and those behind that one are as they were
module _ {A : Type 0} (n : ℕ) (row : List (Option A)) (gap k : ℕ) (below : gap < n) (fewer : suc k < n) (long : length row ≡ n) (free : get_or row gap None ≡ None) (held : HoldsBehind n row gap (suc k)) where
  gap_apart : (j : ℕ) → suc j < n → slot n gap (suc j) ≢ gap
  gap_apart j h e = absurd (let m = slot-apart n gap (suc j) (omega arith) (omega arith) (omega arith) e in omega arith)

  pub gap_free : (v : Option A) → get_or (set (set row (next n gap) None) gap v) (next n gap) None ≡ None
  gap_free v =
      get_or-set_other (set row (next n gap) None) gap (next n gap) v None (gap_apart 0 (omega arith))
      ∙ none_after_none row (next n gap)

  pub gap_held : (v : Option A) → HoldsBehind n (set (set row (next n gap) None) gap v) (next n gap) k
  gap_held v j h =
      let at : slot n (next n gap) (suc j) ≡ slot n gap (suc (suc j)) = sym (slot-next n gap (suc j)) in
      let same : get_or (set (set row (next n gap) None) gap v) (slot n (next n gap) (suc j)) None ≡ get_or row (slot n gap (suc (suc j))) None =
      get_or-set_other (set row (next n gap) None) gap _ v None (λ e. gap_apart (suc j) (omega arith) (sym at ∙ e))
      ∙ get_or-set_other row (next n gap) _ None None (λ e. absurd (let w = next-within n gap in let m = slot-apart n (next n gap) (suc j) w (omega arith) (omega arith) e in omega arith))
      ∙ ap (λ p. get_or row p None) at in
      rw same (held (suc j) (omega arith))

turned-same : {X : Type 0} (xs ys : List X) (m : ℕ) (v : X) → xs ++ ys ≡ replicate m v → ys ++ xs ≡ replicate m v
turned-same xs ys m v h =
    let l : length xs + length ys ≡ m = sym (length-append xs ys) ∙ ap length h ∙ length-replicate m v in
    let a : xs ≡ replicate (length xs) v = sym (take-append_seam xs ys) ∙ ap (take (length xs)) h ∙ take-replicate (length xs) m v (omega arith) in
    let b : ys ≡ replicate (m - length xs) v = sym (drop-append_seam xs ys) ∙ ap (drop (length xs)) h ∙ drop-replicate (length xs) m v in
    ap (λ t. t ++ xs) b
    ∙ ap (λ t. replicate (m - length xs) v ++ t) a
    ∙ replicate-append-replicate (m - length xs) (length xs) v
    ∙ ap (λ k. replicate k v) (let e : m - length xs + length xs ≡ m = omega arith in e)

true_or_false : (b : Bool) → (b ≡ true) ⊎ (b ≡ false)
true_or_false true = inl refl
true_or_false false = inr refl

pub not_true : (b : Bool) → not b ≡ true → b ≡ false
not_true true e = cc
not_true false e = refl

nil_or_cons : {X : Type 0} (xs : List X) → (xs ≡ []) ⊎ ((x : X) × (ys : List X) × (xs ≡ x ∷ ys))
nil_or_cons [] = inl refl
nil_or_cons (x ∷ xs) = inr (x, xs, refl)

module _ {A : Type 0} (n : ℕ) (row : List (Option A)) (start end : ℕ) (full : Bool) (r : IsRing n row start end full) where
  abbrev held : List A
  held = items_from start row

  -- a flag that is down says that there is room, or no place at all
  pub room : full ≡ false → (length held < n) ⊎ (n ≡ 0)
  room e =
      let f = r.fits in
      elim (lt_or_le (length held) n) [ inl h ↦ inl h | inr h ↦ elim (lt_or_le 0 n) [ inl z ↦ absurd (let t = r.filled.1 (omega arith, z) in cc) | inr z ↦ inr (omega arith) ] ]

  -- the place behind the last item comes round to the first just where the ring is full
  pub is_round : (k : ℕ) → 0 < k → k ≤ n → (slot n start k ≡ start) ↔ (k ≡ n)
  is_round k some h = (λ e. slot-apart n start k r.first some h e, λ e. ap (slot n start) e ∙ slot-round n start r.first)

  pub item_at : (i : ℕ) (d : Option A) → i < length held → get_or row (slot n start i) d ≡ slice_get held i
  item_at i d h =
      let f = r.fits in
      read-get n start row i d r.places r.first (omega arith)
      ∙ ap (λ t. get_or t i d) r.laid
      ∙ get-row held (replicate (n - length held) None) i d h

  pub free_at_end : length held < n → get_or row end None ≡ None
  free_at_end h =
      ap (λ k. get_or row k None) r.last
      ∙ read-get n start row (length held) None r.places r.first h
      ∙ ap (λ t. get_or t (length held) None) r.laid
      ∙ nothing_behind held (n - length held)

  pub held_at : (i : ℕ) → i < length held → IsSome (get_or row (slot n start i) None)
  held_at i h = rw (item_at i None h) (some_at held i h)

  -- no place of an empty ring holds an item
  pub empty_row : held ≡ [] → row ≡ replicate n None
  empty_row e =
      let g = r.first in
      let p = r.places in
      let all : read_from start row ≡ replicate n None = r.laid ∙ ap (row_of n) e ∙ ap (λ k. replicate k None) (let z : n - 0 ≡ n = omega arith in z) in
      sym (take-append-drop start row) ∙ turned-same (drop start row) (take start row) n None all

  pub pushed : length held < n → (w : A) (full2 : Bool) → (IsTrue full2 ↔ (next n end ≡ start))
      → IsRing n (set row end (Some w)) start (next n end) full2 × (items_from start (set row end (Some w)) ≡ held ++ w ∷ [])
  pushed h w full2 same =
      let e : next n end ≡ slot n start (suc (length held)) = ap (next n) r.last in
      let more : length (held ++ w ∷ []) ≡ suc (length held) = omega (arith, length_push held w) in
      let round = is_round (suc (length held)) (omega arith) (omega arith) in
      laid_as n (set row end (Some w)) start (next n end) full2 (held ++ w ∷ [])
      (ap (λ p. read_from start (set row p (Some w))) r.last
      ∙ read-set n start row (length held) (Some w) r.places r.first h
      ∙ set_is n (read_from start row) (length held) w (record { shape = r.laid; count = refl; fits = r.fits }) h)
      (length-set row end (Some w) ∙ r.places)
      (omega arith)
      r.first
      (e ∙ sym (ap (slot n start) more))
      (λ t. (more ∙ round.0 (sym e ∙ same.0 t), omega arith), λ l. same.1 (e ∙ round.1 (sym more ∙ l.0)))

  pub popped : (x : A) (xs : List A) → held ≡ x ∷ xs
      → IsRing n (set row start None) (next n start) end false × (items_from (next n start) (set row start None) ≡ xs)
  popped x xs e =
      let l = ap length e in
      let f = r.fits in
      let k : n - length (x ∷ xs) + 1 ≡ n - length xs = omega arith in
      laid_as n (set row start None) (next n start) end false xs
      (read-next n start row None r.places (let g = r.first in omega arith)
      ∙ ap (λ t. drop 1 t ++ None ∷ []) (r.laid ∙ ap (row_of n) e)
      ∙ append_assoc (map Some xs) (replicate (n - length (x ∷ xs)) None) (None ∷ [])
      ∙ ap (λ t. map Some xs ++ t) (replicate_more (n - length (x ∷ xs)) None ∙ ap (λ m. replicate m None) k))
      (length-set row start None ∙ r.places)
      (omega arith)
      (next-within n start)
      (r.last ∙ ap (slot n start) l ∙ slot-next n start (length xs))
      (λ t. absurd cc, λ m. absurd (omega arith))

  set-among : (xs : List A) (rest : List (Option A)) (i : ℕ) (w : A) → i < length xs → set (map Some xs ++ rest) i (Some w) ≡ map Some (set xs i w) ++ rest
  set-among [] rest i w h = absurd (omega arith)
  set-among (x ∷ xs) rest zero w h = refl
  set-among (x ∷ xs) rest (suc i) w h = ap (λ t. Some x ∷ t) (set-among xs rest i w (omega arith))

  pub replaced : (i : ℕ) → i < length held → (w : A) → IsRing n (set row (slot n start i) (Some w)) start end full × (items_from start (set row (slot n start i) (Some w)) ≡ set held i w)
  replaced i h w =
      let f = r.fits in
      let l = length-set held i w in
      laid_as n (set row (slot n start i) (Some w)) start end full (set held i w)
      (read-set n start row i (Some w) r.places r.first (omega arith)
      ∙ ap (λ t. set t i (Some w)) r.laid
      ∙ set-among held (replicate (n - length held) None) i w h
      ∙ ap (λ m. map Some (set held i w) ++ replicate (n - m) None) (sym l))
      (length-set row (slot n start i) (Some w) ∙ r.places)
      (omega arith)
      r.first
      (r.last ∙ sym (ap (slot n start) l))
      (λ t. (l ∙ (r.filled.0 t).0, (r.filled.0 t).1), λ m. r.filled.1 (sym l ∙ m.0, m.1))

  pub removed : (i k : ℕ) → i < length held → k + 1 + i ≡ length held
      → IsRing n (closed n (set row (slot n start i) None) (slot n start i) k) start (slot n (slot n start i) k) false
      × (items_from start (closed n (set row (slot n start i) None) (slot n start i) k) ≡ remove held i)
  removed i k h count =
      let f = r.fits in
      let row1 = set row (slot n start i) None in
      let long : length row1 ≡ n = length-set row (slot n start i) None ∙ r.places in
      let l = length-remove held i h in
      let m : suc (n - length held) ≡ n - length (remove held i) = omega arith in
      laid_as n (closed n row1 (slot n start i) k) start (slot n (slot n start i) k) false (remove held i)
      (read-closed n start row1 i k long r.first (omega arith)
      ∙ ap (λ t. gathered t i k) (read-set n start row i None r.places r.first (omega arith) ∙ ap (λ t. set t i None) r.laid)
      ∙ gathered-removed held (replicate (n - length held) None) i k count
      ∙ ap (λ j. map Some (remove held i) ++ replicate j None) m)
      (length-closed n row1 (slot n start i) k ∙ long)
      (omega arith)
      r.first
      (slot-add n start i k ∙ ap (slot n start) (let e : i + k ≡ length (remove held i) = omega arith in e))
      (λ t. absurd cc, λ e. absurd (omega arith))

  -- an empty ring can begin at place 0
  pub cleared : held ≡ [] → IsRing n row 0 0 full × (items_from 0 row ≡ [])
  cleared e =
      let p = r.places in
      laid_as n row 0 0 full []
      (append-nil row ∙ empty_row e ∙ ap (λ k. replicate k None) (let z : n ≡ n - 0 = omega arith in z))
      r.places (omega arith) (omega arith) refl
      (λ t. (sym (ap length e) ∙ (r.filled.0 t).0, (r.filled.0 t).1), λ m. r.filled.1 (ap length e ∙ m.0, m.1))

  pub is_empty : ((start ≡ end) × (full ≡ false)) ↔ (held ≡ [])
  is_empty = (
    λ h. elim (nil_or_cons held) [
      | inl e ↦ e
      | inr c ↦
          let l = ap length c.2 in
          let f = r.fits in
          absurd (let t = r.filled.1 ((is_round (length held) (omega arith) f).0 (sym (h.0 ∙ r.last)), omega arith) in cc)
    ],
    λ e. (sym (r.last ∙ ap (slot n start) (ap length e)), elim (true_or_false full) [ inl t ↦ absurd (let l = ap length e in let k = r.filled.0 t in omega arith) | inr t ↦ t ]),
  )

  -- how many items lie between the two ends
  pub between : full ≡ false → ((end < start) × (end + (n - start) ≡ length held)) ⊎ ((start ≤ end) × (end - start ≡ length held) × (end - start ≤ n))
  between e =
      let h = room e in
      let f = r.fits in
      let l = r.last in
      elim (slot-is n start (length held) r.first f) [ inl s ↦ inr (omega arith, omega arith, omega arith) | inr s ↦ elim h [ inl k ↦ inl (omega arith, omega arith) | inr k ↦ inr (omega arith, omega arith, omega arith) ] ]

  -- the same of what a caller sees
  module _ (seen : Ringed A) (is : record { items = held; front = start } ≡ seen) where
    pub is_held : (i place : ℕ) → i < length seen.items → place ≡ slot n seen.front i → IsSome (get_or row place None)
    is_held i place h at =
        let h = rw (← is) at h in
        let at = rw (← is) at at in
        rw at (held_at i h)

    pub item_seen : (i place : ℕ) (x : A) → i < length seen.items → place ≡ slot n seen.front i → get_or row place None ≡ Some x → Some x ≡ slice_get seen.items i
    item_seen i place x h at e =
        let h = rw (← is) at h in
        let at = rw (← is) at at in
        rw (← is) (sym e ∙ ap (λ k. get_or row k None) at ∙ item_at i None h)

    pub replaced_seen : (i place : ℕ) → i < length seen.items → place ≡ slot n seen.front i → (w : A) (row1 row2 : List (Option A)) → row1 ≡ set row place None → row2 ≡ set row1 place (Some w)
        → IsRing n row2 start end full × (items_from start row2 ≡ set seen.items i w)
    replaced_seen i place h at w row1 row2 e1 e2 =
        let h = rw (← is) at h in
        let at = rw (← is) at at in
        rw (e2, e1, set-set row place None (Some w), at, ← is) (replaced i h w)

    -- the row out of which an item was taken: its place is free, and the items behind it are there
    pub holds_behind : (i place k : ℕ) → i < length seen.items → place ≡ slot n seen.front i → k + 1 + i ≡ length seen.items → (row1 : List (Option A)) → row1 ≡ set row place None
        → (k < n) × (length row1 ≡ n) × (get_or row1 place None ≡ None) × HoldsBehind n row1 place k
    holds_behind i place k h at count row1 e1 =
        let h = rw (← is) at h in
        let at = rw (← is) at at in
        let count = rw (← is) at count in
        let f = r.fits in (
          omega arith,
          ap length e1 ∙ length-set row place None ∙ r.places,
          ap (λ t. get_or t place None) e1 ∙ none_after_none row place,
          λ j l.
              let there : slot n place (suc j) ≡ slot n start (i + suc j) = ap (λ p. slot n p (suc j)) at ∙ slot-add n start i (suc j) in
              let apart : slot n place (suc j) ≢ place = λ e. absurd (let w = slot-within n start i r.first (omega arith) in let m = slot-apart n place (suc j) (omega arith) (omega arith) (omega arith) e in omega arith) in
              rw (e1, get_or-set_other row place (slot n place (suc j)) None None apart, there) (held_at (i + suc j) (omega arith)),
        )

    pub removed_seen : (i place k : ℕ) → i < length seen.items → place ≡ slot n seen.front i → k + 1 + i ≡ length seen.items
        → (row1 row2 : List (Option A)) (end2 : ℕ) → row1 ≡ set row place None → row2 ≡ closed n row1 place k → end2 ≡ slot n place k
        → IsRing n row2 start end2 false × (items_from start row2 ≡ remove seen.items i)
    removed_seen i place k h at count row1 row2 end2 e1 e2 e3 =
        let h = rw (← is) at h in
        let at = rw (← is) at at in
        let count = rw (← is) at count in
        rw (e2, e3, e1, at, ← is) (removed i k h count)

    -- the ring that stays when its first item leaves
    pub record Pops (x : A) (row2 : List (Option A)) (start2 : ℕ) : Type 0 where
      pub items : seen.items ≡ x ∷ items_from start2 row2
      pub ring : IsRing n row2 start2 end false
      pub places : (i : ℕ) → slot n start2 i ≡ slot n seen.front (suc i)

    pub pops : (x : A) (row2 : List (Option A)) (start2 : ℕ) → seen.items ≢ [] → get_or row start None ≡ Some x → row2 ≡ set row start None → start2 ≡ next n start → Pops x row2 start2
    pops x row2 start2 some e e2 e3 = elim (nil_or_cons held) [
      | inl z ↦ absurd (some (rw (← is) z))
      | inr c ↦
          let p = popped c.0 c.1 c.2 in
          let l = ap length c.2 in
          let same : c.0 ≡ x = (let t = sym e ∙ item_at 0 None (omega arith) ∙ ap (λ xs. slice_get xs 0) c.2 in cc) in
          record {
            items = rw (e2, e3, p.1, ← is) (c.2 ∙ ap (λ y. y ∷ c.1) same);
            ring = rw (e2, e3) p.0;
            places = λ i. ap (λ f. slot n f i) e3 ∙ sym (slot-next n start i) ∙ ap (λ (v : Ringed A). slot n v.front (suc i)) is;
          }
    ]
