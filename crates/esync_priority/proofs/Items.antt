-- Rows whose first places hold the items.
use Rattle.std.proofs.Common.{◌≡◌, ◌≢◌, ℕ, zero, suc, ◌+◌, ◌-◌, ◌<◌, ◌≤◌, Bool, false, List, [], ◌∷◌, ◌++◌, length, get_or, take, drop, set, Some, None, Option, refl, sym, subst, ◌∙◌, ap, ◌⊎◌, inl, inr, append_assoc, arith}
use Rattle.std.specs.Prelude.{map, IsPermutation, IsSome, slice_get}
use Rattle.std.specs.List.{swap}
use Rattle.std.proofs.lemmas.List.{map-append, map-set, length-set, length-map, length-replicate, length-append, set-set, get_or-set_other, get_or-set_same, get_or-map as get_or-map_at}
use Rattle.std.proofs.Math.ListN.{get_or-map, get_or-append, replicate}
use Rattle.std.proofs.Math.Seq.{set-append_seam, take-append_seam, drop-append_seam, get_or-append_seam, get_or-append_right}
use Rattle.std.proofs.lemmas.List.Sorted.{length_permutation, IsPermutation-refl, IsPermutation-sym, IsPermutation-cons, IsPermutation-swap, IsPermutation-to_front, IsPermutation-trans, IsPermutation-keeps}
use Rattle.std.proofs.lemmas.Option.{same_Some}
use Rattle.esync_base.specs.Rows.{items_of, IsRow}
use Rattle.esync_base.proofs.Lists.{items_of-row, items_of-all, items_of-replicate, items_of-set, row_new, row_push}
use Rattle.esync_priority.specs.Heap.{above_in_place, IsHeap, IsHeapBut, IsHeapRow, IsHole}
use Rattle.esync_priority.specs.Prio.{IsTop}
use Rattle.esync_priority.proofs.Heap.{first_is_top, opened, same_or_other}
use Rattle.esync_priority.proofs.Places.{place-irreflexive, place-ties}

swap-map : {A : Type 0} (xs : List A) (i j : ℕ) → swap (map Some xs) i j ≡ map Some (swap xs i j)
swap-map [] i j = refl
swap-map {A = A} (d ∷ ys) i j =
    let f = λ (x : A). Some x in
    rw (map-set f (set (d ∷ ys) i (get_or (d ∷ ys) j d)) j (get_or (d ∷ ys) i d), map-set f (d ∷ ys) i (get_or (d ∷ ys) j d), ← get_or-map f (d ∷ ys) j d, ← get_or-map f (d ∷ ys) i d) refl

-- an exchange of places exchanges their items
module _ {A : Type 0} (xs : List A) where
  Holds : List (Option A) → Type 0
  Holds row = (ys : List A) × (row ≡ map Some ys) × IsPermutation xs ys

  holds : (row new : List (Option A)) → row ≡ map Some xs → IsPermutation row new → Holds new
  unfolding Holds
  holds row new whole moved =
      IsPermutation-keeps row Holds (xs, whole, IsPermutation-refl xs)
      (λ l i j hi hj h.
      let same : length l ≡ length h.0 = ap length h.1 ∙ length-map h.0 Some in
      (swap h.0 i j, ap (λ (r : List (Option A)). swap r i j) h.1 ∙ swap-map h.0 i j, IsPermutation-trans xs h.0 (swap h.0 i j) h.2 (IsPermutation-swap h.0 (swap h.0 i j) i j (omega arith) (omega arith) refl)))
      new moved

-- places that all hold an item, which are these ones in some order
record Moved {A : Type 0} (xs : List A) (new : List (Option A)) : Type 0 where
  whole : new ≡ map Some (items_of new)
  moved : IsPermutation xs (items_of new)
  many : length new ≡ length xs

moved_row : {A : Type 0} (xs : List A) (row new : List (Option A)) → row ≡ map Some xs → IsPermutation row new → Moved xs new
unfolding Holds
moved_row xs row new whole moved =
    let h = holds xs row new whole moved in
    record {
      whole = rw (h.1, items_of-all) refl;
      moved = rw (h.1, items_of-all) h.2;
      many = length_permutation row new moved ∙ ap length whole ∙ length-map xs Some;
    }

some_at : {A : Type 0} (xs : List A) (rest : List (Option A)) (k : ℕ) (d : Option A) → k < length xs → IsSome (get_or (map Some xs ++ rest) k d)
some_at [] rest k d h = absurd (omega arith)
some_at (x ∷ xs) rest zero d h = refl
some_at (x ∷ xs) rest (suc k) d h = some_at xs rest k d (omega arith)

some_in : {A : Type 0} (xs : List A) (k : ℕ) (d : Option A) → k < length xs → IsSome (get_or (map Some xs) k d)
some_in [] k d h = absurd (omega arith)
some_in (x ∷ xs) zero d h = refl
some_in (x ∷ xs) (suc k) d h = some_in xs k d (omega arith)

-- a place of a row that holds an item
pub held_below : {A : Type 0} (n : ℕ) (row : List (Option A)) (len k : ℕ) (d : Option A) → IsRow n row len → k < len → IsSome (get_or row k d)
held_below n row len k d r h = rw r.shape (some_at (items_of row) (replicate (n - length (items_of row)) None) k d (omega (arith, r.count, h)))

pub none_in : {A : Type 0} (m k : ℕ) → get_or (replicate {A = Option A} m None) k None ≡ None
none_in zero k = refl
none_in (suc m) zero = refl
none_in (suc m) (suc k) = none_in m k

-- a place of a row that is free
pub free_behind : {A : Type 0} (n : ℕ) (row : List (Option A)) (len k : ℕ) → IsRow n row len → len ≤ k → get_or row k None ≡ None
free_behind n row len k r h =
    let xs = items_of row in
    let front = map Some xs in
    let rest = replicate (n - length xs) None in
    let many = length-map xs Some in
    ap (λ (l : List (Option _)). get_or l k None) r.shape ∙ get_or-append_right front rest k None (omega (arith, many, r.count, h)) ∙ none_in (n - length xs) (k - length front)

pub row_length : {A : Type 0} (n : ℕ) (row : List (Option A)) (len : ℕ) → IsRow n row len → length row ≡ n
row_length {A = A} n row len r =
    let xs = items_of row in
    ap length r.shape ∙ length-append (map Some xs) (replicate (n - length xs) None) ∙ rw (length-map xs Some, length-replicate {A = Option A} (n - length xs) None) (omega (arith, r.fits))

items_of-front : {A : Type 0} (m : ℕ) (front rest : List (Option A)) → front ≡ map Some (items_of front) → rest ≡ replicate m None → items_of (front ++ rest) ≡ items_of front
items_of-front m front rest whole e = ap items_of (ap (λ (f : List (Option _)). f ++ rest) whole ∙ ap (λ (r : List (Option _)). map Some (items_of front) ++ r) e) ∙ items_of-row (items_of front) m

-- a heap, and free places behind it
heap_row : {A : Type 0} (above : A → A → Bool) (n len m : ℕ) (front rest : List (Option A)) → front ≡ map Some (items_of front) → length front ≡ len → rest ≡ replicate m None → len + m ≡ n
    → IsHeap (above_in_place above) None front → IsHeapRow above n (front ++ rest) len
heap_row above n len m front rest whole l e s heap =
    let xs = items_of front in
    let same = items_of-front m front rest whole e in
    let many : length xs ≡ len = sym (length-map xs Some) ∙ sym (ap length whole) ∙ l in
    let left : m ≡ n - length xs = omega (arith, many, s) in
    record {
      items = record {
        shape = rw same (ap (λ (f : List (Option _)). f ++ rest) whole ∙ ap (λ (r : List (Option _)). map Some xs ++ r) (e ∙ ap (λ j. replicate j None) left));
        count = rw same (sym many);
        fits = rw same (omega (arith, many, s));
      };
      heap = subst (λ (r : List (Option _)). IsHeap (above_in_place above) None r) (whole ∙ ap (λ ys. map Some ys) (sym same)) heap;
    }

cut : {A : Type 0} (row front rest : List A) (k : ℕ) → row ≡ front ++ rest → length front ≡ k → (take k row ≡ front) × (drop k row ≡ rest)
cut row front rest k e l = rw (e, ← l) (take-append_seam front rest, drop-append_seam front rest)

-- a row with room behind its items
module _ {A : Type 0} (above : A → A → Bool) (n : ℕ) (row : List (Option A)) (last : ℕ) (r : IsHeapRow above n row last) (room : last < n) where
  abbrev held : List A
  held = items_of row

  many : length (map (λ (x : A). Some x) held) ≡ last
  many = length-map held Some ∙ sym r.items.count

  open_at_end : (take (last + 1) row ≡ map Some held ++ None ∷ []) × (drop (last + 1) row ≡ replicate (n - (last + 1)) None)
  open_at_end =
      let k : n - length held ≡ suc (n - (last + 1)) = omega (arith, r.items.count, room) in
      let front = map Some held ++ None ∷ [] in
      cut row front (replicate (n - (last + 1)) None) (last + 1)
      (r.items.shape ∙ ap (λ j. map Some held ++ replicate j None) k ∙ sym (append_assoc (map Some held) (None ∷ []) (replicate (n - (last + 1)) None)))
      (length-append (map Some held) (None ∷ []) ∙ ap (λ j. j + 1) many)

  pub hole_at_end : IsHole (take (last + 1) row) last
  hole_at_end =
      let l = length-append (map Some held) (None ∷ []) in
      rw open_at_end.0 (record {
        free = rw (← many) (get_or-append_seam (map Some held) None [] None);
        others = λ k h apart. some_at held (None ∷ []) k None (omega (arith, many, r.items.count, l, h, apart));
      })

  pub heap_at_end : IsHeapBut (above_in_place above) None (take (last + 1) row) last
  heap_at_end =
      let l = length-append (map Some held) (None ∷ []) in
      rw open_at_end.0 (opened (above_in_place above) None (map Some held) (map Some held ++ None ∷ []) last
      (λ k apart h. (omega (arith, many, l, h, apart), get_or-append (map Some held) (None ∷ []) None k (omega (arith, many, l, h, apart))))
      (λ p k g h. let b = h.behind in let i = h.inside in omega (arith, many, l, b, i))
      r.heap)

  module _ (x : A) (new : List (Option A)) (moved : IsPermutation (set (take (last + 1) row) last (Some x)) new) where
    put : Moved (held ++ x ∷ []) new
    put = moved_row (held ++ x ∷ []) (set (take (last + 1) row) last (Some x)) new
        (ap (λ (f : List (Option A)). set f last (Some x)) open_at_end.0
        ∙ ap (λ i. set (map Some held ++ None ∷ []) i (Some x)) (sym many)
        ∙ set-append_seam (map Some held) None [] (Some x)
        ∙ sym (map-append Some held (x ∷ [])))
        moved

    pub pushed_heap : IsHeap (above_in_place above) None new → IsHeapRow above n (new ++ drop (last + 1) row) (last + 1)
    pushed_heap heap =
        heap_row above n (last + 1) (n - (last + 1)) new (drop (last + 1) row) put.whole (put.many ∙ length-append held (x ∷ []) ∙ ap (λ j. j + 1) (sym r.items.count)) open_at_end.1 (omega (arith, room)) heap

    pub pushed_items : IsPermutation (x ∷ held) (items_of (new ++ drop (last + 1) row))
    pushed_items =
        rw (items_of-front (n - (last + 1)) new (drop (last + 1) row) put.whole open_at_end.1)
        (IsPermutation-trans (x ∷ held) (held ++ x ∷ []) (items_of new) (IsPermutation-sym (held ++ x ∷ []) (x ∷ held) (IsPermutation-to_front held x)) put.moved)

ends : {A : Type 0} (xs : List A) (k : ℕ) → length xs ≡ suc k → (z : A) × (xs ≡ take k xs ++ z ∷ []) × (length (take k xs) ≡ k)
ends [] k h = absurd (omega arith)
ends (x ∷ []) zero h = (x, refl, refl)
ends (x ∷ y ∷ xs) zero h = absurd (omega arith)
ends (x ∷ xs) (suc k) h = let e = ends xs k (omega arith) in (e.0, ap (λ ys. x ∷ ys) e.1, ap (λ j. suc j) e.2)

first_is : {A : Type 0} (xs : List A) → 0 < length xs → (x : A) × (ys : List A) × (xs ≡ x ∷ ys)
first_is [] h = absurd (omega arith)
first_is (x ∷ xs) h = (x, xs, refl)

-- a row that holds an item at least: its last one is taken
module _ {A : Type 0} (above : A → A → Bool) (n : ℕ) (row : List (Option A)) (last : ℕ) (r : IsHeapRow above n row (last + 1)) where
  abbrev all : List A
  all = items_of row

  abbrev end : (z : A) × (all ≡ take last all ++ z ∷ []) × (length (take last all) ≡ last)
  end = ends all last (omega (arith, r.items.count))

  abbrev init : List A
  init = take last all

  long : length (map (λ (x : A). Some x) init) ≡ last
  long = length-map init Some ∙ end.2

  form : row ≡ map Some init ++ Some end.0 ∷ replicate (n - length all) None
  form = r.items.shape
      ∙ ap (λ ys. map Some ys ++ replicate (n - length all) None) end.1
      ∙ ap (λ (f : List (Option A)). f ++ replicate (n - length all) None) (map-append Some init (end.0 ∷ []))
      ∙ append_assoc (map Some init) (Some end.0 ∷ []) (replicate (n - length all) None)

  last_item : (d : Option A) → get_or row last d ≡ Some end.0
  last_item d = ap (λ (l : List (Option A)). get_or l last d) form ∙ ap (λ i. get_or (map Some init ++ Some end.0 ∷ replicate (n - length all) None) i d) (sym long) ∙ get_or-append_seam (map Some init) (Some end.0) (replicate (n - length all) None) d

  shorter : (take last (set row last None) ≡ map Some init) × (drop last (set row last None) ≡ replicate (n - last) None)
  shorter =
      let rest = replicate (n - length all) None in
      let k : suc (n - length all) ≡ n - last = omega (arith, r.items.count, r.items.fits) in
      cut (set row last None) (map Some init) (replicate (n - last) None) last
      (ap (λ (l : List (Option A)). set l last None) form ∙ ap (λ i. set (map Some init ++ Some end.0 ∷ rest) i None) (sym long) ∙ set-append_seam (map Some init) (Some end.0) rest None ∙ ap (λ j. map Some init ++ replicate j None) k)
      long

  module _ (z : A) (d : Option A) (was : get_or row last d ≡ Some z) where
    split_off : all ≡ init ++ z ∷ []
    split_off = end.1 ∙ ap (λ y. init ++ y ∷ []) (same_Some end.0 z (sym (last_item d) ∙ was))

    module _ (some : 0 < last) where
      pub top_item : (e : Option A) → IsSome (get_or (take last (set row last None)) 0 e)
      top_item e = rw shorter.0 (some_in init 0 e (omega (arith, some, long, length-map init (λ (x : A). Some x))))

      pub hole_on_top : IsHole (set (take last (set row last None)) 0 None) 0
      hole_on_top =
          let front = map (λ (x : A). Some x) init in
          let l = length-set front 0 None in
          let m = length-map init (λ (x : A). Some x) in
          rw shorter.0 (record {
            free = get_or-set_same front 0 None None (omega (arith, some, long));
            others = λ k h apart. rw (get_or-set_other front 0 k None None apart) (some_in init k None (omega (arith, h, l, m)));
          })

      pub heap_below_top : IsHeapBut (above_in_place above) None (set (take last (set row last None)) 0 None) 0
      heap_below_top =
          let front = map (λ (x : A). Some x) init in
          let l = length-set front 0 None in
          let whole : map Some all ≡ front ++ Some z ∷ [] = ap (λ ys. map Some ys) split_off ∙ map-append Some init (z ∷ []) in
          let many = length-map all (λ (x : A). Some x) in
          rw shorter.0 (opened (above_in_place above) None (map Some all) (set front 0 None) 0
          (λ k apart h. (
            omega (arith, h, l, long, many, r.items.count),
            get_or-set_other front 0 k None None apart ∙ sym (get_or-append front (Some z ∷ []) None k (omega (arith, h, l))) ∙ ap (λ (t : List (Option A)). get_or t k None) (sym whole),
          ))
          (λ p k g h. let b = g.behind in omega (arith, b))
          r.heap)

      module _ (new : List (Option A)) (moved : IsPermutation (set (set (take last (set row last None)) 0 None) 0 (Some z)) new) where
        rest : Moved (set init 0 z) new
        rest = moved_row (set init 0 z) (set (set (take last (set row last None)) 0 None) 0 (Some z)) new
            (ap (λ (f : List (Option A)). set (set f 0 None) 0 (Some z)) shorter.0 ∙ set-set (map Some init) 0 None (Some z) ∙ sym (map-set Some init 0 z))
            moved

        pub popped_heap : IsHeap (above_in_place above) None new → IsHeapRow above n (new ++ drop last (set row last None)) last
        popped_heap heap =
            heap_row above n last (n - last) new (drop last (set row last None)) rest.whole (rest.many ∙ length-set init 0 z ∙ sym (length-map init Some) ∙ long) shorter.1 (omega (arith, r.items.count, r.items.fits)) heap

        pub popped_items : (top : A) (t : Option A) → get_or (take last (set row last None)) 0 t ≡ Some top → IsPermutation all (top ∷ items_of (new ++ drop last (set row last None)))
        popped_items top t was_t =
            let f = first_is init (omega (arith, some, long, length-map init (λ (x : A). Some x))) in
            let head : get_or (take last (set row last None)) 0 t ≡ Some f.0 = ap (λ (l : List (Option A)). get_or l 0 t) shorter.0 ∙ ap (λ ys. get_or (map Some ys) 0 t) f.2 in
            let e : f.0 ≡ top = same_Some f.0 top (sym head ∙ was_t) in
            let whole : all ≡ top ∷ f.1 ++ z ∷ [] = split_off ∙ ap (λ ys. ys ++ z ∷ []) f.2 ∙ ap (λ y. y ∷ f.1 ++ z ∷ []) e in
            let left : set init 0 z ≡ z ∷ f.1 = ap (λ ys. set ys 0 z) f.2 in
            rw (items_of-front (n - last) new (drop last (set row last None)) rest.whole shorter.1, whole)
            (IsPermutation-cons top (f.1 ++ z ∷ []) (items_of new) (IsPermutation-trans (f.1 ++ z ∷ []) (z ∷ f.1) (items_of new) (IsPermutation-to_front f.1 z) (rw left at rest.moved)))

first_place : {A : Type 0} (xs : List A) (x : A) → slice_get xs 0 ≡ Some x → get_or (map Some xs) 0 None ≡ Some x
first_place [] x h = absurd cc
first_place (z ∷ ys) x h = h

-- no item is above the first of a heap
pub top_of_heap : {A : Type 0} (above : A → A → Bool) → ((a : A) → above a a ≡ false) → ((a b c : A) → above a b ≡ false → above b c ≡ false → above a c ≡ false)
    → (xs : List A) (x : A) → IsHeap (above_in_place above) None (map Some xs) → slice_get xs 0 ≡ Some x → IsTop above x xs
top_of_heap above same ties xs x heap first k d l =
    let row = map (λ x. Some x) xs in
    let many = length-map xs (λ x. Some x) in
    let under = first_is_top (above_in_place above) None (place-irreflexive above same) (place-ties above ties) row k heap (omega arith) in
    let at : get_or row k None ≡ Some (get_or xs k d) = get_or-map_at Some xs k d None l in
    rw (at, first_place xs x first) at under

pub below_or_behind : (k i : ℕ) → (k < i) ⊎ (i ≤ k)
below_or_behind zero zero = inr (omega arith)
below_or_behind zero (suc i) = inl (omega arith)
below_or_behind (suc k) zero = inr (omega arith)
below_or_behind (suc k) (suc i) = elim (below_or_behind k i) [ inl h ↦ inl (omega arith) | inr h ↦ inr (omega arith) ]

set_none : {A : Type 0} (row : List (Option A)) (i : ℕ) → get_or (set row i None) i None ≡ None
set_none [] i = refl
set_none (o ∷ row) zero = refl
set_none (o ∷ row) (suc i) = set_none row i

-- a loop over the places frees one more
pub one_less : {A : Type 0} (old row new : List (Option A)) (i : ℕ) → length row ≡ length old → ((k : ℕ) → k < i → get_or row k None ≡ None) → ((k : ℕ) → i ≤ k → get_or row k None ≡ get_or old k None) → new ≡ set row i None
    → (length new ≡ length old) × ((k : ℕ) → k < i + 1 → get_or new k None ≡ None) × ((k : ℕ) → i + 1 ≤ k → get_or new k None ≡ get_or old k None)
one_less old row new i many_before free kept e =
    let read = λ (k : ℕ) (apart : k ≢ i). ap (λ (l : List (Option _)). get_or l k None) e ∙ get_or-set_other row i k None None apart in (
      ap length e ∙ length-set row i None ∙ many_before,
      (λ k h. elim (same_or_other k i) [
        | inl s ↦ rw (s, e) (set_none row i)
        | inr apart ↦ read k apart ∙ free k (omega (arith, h, apart))
      ]),
      (λ k h. read k (omega (arith, h)) ∙ kept k (omega (arith, h))),
    )

-- a loop over the places fills one more
pub one_more : {A : Type 0} (old row new : List (Option A)) (i : ℕ) → i < length old → length row ≡ length old → ((k : ℕ) → k < i → get_or row k None ≡ get_or old k None) → ((k : ℕ) → i ≤ k → get_or row k None ≡ None)
    → (x : A) → get_or old i None ≡ Some x → new ≡ set row i (Some x)
    → (length new ≡ length old) × ((k : ℕ) → k < i + 1 → get_or new k None ≡ get_or old k None) × ((k : ℕ) → i + 1 ≤ k → get_or new k None ≡ None)
one_more old row new i inside many_before same free x is e =
    let read = λ (k : ℕ) (apart : k ≢ i). ap (λ (l : List (Option _)). get_or l k None) e ∙ get_or-set_other row i k (Some x) None apart in (
      ap length e ∙ length-set row i (Some x) ∙ many_before,
      (λ k h. elim (same_or_other k i) [
        | inl s ↦ rw (s, e) (get_or-set_same row i (Some x) None (omega (arith, inside, many_before)) ∙ sym is)
        | inr apart ↦ read k apart ∙ same k (omega (arith, h, apart))
      ]),
      (λ k h. read k (omega (arith, h)) ∙ free k (omega (arith, h))),
    )

-- a row without items
pub new_heap : {A : Type 0} (above : A → A → Bool) (n : ℕ) → IsHeapRow above n (replicate n None) 0
new_heap above n = record { items = row_new n; heap = rw (items_of-replicate n) (record { order = λ p k h. absurd (let i = h.inside in omega (arith, i)) }) }

pub none_yet : {A : Type 0} (n : ℕ) (row : List (Option A)) (len : ℕ) → IsRow n row len → row ≡ replicate n None → len ≡ 0
none_yet n row len r e = r.count ∙ ap length (ap items_of e ∙ items_of-replicate n)

-- the first item was put in
pub first_heap : {A : Type 0} (above : A → A → Bool) (n : ℕ) (row : List (Option A)) (len : ℕ) (x : A) → IsHeapRow above n row len → len < n → len ≡ 0 → IsHeapRow above n (set row len (Some x)) (len + 1)
first_heap above n row len x r room none =
    let one = row_push n row len x r.items room in
    let l = length-map (items_of (set row len (Some x))) (λ y. Some y) in
    record { items = one; heap = record { order = λ p k h. absurd (let i = h.inside in let b = h.behind in omega (arith, i, b, l, one.count, none)) } }

pub first_items : {A : Type 0} (n : ℕ) (row : List (Option A)) (len : ℕ) (x : A) → IsRow n row len → len < n → IsPermutation (x ∷ items_of row) (items_of (set row len (Some x)))
first_items n row len x r room = rw (items_of-set n row len x r room) (IsPermutation-sym (items_of row ++ x ∷ []) (x ∷ items_of row) (IsPermutation-to_front (items_of row) x))

item_in : {A : Type 0} (xs : List A) (m i : ℕ) (x : A) → get_or (map Some xs ++ replicate m None) i None ≡ Some x → slice_get xs i ≡ Some x
item_in [] m i x h = absurd (let e : Some x ≡ None = sym h ∙ none_in m i in cc)
item_in (z ∷ zs) m zero x h = h
item_in (z ∷ zs) m (suc i) x h = item_in zs m i x h

-- the item of a place is the item of that number
pub item_of_row : {A : Type 0} (n : ℕ) (row : List (Option A)) (len i : ℕ) (x : A) → IsRow n row len → get_or row i None ≡ Some x → slice_get (items_of row) i ≡ Some x
item_of_row n row len i x r e = item_in (items_of row) (n - length (items_of row)) i x (sym (ap (λ (l : List (Option _)). get_or l i None) r.shape) ∙ e)
