-- A heap in a row of places: the children of place p are the places 2p + 1 and 2p + 2.
use Rattle.std.specs.Prelude.{◌≡◌, ◌≢◌, ℕ, ◌+◌, ◌-◌, ◌*◌, ◌^◌, ◌<◌, ◌≤◌, Bool, true, false, List, map, length, get_or, slice_set, IsPermutation, IsSome, Option, Some, None}
use Rattle.esync_base.specs.Rows.{IsRow, items_of}

-- an item is above a free place, and a free place is above nothing
abbrev pub above_in_place : {T : Type 0} → (T → T → Bool) → Option T → Option T → Bool
above_in_place above None place = false
above_in_place above (Some x) None = true
above_in_place above (Some x) (Some y) = above x y

-- place k is a child of place p in this row
pub record IsChild {A : Type 0} (row : List A) (p k : ℕ) : Type 0 where
  pub behind : 2 * p < k
  pub within : k ≤ 2 * p + 2
  pub inside : k < length row

-- the second child of place p, or the first
abbrev pub child_at : ℕ → Bool → ℕ
child_at p true = 2 * p + 1 + 1
child_at p false = 2 * p + 1

-- place p is free, and every other place holds an item
pub record IsHole {A : Type 0} (row : List (Option A)) (p : ℕ) : Type 0 where
  pub free : get_or row p None ≡ None
  pub others : (k : ℕ) → k < length row → k ≢ p → IsSome (get_or row k None)

-- place k isn't above place p
abbrev pub IsNotAbove : {A : Type 0} → (A → A → Bool) → A → List A → ℕ → ℕ → Type 0
IsNotAbove above d row k p = above (get_or row k d) (get_or row p d) ≡ false

-- no place is above its parent
pub record IsHeap {A : Type 0} (above : A → A → Bool) (d : A) (row : List A) : Type 0 where
  pub order : (p k : ℕ) → IsChild row p k → IsNotAbove above d row k p

-- no place is above its parent, but place i may hold anything: no child of place i is above the parent of place i
pub record IsHeapBut {A : Type 0} (above : A → A → Bool) (d : A) (row : List A) (i : ℕ) : Type 0 where
  pub order : (p k : ℕ) → IsChild row p k → k ≢ i → p ≢ i → IsNotAbove above d row k p
  pub bridge : (p k : ℕ) → IsChild row p i → IsChild row i k → IsNotAbove above d row k p

-- no child of place i is above this item
pub record NoneAbove {A : Type 0} (above : A → A → Bool) (d : A) (row : List A) (i : ℕ) (x : A) : Type 0 where
  pub each : (k : ℕ) → IsChild row i k → above (get_or row k d) x ≡ false

-- two to the power of the comparisons between the two counts is at most n
pub record CostsWithin (old new n : ℕ) : Type 0 where
  pub more : old ≤ new
  pub few : 2 ^ (new - old) ≤ n

-- the free place moves from i to j: whatever is put into it, the row holds the same items
pub record MovesPlace {A : Type 0} (old new : List A) (i j : ℕ) : Type 0 where
  pub length_kept : length new ≡ length old
  pub holds : (x : A) → IsPermutation (slice_set old i x) (slice_set new j x)

-- the first len of n places hold the items, and the items are a heap there
pub record IsHeapRow {A : Type 0} (above : A → A → Bool) (n : ℕ) (row : List (Option A)) (len : ℕ) : Type 0 where
  pub items : IsRow n row len
  pub heap : IsHeap (above_in_place above) None (map Some (items_of row))
