-- Places of a ring whose first ones are filled, and the bytes that stand there.
use Rattle.std.proofs.Common.{◌≡◌, ℕ, zero, suc, ◌+◌, ◌-◌, ◌<◌, ◌≤◌, List, [], ◌∷◌, ◌++◌, take, drop, length, inl, inr, refl, sym, ap, ◌∙◌, append_assoc, arith, length-append, length-drop, length-take}
use Rattle.std.proofs.Math.Seq.{take-append-add, drop-append-add, take-add}
use Rattle.std.proofs.lemmas.List.{take-append-drop, take-append-le, drop-append-le, take-take, take_at, take_all, drop_all, drop-take, drop-drop, length-take-le, append-nil}
use Rattle.std.proofs.lemmas.Bool.Decides.{nat_tests}
use Rattle.esync_base.specs.Ring.{slot}
use Rattle.esync_base.specs.Places.{read_from}
use Rattle.esync_base.specs.RingBuffer.{Stretch, free_run, begins, written, laid, IsLaid}
use Rattle.esync_base.proofs.Places.{lt_or_le, slot-is}

-- the free places behind the filled ones end at the last place at the latest
pub free-within : (n : ℕ) (s : Stretch) → s.front ≤ n - 1 → s.count ≤ n → slot n s.front s.count + free_run n s ≤ n
free-within n s first fits = elim (slot-is n s.front s.count first fits) [ inl e ↦ grind (arith, nat_tests) | inr e ↦ grind (arith, nat_tests) ]

pub begins-is : (start k : ℕ) → 0 < k → begins start k ≡ start
begins-is start zero h = absurd (omega arith)
begins-is start (suc k) h = refl

pub begins-within : (start k : ℕ) → begins start k ≤ start
begins-within start zero = omega arith
begins-within start (suc k) = omega arith

pub slot-within : (n f k : ℕ) → f ≤ n - 1 → k ≤ n → slot n f k ≤ n - 1
slot-within n f k first h = elim (slot-is n f k first h) [ inl e ↦ omega arith | inr e ↦ omega arith ]

module _ {A : Type 0} where
  -- of two lists, one after the other, what is past the first
  pub take-past : (xs ys : List A) (n k : ℕ) → length xs ≡ n → take (n + k) (xs ++ ys) ≡ xs ++ take k ys
  take-past xs ys n k h = ap (λ m. take (m + k) (xs ++ ys)) (sym h) ∙ take-append-add xs ys k

  pub drop-past : (xs ys : List A) (n k : ℕ) → length xs ≡ n → drop (n + k) (xs ++ ys) ≡ drop k ys
  drop-past xs ys n k h = ap (λ m. drop (m + k) (xs ++ ys)) (sym h) ∙ drop-append-add xs ys k

  pub length-read : (f : ℕ) (row : List A) → f ≤ length row → length (read_from f row) ≡ length row
  length-read f row h = length-append (drop f row) (take f row) ∙ (let d = length-drop f row in let t = length-take-le f row h in omega arith)

  -- the first places of a row that is read from place f on stand behind f, and then before it
  pub read-first : (f k : ℕ) (row : List A) → k ≤ length row - f → take k (read_from f row) ≡ take k (drop f row)
  read-first f k row h = take-append-le k (drop f row) (take f row) (let d = length-drop f row in omega arith)

  pub read-past : (f k : ℕ) (row : List A) → k ≤ f → take (length row - f + k) (read_from f row) ≡ drop f row ++ take k row
  read-past f k row h = take-past (drop f row) (take f row) (length row - f) k (length-drop f row) ∙ ap (λ t. drop f row ++ t) (take-take k f row h)

  -- a row that is read from a later place on
  read-inside : (f k : ℕ) (row : List A) → f + k ≤ length row → read_from (f + k) row ≡ read_from k (read_from f row)
  read-inside f k row h =
      let d = length-drop f row in
      let e : drop k (drop f row ++ take f row) ≡ drop (f + k) row ++ take f row = drop-append-le k (drop f row) (take f row) (omega arith) ∙ ap (λ t. t ++ take f row) (drop-drop k f row) in
      let t : take k (drop f row ++ take f row) ≡ take k (drop f row) = take-append-le k (drop f row) (take f row) (omega arith) in
      ap (λ x. drop (f + k) row ++ x) (take-add f k row) ∙ sym (append_assoc (drop (f + k) row) (take f row) (take k (drop f row))) ∙ sym (ap (λ x. x ++ take k (drop f row)) e) ∙ sym (ap (λ x. drop k (drop f row ++ take f row) ++ x) t)

  read-wrapped : (f j : ℕ) (row : List A) → f ≤ length row → j ≤ f → read_from j row ≡ read_from (length row - f + j) (read_from f row)
  read-wrapped f j row first h =
      let d = length-drop f row in
      let l = length-take-le f row first in
      let e : drop (length row - f + j) (drop f row ++ take f row) ≡ drop j (take f row) = drop-past (drop f row) (take f row) (length row - f) j d in
      let t : take (length row - f + j) (drop f row ++ take f row) ≡ drop f row ++ take j row = take-past (drop f row) (take f row) (length row - f) j d ∙ ap (λ x. drop f row ++ x) (take-take j f row h) in
      let s : drop j row ≡ drop j (take f row) ++ drop f row = sym (ap (drop j) (take-append-drop f row)) ∙ drop-append-le j (take f row) (drop f row) (omega arith) in
      ap (λ x. x ++ take j row) s ∙ append_assoc (drop j (take f row)) (drop f row) (take j row) ∙ sym (ap (λ x. x ++ (drop f row ++ take j row)) e) ∙ sym (ap (λ x. drop (length row - f + j) (drop f row ++ take f row) ++ x) t)

  pub read-slot : (n f k : ℕ) (row : List A) → length row ≡ n → f ≤ n - 1 → k ≤ n → read_from (slot n f k) row ≡ read_from k (read_from f row)
  read-slot n f k row long first h = elim (slot-is n f k first h) [
    | inl e ↦ ap (λ i. read_from i row) e.1 ∙ read-inside f k row (omega arith)
    | inr e ↦ ap (λ i. read_from i row) e.1 ∙ read-wrapped f (k - (n - f)) row (omega arith) (omega arith) ∙ ap (λ i. read_from i (read_from f row)) (let q : length row - f + (k - (n - f)) ≡ k = omega arith in q)
  ]

-- the bytes that are held after the first k were taken
pub laid-rest : (n : ℕ) (row : List ℕ) (s : Stretch) (k : ℕ) → IsLaid n row s → k ≤ s.count → laid row (record { front = slot n s.front k; count = s.count - k }) ≡ drop k (laid row s)
laid-rest n row s k l h =
    let p = l.places in
    let q = l.first in
    let r = l.fits in
    let long = length-read s.front row (omega arith) in
    let d = length-drop k (read_from s.front row) in
    ap (take (s.count - k)) (read-slot n s.front k row p q (omega arith))
    ∙ take-append-le (s.count - k) (drop k (read_from s.front row)) (take k (read_from s.front row)) (omega arith)
    ∙ sym (drop-take k (s.count - k) (read_from s.front row))
    ∙ ap (λ i. drop k (take i (read_from s.front row))) (let e : k + (s.count - k) ≡ s.count = omega arith in e)

pub length-laid : (n : ℕ) (row : List ℕ) (s : Stretch) → IsLaid n row s → length (laid row s) ≡ s.count
length-laid n row s l =
    let p = l.places in
    let q = l.first in
    let r = l.fits in
    let long = length-read s.front row (omega arith) in
    length-take-le s.count (read_from s.front row) (omega arith)

pub written-nothing : (row : List ℕ) (at : ℕ) → written row at [] ≡ row
written-nothing row at = ap (λ i. take at row ++ drop i row) (let e : at + 0 ≡ at = omega arith in e) ∙ take-append-drop at row

pub length-written : (row : List ℕ) (at : ℕ) (ys : List ℕ) → at + length ys ≤ length row → length (written row at ys) ≡ length row
length-written row at ys h =
    let a = length-append (take at row) (ys ++ drop (at + length ys) row) in
    let b = length-append ys (drop (at + length ys) row) in
    let c = length-drop (at + length ys) row in
    let t = length-take-le at row (omega arith) in
    omega arith

-- bytes that are written into a row are read where they were written
read-written : (f i : ℕ) (row ys : List ℕ) → f + i + length ys ≤ length row → read_from f (written row (f + i) ys) ≡ written (read_from f row) i ys
read-written f i row ys h =
    let m = length ys in
    let d = length-drop f row in
    let a = length-take-le (f + i) row (omega arith) in
    let b = drop (f + i + m) row in
    let x : drop f (written row (f + i) ys) ≡ take i (drop f row) ++ (ys ++ b) = drop-append-le f (take (f + i) row) (ys ++ b) (omega arith) ∙ ap (λ t. t ++ (ys ++ b)) (drop-take f i row) in
    let y : take f (written row (f + i) ys) ≡ take f row = take-append-le f (take (f + i) row) (ys ++ b) (omega arith) ∙ take-take f (f + i) row (omega arith) in
    let u : take i (read_from f row) ≡ take i (drop f row) = take-append-le i (drop f row) (take f row) (omega arith) in
    let v : drop (i + m) (read_from f row) ≡ b ++ take f row = drop-append-le (i + m) (drop f row) (take f row) (omega arith) ∙ ap (λ t. t ++ take f row) (drop-drop (i + m) f row ∙ ap (λ j. drop j row) (let e : f + (i + m) ≡ f + i + m = omega arith in e)) in
    ap (λ t. t ++ take f (written row (f + i) ys)) x ∙ ap (λ t. (take i (drop f row) ++ (ys ++ b)) ++ t) y
    ∙ append_assoc (take i (drop f row)) (ys ++ b) (take f row) ∙ ap (λ t. take i (drop f row) ++ t) (append_assoc ys b (take f row))
    ∙ sym (ap (λ t. t ++ (ys ++ drop (i + m) (read_from f row))) u ∙ ap (λ t. take i (drop f row) ++ (ys ++ t)) v)

read-written-past : (f j : ℕ) (row ys : List ℕ) → f ≤ length row → j + length ys ≤ f → read_from f (written row j ys) ≡ written (read_from f row) (length row - f + j) ys
read-written-past f j row ys first h =
    let m = length ys in
    let w = length row - f in
    let a = length-take-le j row (omega arith) in
    let d = length-drop f row in
    let k = f - (j + m) in
    let b = drop (j + m) row in
    let front : length (take j row ++ ys) ≡ j + m = length-append (take j row) ys ∙ ap (λ x. x + m) a in
    let parts : written row j ys ≡ (take j row ++ ys) ++ b = sym (append_assoc (take j row) ys b) in
    let at : f ≡ j + m + k = omega arith in
    let x : drop f (written row j ys) ≡ drop f row = ap (drop f) parts ∙ ap (λ i. drop i ((take j row ++ ys) ++ b)) at ∙ drop-past (take j row ++ ys) b (j + m) k front ∙ drop-drop k (j + m) row ∙ ap (λ i. drop i row) (sym at) in
    let y : take f (written row j ys) ≡ (take j row ++ ys) ++ take k b = ap (take f) parts ∙ ap (λ i. take i ((take j row ++ ys) ++ b)) at ∙ take-past (take j row ++ ys) b (j + m) k front in
    let u : take (w + j) (read_from f row) ≡ drop f row ++ take j row = read-past f j row (omega arith) in
    let v : drop (w + j + m) (read_from f row) ≡ take k b =
    ap (λ i. drop i (read_from f row)) (let e : w + j + m ≡ w + (j + m) = omega arith in e)
    ∙ drop-past (drop f row) (take f row) w (j + m) d ∙ ap (λ i. drop (j + m) (take i row)) at ∙ drop-take (j + m) k row in
    ap (λ t. t ++ take f (written row j ys)) x ∙ ap (λ t. drop f row ++ t) y
    ∙ ap (λ t. drop f row ++ t) (append_assoc (take j row) ys (take k b)) ∙ sym (append_assoc (drop f row) (take j row) (ys ++ take k b))
    ∙ sym (ap (λ t. t ++ (ys ++ drop (w + j + m) (read_from f row))) u ∙ ap (λ t. (drop f row ++ take j row) ++ (ys ++ t)) v)

take-written : (xs ys : List ℕ) (l : ℕ) → l ≤ length xs → take (l + length ys) (written xs l ys) ≡ take l xs ++ ys
take-written xs ys l h =
    let b = drop (l + length ys) xs in
    ap (take (l + length ys)) (sym (append_assoc (take l xs) ys b))
    ∙ take_at (take l xs ++ ys) b (l + length ys) (length-append (take l xs) ys ∙ ap (λ x. x + length ys) (length-take-le l xs h))

-- bytes that are written behind those that are held stand behind them
pub laid-behind : (n : ℕ) (row : List ℕ) (s : Stretch) (ys : List ℕ) → IsLaid n row s → length ys ≤ free_run n s → laid (written row (slot n s.front s.count) ys) (record { front = s.front; count = s.count + length ys }) ≡ laid row s ++ ys
laid-behind n row s ys l h =
    let p = l.places in
    let q = l.first in
    let r = l.fits in
    let long = length-read s.front row (omega arith) in
    elim (slot-is n s.front s.count q r) [
      | inl e ↦ (let k : length ys ≤ n - (s.front + s.count) = grind (arith, nat_tests) in
          ap (λ i. take (s.count + length ys) (read_from s.front (written row i ys))) e.1
          ∙ ap (take (s.count + length ys)) (read-written s.front s.count row ys (omega arith))
          ∙ take-written (read_from s.front row) ys s.count (omega arith))
      | inr e ↦ (let k : length ys ≤ n - s.count = grind (arith, nat_tests) in
          ap (λ i. take (s.count + length ys) (read_from s.front (written row i ys))) e.1
          ∙ ap (take (s.count + length ys)) (read-written-past s.front (s.count - (n - s.front)) row ys (omega arith) (omega arith))
          ∙ ap (λ i. take (s.count + length ys) (written (read_from s.front row) i ys)) (let f : length row - s.front + (s.count - (n - s.front)) ≡ s.count = omega arith in f)
          ∙ take-written (read_from s.front row) ys s.count (omega arith))
    ]

-- no bytes are written wherever a run begins
at-begin : (row ys : List ℕ) (place run : ℕ) → length ys ≤ run → written row place ys ≡ written row (begins place run) ys
at-begin row [] place run h = written-nothing row place ∙ sym (written-nothing row (begins place run))
at-begin row (y ∷ ys) place run h = ap (λ i. written row i (y ∷ ys)) (sym (begins-is place run (omega arith)))

-- the first run of bytes that are written
laid-run : (n : ℕ) (row : List ℕ) (s : Stretch) (ys : List ℕ) → IsLaid n row s → length ys ≤ free_run n s → laid (written row (begins (slot n s.front s.count) (free_run n s)) ys) (record { front = s.front; count = s.count + length ys }) ≡ laid row s ++ ys
laid-run n row s [] l h =
    let at = begins (slot n s.front s.count) (free_run n s) in
    ap (λ r. laid r (record { front = s.front; count = s.count + 0 })) (written-nothing row at)
    ∙ ap (λ k. laid row (record { front = s.front; count = k })) (let e : s.count + 0 ≡ s.count = omega arith in e)
    ∙ sym (append-nil (laid row s))
laid-run n row s (y ∷ ys) l h =
    ap (λ i. laid (written row i (y ∷ ys)) (record { front = s.front; count = s.count + length (y ∷ ys) })) (begins-is (slot n s.front s.count) (free_run n s) (omega arith))
    ∙ laid-behind n row s (y ∷ ys) l h

length-run : (n : ℕ) (row : List ℕ) (s : Stretch) (ys : List ℕ) → IsLaid n row s → length ys ≤ free_run n s → length (written row (begins (slot n s.front s.count) (free_run n s)) ys) ≡ n
length-run n row s ys l h =
    let p = l.places in
    let b = begins-within (slot n s.front s.count) (free_run n s) in
    let w = free-within n s l.first l.fits in
    length-written row (begins (slot n s.front s.count) (free_run n s)) ys (omega arith) ∙ p

-- where the bytes don't fit into the free places before the wrap, those places end at the last one
free-to-end : (n : ℕ) (s : Stretch) (k : ℕ) → s.front ≤ n - 1 → s.count + k ≤ n → free_run n s < k → (s.front + s.count < n) × (free_run n s ≡ n - (s.front + s.count))
free-to-end n s k first h lt = elim (slot-is n s.front s.count first (omega arith)) [
  | inl e ↦ (e.0, grind (arith, nat_tests))
  | inr e ↦ absurd (let f : free_run n s ≡ n - s.count = grind (arith, nat_tests) in omega arith)
]

-- the same of bytes that are written in two runs
pub laid-runs : (n : ℕ) (row : List ℕ) (s : Stretch) (ys : List ℕ) → IsLaid n row s → s.count + length ys ≤ n → laid (written (written row (begins (slot n s.front s.count) (free_run n s)) (take (free_run n s) ys)) 0 (drop (free_run n s) ys)) (record { front = s.front; count = s.count + length ys }) ≡ laid row s ++ ys
laid-runs n row s ys l h =
    let run = free_run n s in
    let at = begins (slot n s.front s.count) run in
    elim (lt_or_le run (length ys)) [
      | inl lt ↦ (
          let end = free-to-end n s (length ys) l.first h lt in
          let row2 = written row at (take run ys) in
          let s2 : Stretch = record { front = s.front; count = s.count + run } in
          let t : length (take run ys) ≡ run = length-take-le run ys (omega arith) in
          let d = length-drop run ys in
          let long : length row2 ≡ n = length-run n row s (take run ys) l (omega arith) in
          let l2 : IsLaid n row2 s2 = record { places = long; first = l.first; fits = omega arith } in
          let zero : slot n s.front (s.count + run) ≡ 0 = elim (slot-is n s.front (s.count + run) l.first (omega arith)) [ inl e ↦ omega arith | inr e ↦ omega arith ] in
          let room : length (drop run ys) ≤ free_run n s2 = (let e : free_run n s2 ≡ n - (s.count + run) = grind (arith, nat_tests) in omega arith) in
          let held : laid row2 s2 ≡ laid row s ++ take run ys = ap (λ k. laid row2 (record { front = s.front; count = s.count + k })) (sym t) ∙ laid-run n row s (take run ys) l (omega arith) in
          ap (λ i. laid (written row2 i (drop run ys)) (record { front = s.front; count = s.count + length ys })) (sym zero)
          ∙ ap (λ k. laid (written row2 (slot n s.front (s.count + run)) (drop run ys)) (record { front = s.front; count = k })) (let e : s.count + length ys ≡ s.count + run + length (drop run ys) = omega arith in e)
          ∙ laid-behind n row2 s2 (drop run ys) l2 room
          ∙ ap (λ x. x ++ drop run ys) held
          ∙ append_assoc (laid row s) (take run ys) (drop run ys)
          ∙ ap (λ x. laid row s ++ x) (take-append-drop run ys))
      | inr le ↦ (
          ap (λ x. laid (written (written row at (take run ys)) 0 x) (record { front = s.front; count = s.count + length ys })) (drop_all run ys le)
          ∙ ap (λ x. laid x (record { front = s.front; count = s.count + length ys })) (written-nothing (written row at (take run ys)) 0)
          ∙ ap (λ x. laid (written row at x) (record { front = s.front; count = s.count + length ys })) (take_all run ys le)
          ∙ laid-run n row s ys l le)
    ]

-- where they are written from their place on to the last place of the row, however many of these are free
runs-to-end : (n : ℕ) (row : List ℕ) (s : Stretch) (ys : List ℕ) → IsLaid n row s → s.count + length ys ≤ n → written (written row (slot n s.front s.count) (take (n - slot n s.front s.count) ys)) 0 (drop (n - slot n s.front s.count) ys) ≡ written (written row (begins (slot n s.front s.count) (free_run n s)) (take (free_run n s) ys)) 0 (drop (free_run n s) ys)
runs-to-end n row s ys l h =
    let run = free_run n s in
    let place = slot n s.front s.count in
    elim (lt_or_le run (length ys)) [
      | inl lt ↦ (
          let end = free-to-end n s (length ys) l.first h lt in
          let e : n - place ≡ run = elim (slot-is n s.front s.count l.first (omega arith)) [ inl e ↦ omega arith | inr e ↦ omega arith ] in
          ap (λ k. written (written row place (take k ys)) 0 (drop k ys)) e
          ∙ ap (λ i. written (written row i (take run ys)) 0 (drop run ys)) (sym (begins-is place run (omega arith))))
      | inr le ↦ (
          let within = free-within n s l.first l.fits in
          let end = n - place in
          let far : length ys ≤ end = omega arith in
          ap (λ x. written (written row place x) 0 (drop end ys)) (take_all end ys far)
          ∙ ap (λ x. written (written row place ys) 0 x) (drop_all end ys far)
          ∙ ap (λ x. written x 0 []) (at-begin row ys place run le)
          ∙ ap (λ x. written (written row (begins place run) ys) 0 x) (sym (drop_all run ys le))
          ∙ ap (λ x. written (written row (begins place run) x) 0 (drop run ys)) (sym (take_all run ys le)))
    ]

pub laid-to-end : (n : ℕ) (row : List ℕ) (s : Stretch) (ys : List ℕ) → IsLaid n row s → s.count + length ys ≤ n → laid (written (written row (slot n s.front s.count) (take (n - slot n s.front s.count) ys)) 0 (drop (n - slot n s.front s.count) ys)) (record { front = s.front; count = s.count + length ys }) ≡ laid row s ++ ys
laid-to-end n row s ys l h = ap (λ x. laid x (record { front = s.front; count = s.count + length ys })) (runs-to-end n row s ys l h) ∙ laid-runs n row s ys l h

-- and where the ring's places are the first n of a longer row
pub laid-in-first : (n : ℕ) (bytes : List ℕ) (s : Stretch) (ys : List ℕ) → IsLaid n (take n bytes) s → s.count + length ys ≤ n → laid (take n (written (written (take n bytes) (slot n s.front s.count) (take (n - slot n s.front s.count) ys)) 0 (drop (n - slot n s.front s.count) ys) ++ drop n bytes)) (record { front = s.front; count = s.count + length ys }) ≡ laid (take n bytes) s ++ ys
laid-in-first n bytes s ys l h =
    let place = slot n s.front s.count in
    let first = take (n - place) ys in
    let rest = drop (n - place) ys in
    let within = slot-within n s.front s.count l.first l.fits in
    let p = l.places in
    let f = length-take (n - place) ys in
    let d = length-drop (n - place) ys in
    let one : length (written (take n bytes) place first) ≡ n = length-written (take n bytes) place first (grind (arith, nat_tests)) ∙ p in
    let two : length (written (written (take n bytes) place first) 0 rest) ≡ n = length-written (written (take n bytes) place first) 0 rest (omega arith) ∙ one in
    ap (λ x. laid x (record { front = s.front; count = s.count + length ys })) (take_at (written (written (take n bytes) place first) 0 rest) (drop n bytes) n two)
    ∙ laid-to-end n (take n bytes) s ys l h

-- and from the front on to the last place of the row, and then from the first place on
pub oldest-to-end : (n : ℕ) (row : List ℕ) (s : Stretch) (k : ℕ) → IsLaid n row s → k ≤ s.count → take k (take (n - s.front) (drop s.front row) ++ row) ≡ take k (laid row s)
oldest-to-end n row s k l h =
    let p = l.places in
    let q = l.first in
    let r = l.fits in
    let d = length-drop s.front row in
    let all = take_all (n - s.front) (drop s.front row) (omega arith) in
    let both = take-append-drop s.front row in
    ap (λ x. take k (x ++ row)) all
    ∙ ap (λ x. take k (drop s.front row ++ x)) (sym both)
    ∙ ap (take k) (sym (append_assoc (drop s.front row) (take s.front row) (drop s.front row)))
    ∙ take-append-le k (read_from s.front row) (drop s.front row) (let e = length-read s.front row (omega arith) in omega arith)
    ∙ sym (take-take k s.count (read_from s.front row) h)

pub laid-left : (n : ℕ) (row : List ℕ) (s : Stretch) (k : ℕ) → IsLaid n row s → k ≤ s.count → IsLaid n row (record { front = slot n s.front k; count = s.count - k })
laid-left n row s k l h = record {
  places = l.places;
  first = slot-within n s.front k l.first (let r = l.fits in omega arith);
  fits = (let r = l.fits in omega arith);
}
