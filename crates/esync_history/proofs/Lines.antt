-- A queue of numbers and its flags, as numbers are put in and taken out.
use Rattle.std.proofs.Common.{◌≡◌, ℕ, zero, suc, ◌<◌, ◌≤◌, Bool, true, false, List, [], ◌∷◌, ◌++◌, length, get_or, inl, inr, refl, sym, ap, arith, ◌∙◌, subst, length-append, length-set, get_or-set_same, get_or-set_other}
use Rattle.std.proofs.Math.ListN.{set, replicate, length-replicate}
use Rattle.esync_base.specs.Listed.{is_in}
use Rattle.esync_base.specs.ListedLaws.{same_or_not, has_number-front, has_number-behind, has_number-back, has_number-before, distinct_back}
use Rattle.esync_history.specs.Line.{Line, put_last, raised, IsLine}

pub raised-set_up : (fs : List Bool) (k : ℕ) → k < length fs → get_or fs k false ≡ false → raised (set fs k true) ≡ suc (raised fs)
raised-set_up [] k l h = absurd (omega arith)
raised-set_up (true ∷ fs) zero l h = absurd cc
raised-set_up (false ∷ fs) zero l h = refl
raised-set_up (true ∷ fs) (suc k) l h = ap suc (raised-set_up fs k (omega arith) h)
raised-set_up (false ∷ fs) (suc k) l h = raised-set_up fs k (omega arith) h

pub raised-set_down : (fs : List Bool) (k : ℕ) → k < length fs → get_or fs k false ≡ true → suc (raised (set fs k false)) ≡ raised fs
raised-set_down [] k l h = absurd (omega arith)
raised-set_down (true ∷ fs) zero l h = refl
raised-set_down (false ∷ fs) zero l h = absurd cc
raised-set_down (true ∷ fs) (suc k) l h = ap suc (raised-set_down fs k (omega arith) h)
raised-set_down (false ∷ fs) (suc k) l h = raised-set_down fs k (omega arith) h

pub raised-le-length : (fs : List Bool) → raised fs ≤ length fs
raised-le-length [] = omega arith
raised-le-length (true ∷ fs) = omega (arith, raised-le-length fs)
raised-le-length (false ∷ fs) = omega (arith, raised-le-length fs)

-- a flag that is down leaves room
pub raised-lt-length : (fs : List Bool) (k : ℕ) → k < length fs → get_or fs k false ≡ false → raised fs < length fs
raised-lt-length fs k l h = omega (arith, raised-set_up fs k l h, raised-le-length (set fs k true), length-set {A = Bool})

pub raised-replicate : (n : ℕ) → raised (replicate n false) ≡ 0
raised-replicate zero = refl
raised-replicate (suc n) = raised-replicate n

get_or-replicate : (n k : ℕ) → get_or (replicate n false) k false ≡ false
get_or-replicate zero k = refl
get_or-replicate (suc n) zero = refl
get_or-replicate (suc n) (suc k) = get_or-replicate n k

pub line_new : (n capacity : ℕ) → n ≤ capacity → IsLine [] (replicate n false) capacity
line_new n capacity h = record {
  below = λ k e. absurd cc;
  distinct = tt;
  flagged = λ k l. get_or-replicate n k;
  count = raised-replicate n;
  room = simp length-replicate h;
}

-- what is below stays below the same number
line_flag : (fs : List Bool) (k j : ℕ) (b : Bool) → j < length fs → j < length (set fs k b)
line_flag fs k j b l = omega (arith, length-set {A = Bool})

-- a number that wasn't queued is put at the back, and its flag raised
pub line_push : (ns : List ℕ) (fs : List Bool) (capacity k : ℕ) → IsLine ns fs capacity → k < length fs → is_in k ns ≡ false → IsLine (ns ++ k ∷ []) (set fs k true) capacity
line_push ns fs capacity k i l h =
    let down : get_or fs k false ≡ false = i.flagged k l ∙ h in
    record {
      below = λ j e. line_flag fs k j true (elim (same_or_not j k) [
        | inl s ↦ omega arith
        | inr ne ↦ i.below j (sym (has_number-before (λ n. n) j ns k ne) ∙ e)
      ]);
      distinct = distinct_back (λ n. n) ns k i.distinct h;
      flagged = λ j m. elim (same_or_not j k) [
        | inl s ↦ subst (λ x. get_or (set fs k true) x false ≡ is_in x (ns ++ k ∷ [])) (sym s) (get_or-set_same fs k true false l ∙ sym (has_number-back (λ n. n) ns k))
        | inr ne ↦ get_or-set_other fs k j true false ne ∙ i.flagged j (omega (arith, length-set {A = Bool})) ∙ sym (has_number-before (λ n. n) j ns k ne)
      ];
      count = raised-set_up fs k l down ∙ ap suc i.count ∙ omega (arith, length-append ns (k ∷ []));
      room = omega (arith, i.room, length-set {A = Bool});
    }

-- the number at the front is below the bound
pub line_front : (ns : List ℕ) (fs : List Bool) (capacity k : ℕ) → IsLine (k ∷ ns) fs capacity → k < length fs
line_front ns fs capacity k i = i.below k (has_number-front (λ n. n) k ns)

-- it is taken, and its flag lowered
pub line_pop : (ns : List ℕ) (fs : List Bool) (capacity k : ℕ) → IsLine (k ∷ ns) fs capacity → IsLine ns (set fs k false) capacity
line_pop ns fs capacity k i =
    let l = line_front ns fs capacity k i in
    let up : get_or fs k false ≡ true = i.flagged k l ∙ has_number-front (λ n. n) k ns in
    let fewer = raised-set_down fs k l up in
    let all : raised fs ≡ suc (length ns) = i.count in
    record {
      below = λ j e. line_flag fs k j false (elim (same_or_not j k) [
        | inl s ↦ omega arith
        | inr ne ↦ i.below j (has_number-behind (λ n. n) j k ns ne ∙ e)
      ]);
      distinct = i.distinct.1;
      flagged = λ j m. elim (same_or_not j k) [
        | inl s ↦ subst (λ x. get_or (set fs k false) x false ≡ is_in x ns) (sym s) (get_or-set_same fs k false false l ∙ sym i.distinct.0)
        | inr ne ↦ get_or-set_other fs k j false false ne ∙ i.flagged j (omega (arith, length-set {A = Bool})) ∙ has_number-behind (λ n. n) j k ns ne
      ];
      count = omega arith;
      room = omega (arith, i.room, length-set {A = Bool});
    }

-- the same of lists and a capacity that are told by equations
pub line_made : (ns : List ℕ) (fs : List Bool) (capacity n : ℕ) → ns ≡ [] → fs ≡ replicate n false → n ≤ capacity → IsLine ns fs capacity
line_made ns fs capacity n e f h = subst (λ x. IsLine x fs capacity) (sym e) (subst (λ x. IsLine [] x capacity) (sym f) (line_new n capacity h))

pub line_pushed : (ns ms : List ℕ) (fs : List Bool) (capacity more k : ℕ) → IsLine ns fs capacity → k < length fs → is_in k ns ≡ false → ms ≡ ns ++ k ∷ [] → capacity ≤ more → IsLine ms (set fs k true) more
line_pushed ns ms fs capacity more k i l h e m =
    let j = line_push ns fs capacity k i l h in
    subst (λ x. IsLine x (set fs k true) more) (sym e) (record {
      below = j.below;
      distinct = j.distinct;
      flagged = j.flagged;
      count = j.count;
      room = omega (arith, j.room);
    })

pub line_popped : (all ns : List ℕ) (fs : List Bool) (capacity same k : ℕ) → IsLine all fs capacity → all ≡ k ∷ ns → same ≡ capacity → IsLine ns (set fs k false) same
line_popped all ns fs capacity same k i e m =
    subst (λ x. IsLine ns (set fs k false) x) (sym m) (line_pop ns fs capacity k (subst (λ x. IsLine x fs capacity) e i))

pub below_popped : (all ns : List ℕ) (fs : List Bool) (capacity k : ℕ) → IsLine all fs capacity → all ≡ k ∷ ns → k < length fs
below_popped all ns fs capacity k i e = line_front ns fs capacity k (subst (λ x. IsLine x fs capacity) e i)

-- there is room for one that isn't queued
pub line_room : (ns : List ℕ) (fs : List Bool) (capacity k : ℕ) → IsLine ns fs capacity → k < length fs → is_in k ns ≡ false → length ns < capacity
line_room ns fs capacity k i l h = omega (arith, raised-lt-length fs k l (i.flagged k l ∙ h), i.count, i.room)

pub put_last-new : (ns : List ℕ) (k : ℕ) → is_in k ns ≡ false → put_last ns k ≡ ns ++ k ∷ []
put_last-new ns k h = rw h refl

pub same_line : (m n : ℕ) (ms ns : List ℕ) → m ≡ n → ms ≡ ns → ◌≡◌ {A = Line} (record { room = m; numbers = ms }) (record { room = n; numbers = ns })
same_line m n ms ns e f =
    let p : ◌≡◌ {A = ℕ × List ℕ} (m, ms) (n, ns) = cc in
    ap (λ x. record { room = x.0; numbers = x.1 }) p
