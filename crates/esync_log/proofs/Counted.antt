-- Reader counts, as subscribers come, read and leave.
use Rattle.std.proofs.Common.{◌≡◌, ℕ, zero, suc, ◌+◌, ◌-◌, ◌<◌, ◌≤◌, true, false, List, [], ◌∷◌, ◌++◌, inl, inr, length, drop, refl, sym, ◌∙◌, ap, arith, rules, cond, not}
use Rattle.std.specs.Prelude.{Option, Some, None, IsTrue, ◌↔◌, ◌==◌, is_some, nat_lt, slice_set, slice_index, slice_index_or}
use Rattle.std.specs.List.{count_by}
use Rattle.std.proofs.lemmas.Bool.Decides.{nat_tests}
use Rattle.std.proofs.lemmas.List.Sums.{sum_by-set, sum_by-cons}
use Rattle.std.proofs.lemmas.List.{length_push, length-drop, get_or-drop, get_or-set_same, get_or-set_other}
use Rattle.std.proofs.Math.ListN.{get_or-append}
use Rattle.std.proofs.Math.Seq.{drop-nil, get_or-append_seam}
use Rattle.esync_base.specs.ListedLaws.{true_or_false, same_or_not}
use Rattle.esync_log.specs.Log.{is_above, is_read, trimmed}
use Rattle.esync_log.specs.Counts.{readers_of, unread, AreCounted}

-- one, if the position is at or below the number
abbrev pub reads : ℕ → Option ℕ → ℕ
reads n q = cond (not (is_above n q)) 1 0

pub reads-below : (n p : ℕ) → p ≤ n → reads n (Some p) ≡ 1
reads-below n p h = (let e : nat_lt n p ≡ false = grind (arith, nat_tests) in rw e refl)

pub reads-above : (n p : ℕ) → n < p → reads n (Some p) ≡ 0
reads-above n p h = (let e : nat_lt n p ≡ true = grind (arith, nat_tests) in rw e refl)

-- another position at one place
pub readers_set : (n : ℕ) (ps : List (Option ℕ)) (i : ℕ) (q : Option ℕ) → i < length ps → readers_of n (slice_set ps i q) + reads n (slice_index_or ps i None) ≡ readers_of n ps + reads n q
readers_set n ps i q l = sum_by-set (reads n) ps i q None l

readers_front : (n : ℕ) (q : Option ℕ) (ps : List (Option ℕ)) → readers_of n (q ∷ ps) ≡ reads n q + readers_of n ps
readers_front n q ps = sum_by-cons (reads n) q ps

live_front : (q : Option ℕ) (ps : List (Option ℕ)) → count_by is_some (q ∷ ps) ≡ cond (is_some q) 1 0 + count_by is_some ps
live_front q ps = sum_by-cons (λ x. cond (is_some x) 1 0) q ps

-- a number that all have read has no readers, and no other number
pub read_where_none : (n : ℕ) (ps : List (Option ℕ)) → readers_of n ps ≡ 0 → is_read n ps ≡ true
read_where_none n [] e = refl
read_where_none n (q ∷ ps) e = elim (true_or_false (is_above n q)) [
  | inl a ↦ (let z : readers_of n ps ≡ 0 = omega (arith, readers_front n q ps, e) in rw a (read_where_none n ps z))
  | inr a ↦ (let one : reads n q ≡ 1 = rw a refl in absurd (omega (arith, readers_front n q ps, e, one)))
]

pub unread_where_some : (n : ℕ) (ps : List (Option ℕ)) → 0 < readers_of n ps → is_read n ps ≡ false
unread_where_some n [] l = absurd (omega (arith, l))
unread_where_some n (q ∷ ps) l = elim (true_or_false (is_above n q)) [
  | inl a ↦ (let none : reads n q ≡ 0 = rw a refl in let r : 0 < readers_of n ps = omega (arith, readers_front n q ps, l, none) in rw a (unread_where_some n ps r))
  | inr a ↦ rw a refl
]

-- a later number has no fewer readers
reads_more : (n : ℕ) (q : Option ℕ) → reads n q ≤ reads (suc n) q
reads_more n None = omega arith
reads_more n (Some p) = elim (true_or_false (nat_lt n p)) [
  | inl a ↦ (let none : reads n (Some p) ≡ 0 = rw a refl in omega (arith, none))
  | inr a ↦ (let b : nat_lt (suc n) p ≡ false = grind (arith, nat_tests) in let one : reads (suc n) (Some p) ≡ 1 = rw b refl in let one2 : reads n (Some p) ≡ 1 = rw a refl in omega (arith, one, one2))
]

pub readers_more : (n : ℕ) (ps : List (Option ℕ)) → readers_of n ps ≤ readers_of (suc n) ps
readers_more n [] = omega arith
readers_more n (q ∷ ps) = omega (arith, reads_more n q, readers_more n ps, readers_front n q ps, readers_front (suc n) q ps)

-- where no position is above the number, all who are live read it
pub readers_all : (n : ℕ) (ps : List (Option ℕ)) → ((i p : ℕ) → slice_index_or ps i None ≡ Some p → p ≤ n) → readers_of n ps ≡ count_by is_some ps
readers_all n [] h = refl
readers_all n (None ∷ ps) h = omega (arith, readers_front n None ps, live_front None ps, readers_all n ps (λ i p e. h (suc i) p e))
readers_all n (Some p ∷ ps) h = omega (arith, readers_front n (Some p) ps, live_front (Some p) ps, reads-below n p (h 0 p refl), readers_all n ps (λ i p e. h (suc i) p e))

-- whoever is at or below the number reads it
pub readers_has : (n : ℕ) (ps : List (Option ℕ)) (i p : ℕ) → i < length ps → slice_index_or ps i None ≡ Some p → p ≤ n → 0 < readers_of n ps
readers_has n ps i p l e h =
    let here : reads n (slice_index_or ps i None) ≡ 1 = ap (reads n) e ∙ reads-below n p h in
    let s : readers_of n (slice_set ps i None) + reads n (slice_index_or ps i None) ≡ readers_of n ps + 0 = readers_set n ps i None l in
    omega (arith, here, s)

-- nothing leaves while the number in front has a reader
pub trimmed_none : {T : Type 0} (n : ℕ) (ps : List (Option ℕ)) (ms : List T) → (0 < length ms → 0 < readers_of n ps) → trimmed n ps ms ≡ ms
trimmed_none n ps [] h = refl
trimmed_none n ps (m ∷ ms) h = (let l : 0 < suc (length ms) = omega arith in rw (unread_where_some n ps (h l)) refl)

-- whether anybody still reads the first
pub unread_nobody : (cs : List ℕ) → length cs ≡ 0 → IsTrue false ↔ (0 < unread cs)
unread_nobody [] e = search rules
unread_nobody (c ∷ cs) e = absurd (omega (arith, e))

pub unread_first : (cs : List ℕ) → 0 < length cs → IsTrue (slice_index cs 0 == 0) ↔ (0 < unread cs)
unread_first [] l = absurd (omega (arith, l))
unread_first (zero ∷ cs) l = search rules
unread_first (suc c ∷ cs) l = search rules

pub unread-le : (cs : List ℕ) → unread cs ≤ length cs
unread-le [] = omega arith
unread-le (zero ∷ cs) = omega (arith, unread-le cs)
unread-le (suc c ∷ cs) = omega arith

pub unread_wanted : (cs : List ℕ) → 0 < length (drop (unread cs) cs) → 0 < slice_index (drop (unread cs) cs) 0
unread_wanted [] l = absurd (omega (arith, l))
unread_wanted (zero ∷ cs) l = unread_wanted cs l
unread_wanted (suc c ∷ cs) l = omega arith

module _ {T : Type 0} where
  pub counted_push : (ms : List T) (m : T) (cs : List ℕ) (c f : ℕ) (ps : List (Option ℕ)) → AreCounted ms cs f ps → c ≡ readers_of (f + length ms) ps → AreCounted (ms ++ m ∷ []) (cs ++ c ∷ []) f ps
  counted_push ms m cs c f ps a e = record {
    paired = omega (arith, length_push ms m, length_push cs c, a.paired);
    each = λ k l. elim (true_or_false (nat_lt k (length ms))) [
      | inl t ↦ (let b : k < length ms = grind (arith, nat_tests) in get_or-append cs (c ∷ []) 0 k (omega (arith, a.paired, b)) ∙ a.each k b)
      | inr t ↦ (let b : length ms ≤ k = grind (arith, nat_tests) in let here : k ≡ length cs = omega (arith, length_push ms m, a.paired, b, l) in let last : f + length ms ≡ f + k = omega (arith, a.paired, here) in
          ap (λ j. slice_index (cs ++ c ∷ []) j) here ∙ get_or-append_seam cs c [] 0 ∙ e ∙ ap (λ j. readers_of j ps) last)
    ];
  }

  pub counted_pop : (m : T) (ms : List T) (c : ℕ) (cs : List ℕ) (f : ℕ) (ps : List (Option ℕ)) → AreCounted (m ∷ ms) (c ∷ cs) f ps → AreCounted ms cs (suc f) ps
  counted_pop m ms c cs f ps a = record {
    paired = (let e : suc (length cs) ≡ suc (length ms) = a.paired in omega (arith, e));
    each = λ k l. (let s : suc k < suc (length ms) = omega (arith, l) in let e : f + suc k ≡ suc f + k = omega arith in a.each (suc k) s ∙ ap (λ j. readers_of j ps) e);
  }

  pub counted_front : (m : T) (ms : List T) (c : ℕ) (cs : List ℕ) (f : ℕ) (ps : List (Option ℕ)) → AreCounted (m ∷ ms) (c ∷ cs) f ps → c ≡ readers_of f ps
  counted_front m ms c cs f ps a = (let l : 0 < suc (length ms) = omega arith in let e : f + 0 ≡ f = omega arith in a.each 0 l ∙ ap (λ j. readers_of j ps) e)

  -- the messages in front that have no readers are the ones that all have read
  pub trimmed_unread : (ms : List T) (cs : List ℕ) (f : ℕ) (ps : List (Option ℕ)) → AreCounted ms cs f ps → trimmed f ps ms ≡ drop (unread cs) ms
  trimmed_unread [] cs f ps a = sym (drop-nil (unread cs))
  trimmed_unread (m ∷ ms) [] f ps a = (let e : 0 ≡ suc (length ms) = a.paired in absurd (omega (arith, e)))
  trimmed_unread (m ∷ ms) (zero ∷ cs) f ps a = (let r : is_read f ps ≡ true = read_where_none f ps (sym (counted_front m ms 0 cs f ps a)) in rw r (trimmed_unread ms cs (suc f) ps (counted_pop m ms zero cs f ps a)))
  trimmed_unread (m ∷ ms) (suc c ∷ cs) f ps a = (let z : 0 < readers_of f ps = omega (arith, counted_front m ms (suc c) cs f ps a) in let r : is_read f ps ≡ false = unread_where_some f ps z in rw r refl)

  pub counted_drop : (u : ℕ) (ms : List T) (cs : List ℕ) (f : ℕ) (ps : List (Option ℕ)) → AreCounted ms cs f ps → AreCounted (drop u ms) (drop u cs) (f + u) ps
  counted_drop u ms cs f ps a = record {
    paired = length-drop u cs ∙ ap (λ n. n - u) a.paired ∙ sym (length-drop u ms);
    each = λ k l. (let b : u + k < length ms = omega (arith, length-drop u ms, l) in let e : f + (u + k) ≡ (f + u) + k = omega arith in
        get_or-drop u cs k 0 ∙ a.each (u + k) b ∙ ap (λ j. readers_of j ps) e);
  }

  -- positions that the held numbers can't tell apart
  pub counted_same : (ms : List T) (cs : List ℕ) (f : ℕ) (ps ps2 : List (Option ℕ)) → ((n : ℕ) → f ≤ n → n < f + length ms → readers_of n ps2 ≡ readers_of n ps) → AreCounted ms cs f ps → AreCounted ms cs f ps2
  counted_same ms cs f ps ps2 h a = record {
    paired = a.paired;
    each = λ k l. a.each k l ∙ sym (h (f + k) (omega arith) (omega (arith, l)));
  }

-- one more message behind those that leave
pub unread_front : (cs : List ℕ) → 0 < unread cs → suc (unread (drop 1 cs)) ≡ unread cs
unread_front [] l = absurd (omega (arith, l))
unread_front (zero ∷ cs) l = refl
unread_front (suc c ∷ cs) l = absurd (omega (arith, l))

-- one more count that is lowered, of those from `from` on
module _ (cs0 cs : List ℕ) (from i n : ℕ) (start : from ≤ i) (here : i < length cs) (some : 0 < slice_index cs0 i) (rest : (k : ℕ) → i ≤ k → slice_index cs k ≡ slice_index cs0 k) where
  abbrev lowered : List ℕ
  lowered = slice_set cs i (slice_index cs i - 1)

  lowered_other : (k : ℕ) → (k ≡ i → ⊥) → slice_index lowered k ≡ slice_index cs k
  lowered_other k ne = get_or-set_other cs i k (slice_index cs i - 1) 0 ne

  pub lowered_before : ((k : ℕ) → k < from → slice_index cs k ≡ slice_index cs0 k) → (k : ℕ) → k < from → slice_index lowered k ≡ slice_index cs0 k
  lowered_before h k b = lowered_other k (λ e. omega (arith, e, b, start)) ∙ h k b

  pub lowered_behind : ((k : ℕ) → from ≤ k → k < i → k < n → suc (slice_index cs k) ≡ slice_index cs0 k) → (k : ℕ) → from ≤ k → k < i + 1 → k < n → suc (slice_index lowered k) ≡ slice_index cs0 k
  lowered_behind h k b m j = elim (same_or_not k i) [
    | inl e ↦ (let s : slice_index lowered k ≡ slice_index cs i - 1 = ap (λ x. slice_index lowered x) e ∙ get_or-set_same cs i (slice_index cs i - 1) 0 here in
        let z : slice_index cs0 k ≡ slice_index cs0 i = ap (λ x. slice_index cs0 x) e in
        omega (arith, s, z, rest i (omega arith), some))
    | inr o ↦ ap suc (lowered_other k o) ∙ h k b (omega (arith, m, o)) j
  ]

  pub lowered_rest : (k : ℕ) → i + 1 ≤ k → slice_index lowered k ≡ slice_index cs0 k
  lowered_rest k b = lowered_other k (λ e. omega (arith, e, b)) ∙ rest k (omega (arith, b))
