-- What holds of every log, as messages and subscribers come and go.
use Rattle.std.proofs.Common.{◌≡◌, ℕ, zero, suc, ◌+◌, ◌-◌, ◌<◌, ◌≤◌, true, false, List, [], ◌∷◌, ◌++◌, inl, inr, length, drop, replicate, refl, sym, ◌∙◌, ap, subst, arith, cond, not}
use Rattle.std.specs.Prelude.{Option, Some, None, is_some, nat_lt, slice_get, slice_set, slice_index, slice_index_or, if◌then◌else◌, ◌==◌, Result, Ok, Err, IfOk, OnOk, OnErr}
use Rattle.std.specs.declared.alloc.AllocError.{AllocError}
use Rattle.std.specs.List.{count_by, list_all, list_any}
use Rattle.std.proofs.lemmas.Bool.Decides.{nat_tests}
use Rattle.std.proofs.lemmas.List.Sums.{sum_by-set, sum_by-cons}
use Rattle.std.proofs.lemmas.List.{length_push, length-drop, length-set, length-replicate, get_or-set_same, get_or-set_other}
use Rattle.esync_base.specs.ListedLaws.{true_or_false, same_or_not}
use Rattle.esync_log.specs.Log.{Log, is_read, trimmed, number_of, oldest, settled, moved, left, is_last, position, Takes, IsRefused, ClonesAt, MayFailAt, Reads, ReadsOn, lags, found}
use Rattle.esync_log.specs.declared.log.WaitResult.{WaitResult}
use Rattle.esync_log.specs.declared.log.WaitResult.TheVariants.{Lagged, Message}
use Rattle.esync_log.specs.LogLaws.{place_below, free_below, free_there, some_number}
use Rattle.esync_log.specs.Counts.{readers_of, unread, AreCounted, IsLog}
use Rattle.esync_log.proofs.Counted.{reads, reads-below, reads-above, readers_set, readers_all, readers_has, readers_more, read_where_none, unread_where_some, trimmed_none, unread-le, unread_wanted, counted_push, trimmed_unread, counted_drop, counted_same}

abbrev nobody : Option ℕ
nobody = None

nobody_there : (n i : ℕ) → slice_index_or (replicate n nobody) i None ≡ None
nobody_there zero i = refl
nobody_there (suc n) zero = refl
nobody_there (suc n) (suc i) = nobody_there n i

nobody_live : (n : ℕ) → count_by is_some (replicate n nobody) ≡ 0
nobody_live zero = refl
nobody_live (suc n) = sum_by-cons (λ q. cond (is_some q) 1 0) None (replicate n None) ∙ (let e : 0 + count_by is_some (replicate n nobody) ≡ 0 = omega (arith, nobody_live n) in e)

-- somebody is live where the number of live subscribers isn't zero
pub live_none : (ps : List (Option ℕ)) → 0 ≡ count_by is_some ps → list_any is_some ps ≡ false
live_none [] e = refl
live_none (None ∷ ps) e = live_none ps (omega (arith, sum_by-cons (λ q. cond (is_some q) 1 0) None ps, e))
live_none (Some p ∷ ps) e = absurd (omega (arith, sum_by-cons (λ q. cond (is_some q) 1 0) (Some p) ps, e))

pub live_some : (ps : List (Option ℕ)) → 0 < count_by is_some ps → list_any is_some ps ≡ true
live_some [] l = absurd (omega (arith, l))
live_some (None ∷ ps) l = live_some ps (omega (arith, sum_by-cons (λ q. cond (is_some q) 1 0) None ps, l))
live_some (Some p ∷ ps) l = refl

pub live_counted : (ps : List (Option ℕ)) → list_any is_some ps ≡ true → 0 < count_by is_some ps
live_counted [] e = absurd cc
live_counted (None ∷ ps) e = omega (arith, sum_by-cons (λ q. cond (is_some q) 1 0) None ps, live_counted ps e)
live_counted (Some p ∷ ps) e = omega (arith, sum_by-cons (λ q. cond (is_some q) 1 0) (Some p) ps)

pub live_test : (ps : List (Option ℕ)) (s : ℕ) → s ≡ count_by is_some ps → nat_lt 0 s ≡ list_any is_some ps
live_test ps zero e = (let t : nat_lt 0 0 ≡ false = refl in t ∙ sym (live_none ps e))
live_test ps (suc s) e = (let t : nat_lt 0 (suc s) ≡ true = grind (arith, nat_tests) in t ∙ sym (live_some ps (omega (arith, e))))

pub live_number : (ps : List (Option ℕ)) (s : ℕ) → s ≡ count_by is_some ps → list_any is_some ps ≡ true → 0 < s
live_number ps s e h = omega (arith, e, live_counted ps h)

-- a list that has a first item
pub has_first : {T : Type 0} (xs : List T) → slice_get xs 0 ≡ None → 0 < length xs → ⊥
has_first [] e l = omega (arith, l)
has_first (x ∷ xs) e l = cc

pub full_tells : (n cap : ℕ) → true ≡ not (nat_lt n cap) → cap ≤ n
full_tells n cap e = elim (true_or_false (nat_lt n cap)) [
  | inl t ↦ absurd (let k : true ≡ false = rw t at e in cc)
  | inr t ↦ grind (arith, nat_tests)
]

-- room is made where there is none
pub room_none : {T : Type 0} (cap : ℕ) (ms : List T) → cap ≤ length ms → (if nat_lt (length ms) cap then ms else drop 1 ms) ≡ drop 1 ms
room_none cap ms e = (let t : nat_lt (length ms) cap ≡ false = grind (arith, nat_tests) in rw t refl)

-- a row in which each place is taken
pub all_taken : (ps : List (Option ℕ)) → ((k : ℕ) → k < length ps → is_some (slice_index_or ps k None) ≡ true) → list_all is_some ps ≡ true
all_taken [] h = refl
all_taken (q ∷ ps) h = (let z : 0 < suc (length ps) = omega arith in let e : is_some q ≡ true = h 0 z in rw e (all_taken ps (λ k l. (let s : suc k < suc (length ps) = omega (arith, l) in h (suc k) s))))

-- another position at one place
abbrev live_at : Option ℕ → ℕ
live_at q = cond (is_some q) 1 0

live_set : (ps : List (Option ℕ)) (i : ℕ) (q : Option ℕ) → i < length ps → count_by is_some (slice_set ps i q) + live_at (slice_index_or ps i None) ≡ count_by is_some ps + live_at q
live_set ps i q l = sum_by-set (λ x. cond (is_some x) 1 0) ps i q None l

within_set : (b : ℕ) (ps : List (Option ℕ)) (i : ℕ) (q : Option ℕ) → ((p : ℕ) → q ≡ Some p → p ≤ b) → ((k p : ℕ) → slice_index_or ps k None ≡ Some p → p ≤ b) → (k p : ℕ) → slice_index_or (slice_set ps i q) k None ≡ Some p → p ≤ b
within_set b [] i q h w k p e = w k p e
within_set b (x ∷ ps) zero q h w zero p e = h p e
within_set b (x ∷ ps) zero q h w (suc k) p e = w (suc k) p e
within_set b (x ∷ ps) (suc i) q h w zero p e = w zero p e
within_set b (x ∷ ps) (suc i) q h w (suc k) p e = within_set b ps i q h (λ k p e. w (suc k) p e) k p e

some_is : (p b : ℕ) → p ≤ b → (r : ℕ) → Some p ≡ Some r → r ≤ b
some_is p b h r e = (let s : p ≡ r = ap number_of e in omega (arith, s, h))

reads_step : (n p : ℕ) → (n ≡ p → ⊥) → reads n (Some (p + 1)) ≡ reads n (Some p)
reads_step n p ne = elim (true_or_false (nat_lt n p)) [
  | inl a ↦ (let l : n < p = grind (arith, nat_tests) in let l2 : n < p + 1 = omega (arith, l) in reads-above n (p + 1) l2 ∙ sym (reads-above n p l))
  | inr a ↦ (let l : p ≤ n = grind (arith, nat_tests) in let l2 : p + 1 ≤ n = omega (arith, l, ne) in reads-below n (p + 1) l2 ∙ sym (reads-below n p l))
]

readers_mono : (f d : ℕ) (ps : List (Option ℕ)) → readers_of f ps ≤ readers_of (f + d) ps
readers_mono f zero ps = (let e : f + 0 ≡ f = omega arith in rw e (omega arith))
readers_mono f (suc d) ps = (let e : f + suc d ≡ suc (f + d) = omega arith in rw e (omega (arith, readers_mono f d ps, readers_more (f + d) ps)))

-- the count in front stays, and where there was none a new one stands there
first_wanted : (cs : List ℕ) (n s : ℕ) → length cs ≡ n → (0 < n → 0 < slice_index cs 0) → 0 < s → 0 < slice_index (cs ++ s ∷ []) 0
first_wanted [] n s e h l = l
first_wanted (c ∷ cs) n s e h l = (let a : suc (length cs) ≡ n = e in let b : 0 < n = omega (arith, a) in h b)

drop_set : (cs : List ℕ) (j c : ℕ) → j ≡ 0 → drop 1 (slice_set cs j c) ≡ drop 1 cs
drop_set [] j c e = refl
drop_set (x ∷ cs) zero c e = refl
drop_set (x ∷ cs) (suc j) c e = absurd (omega (arith, e))

trimmed_front : {T : Type 0} (n : ℕ) (ps : List (Option ℕ)) (ms : List T) → is_read n ps ≡ true → trimmed n ps ms ≡ trimmed (suc n) ps (drop 1 ms)
trimmed_front n ps [] e = refl
trimmed_front n ps (m ∷ ms) e = rw e refl

-- a read by a clone
pub takes_clone : {T E : Type 0} (C : T → T → Type 0) (place n : ℕ) (log log2 : Log T) (r : Result T E) → oldest log ≤ n → is_last place n log ≡ false → IfOk r (λ given. ClonesAt C (n - oldest log) log.held given) → OnOk r (log2 ≡ settled (moved place (n + 1) log)) → IfOk r (λ given. Takes C place n log given log2)
takes_clone C place n log log2 (Ok x) f l c s = record { from = f; gives = rw l c; after = s }
takes_clone C place n log log2 (Err e) f l c s = tt

pub refused_clone : {T E : Type 0} (I : T → Type 0) (place n : ℕ) (log : Log T) (r : Result T E) → oldest log ≤ n → is_last place n log ≡ false → OnErr r (MayFailAt I (n - oldest log) log.held) → OnErr r (IsRefused I place n log)
refused_clone I place n log (Ok x) f l c = tt
refused_clone I place n log (Err e) f l c = record { from = f; shared = l; fails = c }

module _ {T : Type 0} (cap subs : ℕ) where
  pub log_new : (next : ℕ) → 1 ≤ cap → IsLog {T = T} cap subs [] [] next (replicate subs None) 0
  log_new next h = record {
    room = h;
    places = length-replicate subs None;
    numbered = omega arith;
    counted = record { paired = refl; each = λ k l. absurd (omega (arith, l)) };
    within = λ i p e. absurd (let n : None ≡ Some p = sym (nobody_there subs i) ∙ e in cc);
    live = sym (nobody_live subs);
    wanted = λ l. absurd (omega (arith, l));
  }

  -- the number in front has a reader
  front : (ms : List T) (cs : List ℕ) (next : ℕ) (ps : List (Option ℕ)) (s : ℕ) → IsLog cap subs ms cs next ps s → 0 < length ms → 0 < readers_of (next - length ms) ps
  front ms cs next ps s L l = (let e : (next - length ms) + 0 ≡ next - length ms = omega arith in let c : slice_index cs 0 ≡ readers_of (next - length ms) ps = L.counted.each 0 l ∙ ap (λ j. readers_of j ps) e in omega (arith, c, L.wanted l))

  -- nothing is held that all have read
  log_settled : (ms : List T) (cs : List ℕ) (next : ℕ) (ps : List (Option ℕ)) (s : ℕ) → IsLog cap subs ms cs next ps s → trimmed (next - length ms) ps ms ≡ ms
  log_settled ms cs next ps s L = trimmed_none (next - length ms) ps ms (front ms cs next ps s L)

  module _ (ms : List T) (cs : List ℕ) (next : ℕ) (ps : List (Option ℕ)) (s : ℕ) (L : IsLog cap subs ms cs next ps s) where
    pub log_hold : (m : T) → 0 < s → IsLog cap subs (ms ++ m ∷ []) (cs ++ s ∷ []) (next + 1) ps s
    log_hold m h = (let n : length (ms ++ m ∷ []) ≡ suc (length ms) = omega (arith, length_push ms m) in
        let f : next - length ms ≡ (next + 1) - length (ms ++ m ∷ []) = omega (arith, n, L.numbered) in
        let back : (next - length ms) + length ms ≡ next = omega (arith, L.numbered) in
        record {
          room = L.room;
          places = L.places;
          numbered = omega (arith, n, L.numbered);
          counted = subst (λ j. AreCounted (ms ++ m ∷ []) (cs ++ s ∷ []) j ps) f (counted_push ms m cs s (next - length ms) ps L.counted (L.live ∙ sym (readers_all next ps L.within) ∙ ap (λ j. readers_of j ps) (sym back)));
          within = λ i p e. omega (arith, L.within i p e);
          live = L.live;
          wanted = λ l. first_wanted cs (length ms) s L.counted.paired L.wanted h;
        })

    pub log_join : (i : ℕ) → slice_get ps i ≡ Some None → IsLog cap subs ms cs next (slice_set ps i (Some next)) (s + 1)
    log_join i e = (let l : i < length ps = free_below ps i e in let there : slice_index_or ps i None ≡ None = free_there ps i e in record {
      room = L.room;
      places = length-set ps i (Some next) ∙ L.places;
      numbered = L.numbered;
      counted = counted_same ms cs (next - length ms) ps (slice_set ps i (Some next)) (λ n h h2. (let a : n < next = omega (arith, h2, L.numbered) in let b : reads n (slice_index_or ps i None) ≡ 0 = ap (reads n) there in omega (arith, readers_set n ps i (Some next) l, b, reads-above n next a))) L.counted;
      within = within_set next ps i (Some next) (some_is next next (omega arith)) L.within;
      live = (let a : live_at (slice_index_or ps i None) ≡ 0 = ap live_at there in let b : count_by is_some (slice_set ps i (Some next)) + live_at (slice_index_or ps i None) ≡ count_by is_some ps + 1 = live_set ps i (Some next) l in omega (arith, L.live, a, b));
      wanted = L.wanted;
    })

    -- whoever is live has a position
    pub log_position : (i : ℕ) → is_some (slice_index_or ps i None) ≡ true → slice_index_or ps i None ≡ Some (number_of (slice_index_or ps i None))
    log_position i e = some_number (slice_index_or ps i None) e

    -- a subscriber that reads all that is held, at another position where it does
    pub log_lag : (i p q : ℕ) → slice_index_or ps i None ≡ Some p → p ≤ next - length ms → q ≤ next - length ms → IsLog cap subs ms cs next (slice_set ps i (Some q)) s
    log_lag i p q e b c = (let l : i < length ps = place_below ps i (ap is_some e) in let f : q ≤ next = omega (arith, c) in record {
      room = L.room;
      places = length-set ps i (Some q) ∙ L.places;
      numbered = L.numbered;
      counted = counted_same ms cs (next - length ms) ps (slice_set ps i (Some q)) (λ n h h2. (let a : reads n (slice_index_or ps i None) ≡ 1 = ap (reads n) e ∙ reads-below n p (omega (arith, b, h)) in omega (arith, readers_set n ps i (Some q) l, a, reads-below n q (omega (arith, c, h))))) L.counted;
      within = within_set next ps i (Some q) (some_is q next f) L.within;
      live = (let a : live_at (slice_index_or ps i None) ≡ 1 = ap live_at e in let b : count_by is_some (slice_set ps i (Some q)) + live_at (slice_index_or ps i None) ≡ count_by is_some ps + 1 = live_set ps i (Some q) l in omega (arith, L.live, a, b));
      wanted = L.wanted;
    })

    -- the oldest message leaves
    pub log_pop : 0 < length ms → IsLog cap subs (drop 1 ms) (drop 1 cs) next ps s
    log_pop h = (let f : next - length ms + 1 ≡ next - length (drop 1 ms) = omega (arith, length-drop 1 ms, L.numbered, h) in
        let d : AreCounted (drop 1 ms) (drop 1 cs) (next - length ms + 1) ps = counted_drop 1 ms cs (next - length ms) ps L.counted in
        record {
          room = L.room;
          places = L.places;
          numbered = omega (arith, length-drop 1 ms, L.numbered);
          counted = subst (λ j. AreCounted (drop 1 ms) (drop 1 cs) j ps) f d;
          within = L.within;
          live = L.live;
          wanted = λ l. (let e : next - length ms + 1 + 0 ≡ suc (next - length ms) = omega arith in let c : slice_index (drop 1 cs) 0 ≡ readers_of (suc (next - length ms)) ps = d.each 0 l ∙ ap (λ j. readers_of j ps) e in omega (arith, c, front ms cs next ps s L h, readers_more (next - length ms) ps));
        })

    pub log_clear : IsLog {T = T} cap subs [] [] next ps s
    log_clear = record {
      room = L.room;
      places = L.places;
      numbered = omega arith;
      counted = record { paired = refl; each = λ k l. absurd (omega (arith, l)) };
      within = L.within;
      live = L.live;
      wanted = λ l. absurd (omega (arith, l));
    }

    module _ (i p : ℕ) (e : slice_index_or ps i None ≡ Some p) where
      live_there : i < length ps
      live_there = place_below ps i (ap is_some e)

      -- without the subscriber
      pub readers_without : (n : ℕ) → p ≤ n → suc (readers_of n (slice_set ps i None)) ≡ readers_of n ps
      readers_without n h = (let a : reads n (slice_index_or ps i None) ≡ 1 = ap (reads n) e ∙ reads-below n p h in let b : readers_of n (slice_set ps i None) + reads n (slice_index_or ps i None) ≡ readers_of n ps + 0 = readers_set n ps i None live_there in omega (arith, a, b))

      readers_without_above : (n : ℕ) → n < p → readers_of n (slice_set ps i None) ≡ readers_of n ps
      readers_without_above n h = (let a : reads n (slice_index_or ps i None) ≡ 0 = ap (reads n) e ∙ reads-above n p h in let b : readers_of n (slice_set ps i None) + reads n (slice_index_or ps i None) ≡ readers_of n ps + 0 = readers_set n ps i None live_there in omega (arith, a, b))

      -- each message from its position on has a reader: it
      pub log_lowers : (k : ℕ) → p - (next - length ms) ≤ k → k < length ms → 0 < slice_index cs k
      log_lowers k h l = omega (arith, L.counted.each k l, readers_has (next - length ms + k) ps i p live_there e (omega (arith, h)))

      module _ (cs2 : List ℕ) (from : ℕ) (start : from ≡ p - (next - length ms)) (same : length cs2 ≡ length cs) (before : (k : ℕ) → k < from → slice_index cs2 k ≡ slice_index cs k) (behind : (k : ℕ) → from ≤ k → k < length ms → suc (slice_index cs2 k) ≡ slice_index cs k) where
        -- the counts once the subscriber is gone
        pub left_counted : AreCounted ms cs2 (next - length ms) (slice_set ps i None)
        left_counted = record {
          paired = same ∙ L.counted.paired;
          each = λ k l. elim (true_or_false (nat_lt k from)) [
            | inl t ↦ (let b : k < from = grind (arith, nat_tests) in let b2 : next - length ms + k < p = omega (arith, b, start) in before k b ∙ L.counted.each k l ∙ sym (readers_without_above (next - length ms + k) b2))
            | inr t ↦ (let b : from ≤ k = grind (arith, nat_tests) in let b2 : p ≤ next - length ms + k = omega (arith, b, start) in omega (arith, behind k b l, L.counted.each k l, readers_without (next - length ms + k) b2))
          ];
        }

        pub log_leave : IsLog cap subs (drop (unread cs2) ms) (drop (unread cs2) cs2) next (slice_set ps i None) (s - 1)
        log_leave = (let u : unread cs2 ≤ length ms = omega (arith, unread-le cs2, same, L.counted.paired) in
            let f : next - length ms + unread cs2 ≡ next - length (drop (unread cs2) ms) = omega (arith, length-drop (unread cs2) ms, L.numbered, u) in
            record {
              room = L.room;
              places = length-set ps i None ∙ L.places;
              numbered = omega (arith, length-drop (unread cs2) ms, L.numbered);
              counted = subst (λ j. AreCounted (drop (unread cs2) ms) (drop (unread cs2) cs2) j (slice_set ps i None)) f (counted_drop (unread cs2) ms cs2 (next - length ms) (slice_set ps i None) left_counted);
              within = within_set next ps i None (λ r n. absurd cc) L.within;
              live = (let a : live_at (slice_index_or ps i None) ≡ 1 = ap live_at e in let b : count_by is_some (slice_set ps i None) + live_at (slice_index_or ps i None) ≡ count_by is_some ps + 0 = live_set ps i None live_there in omega (arith, L.live, a, b));
              wanted = λ l. unread_wanted cs2 (omega (arith, l, length-drop (unread cs2) ms, length-drop (unread cs2) cs2, same, L.counted.paired));
            })

        pub log_left : ◌≡◌ {A = Log T} (record { held = drop (unread cs2) ms; next = next; positions = slice_set ps i None }) (left i (record { held = ms; next = next; positions = ps }))
        log_left = (let f : List T → Log T = λ h. record { held = h; next = next; positions = slice_set ps i None } in ap f (sym (trimmed_unread ms cs2 (next - length ms) (slice_set ps i None) left_counted)))

      -- there is somebody to leave
      pub log_some : 0 < s
      log_some = (let a : live_at (slice_index_or ps i None) ≡ 1 = ap live_at e in let b : count_by is_some (slice_set ps i None) + live_at (slice_index_or ps i None) ≡ count_by is_some ps + 0 = live_set ps i None live_there in omega (arith, L.live, a, b))

      -- the message at its position
      module _ (h : next - length ms ≤ p) (l : p < next) where
        here : next - length ms + (p - (next - length ms)) ≡ p
        here = omega (arith, h)

        pub log_index : p - (next - length ms) < length ms
        log_index = omega (arith, h, l, L.numbered)

        read_count : slice_index cs (p - (next - length ms)) ≡ readers_of p ps
        read_count = L.counted.each (p - (next - length ms)) log_index ∙ ap (λ j. readers_of j ps) here

        readers_next : (n : ℕ) → (n ≡ p → ⊥) → readers_of n (slice_set ps i (Some (p + 1))) ≡ readers_of n ps
        readers_next n ne = (let a : reads n (slice_index_or ps i None) ≡ reads n (Some p) = ap (reads n) e in omega (arith, readers_set n ps i (Some (p + 1)) live_there, a, reads_step n p ne))

        readers_here : suc (readers_of p (slice_set ps i (Some (p + 1)))) ≡ readers_of p ps
        readers_here = (let a : reads p (slice_index_or ps i None) ≡ 1 = ap (reads p) e ∙ reads-below p p (omega arith) in omega (arith, readers_set p ps i (Some (p + 1)) live_there, a, reads-above p (p + 1) (omega arith)))

        read_lowered : AreCounted ms (slice_set cs (p - (next - length ms)) (slice_index cs (p - (next - length ms)) - 1)) (next - length ms) (slice_set ps i (Some (p + 1)))
        read_lowered = record {
          paired = length-set cs (p - (next - length ms)) (slice_index cs (p - (next - length ms)) - 1) ∙ L.counted.paired;
          each = λ k b. elim (same_or_not k (p - (next - length ms))) [
            | inl s ↦ (let n : next - length ms + k ≡ p = omega (arith, s, h) in let lt : p - (next - length ms) < length cs = omega (arith, log_index, L.counted.paired) in
                ap (λ j. slice_index (slice_set cs (p - (next - length ms)) (slice_index cs (p - (next - length ms)) - 1)) j) s
                ∙ get_or-set_same cs (p - (next - length ms)) (slice_index cs (p - (next - length ms)) - 1) 0 lt
                ∙ (let d : slice_index cs (p - (next - length ms)) - 1 ≡ readers_of p (slice_set ps i (Some (p + 1))) = omega (arith, read_count, readers_here) in d)
                ∙ ap (λ j. readers_of j (slice_set ps i (Some (p + 1)))) (sym n))
            | inr o ↦ (let ne : next - length ms + k ≡ p → ⊥ = λ q. o (omega (arith, q, h)) in
                get_or-set_other cs (p - (next - length ms)) k (slice_index cs (p - (next - length ms)) - 1) 0 o ∙ L.counted.each k b ∙ sym (readers_next (next - length ms + k) ne))
          ];
        }

        next_live : s ≡ count_by is_some (slice_set ps i (Some (p + 1)))
        next_live = (let a : live_at (slice_index_or ps i None) ≡ 1 = ap live_at e in let b : count_by is_some (slice_set ps i (Some (p + 1))) + live_at (slice_index_or ps i None) ≡ count_by is_some ps + 1 = live_set ps i (Some (p + 1)) live_there in omega (arith, L.live, a, b))

        -- another reads it too: its count is one lower
        module _ (more : 1 < slice_index cs (p - (next - length ms))) where
          pub log_take : IsLog cap subs ms (slice_set cs (p - (next - length ms)) (slice_index cs (p - (next - length ms)) - 1)) next (slice_set ps i (Some (p + 1))) s
          log_take = record {
            room = L.room;
            places = length-set ps i (Some (p + 1)) ∙ L.places;
            numbered = L.numbered;
            counted = read_lowered;
            within = within_set next ps i (Some (p + 1)) (some_is (p + 1) next (omega (arith, l))) L.within;
            live = next_live;
            wanted = λ z. elim (same_or_not 0 (p - (next - length ms))) [
              | inl q ↦ (let lt : p - (next - length ms) < length cs = omega (arith, log_index, L.counted.paired) in
                  let c : slice_index (slice_set cs (p - (next - length ms)) (slice_index cs (p - (next - length ms)) - 1)) 0 ≡ slice_index cs (p - (next - length ms)) - 1 = ap (λ j. slice_index (slice_set cs (p - (next - length ms)) (slice_index cs (p - (next - length ms)) - 1)) j) q ∙ get_or-set_same cs (p - (next - length ms)) (slice_index cs (p - (next - length ms)) - 1) 0 lt in omega (arith, c, more))
              | inr o ↦ omega (arith, get_or-set_other cs (p - (next - length ms)) 0 (slice_index cs (p - (next - length ms)) - 1) 0 o, L.wanted z)
            ];
          }

          pub log_shared : is_read p (slice_set ps i None) ≡ false
          log_shared = unread_where_some p (slice_set ps i None) (omega (arith, readers_without p (omega arith), read_count, more))

          pub log_took : ◌≡◌ {A = Log T} (record { held = ms; next = next; positions = slice_set ps i (Some (p + 1)) }) (settled (moved i (p + 1) (record { held = ms; next = next; positions = ps })))
          log_took = (let f : List T → Log T = λ h. record { held = h; next = next; positions = slice_set ps i (Some (p + 1)) } in ap f (sym (trimmed_none (next - length ms) (slice_set ps i (Some (p + 1))) ms (λ z. (let w : 0 < length ms = z in let q : next - length ms + 0 ≡ next - length ms = omega arith in omega (arith, log_take.wanted w, log_take.counted.each 0 w ∙ ap (λ j. readers_of j (slice_set ps i (Some (p + 1)))) q))))))

        -- nobody else reads it: it is in front, and leaves
        module _ (one : slice_index cs (p - (next - length ms)) ≡ 1) where
          none_else : readers_of p (slice_set ps i None) ≡ 0
          none_else = omega (arith, readers_without p (omega arith), read_count, one)

          pub log_front : p ≡ next - length ms
          log_front = elim (true_or_false (nat_lt (next - length ms) p)) [
            | inl t ↦ (let b : next - length ms < p = grind (arith, nat_tests) in let w : 0 < readers_of (next - length ms) ps = front ms cs next ps s L (omega (arith, log_index)) in
                let m : readers_of (next - length ms) (slice_set ps i None) ≤ readers_of (next - length ms + (p - (next - length ms))) (slice_set ps i None) = readers_mono (next - length ms) (p - (next - length ms)) (slice_set ps i None) in
                let m2 : readers_of (next - length ms + (p - (next - length ms))) (slice_set ps i None) ≡ readers_of p (slice_set ps i None) = ap (λ j. readers_of j (slice_set ps i None)) here in
                absurd (omega (arith, m, m2, w, none_else, readers_without_above (next - length ms) b)))
            | inr t ↦ (let b : p ≤ next - length ms = grind (arith, nat_tests) in omega (arith, b, h))
          ]

          pub log_last : is_read p (slice_set ps i None) ≡ true
          log_last = read_where_none p (slice_set ps i None) none_else

          pub log_take_last : IsLog cap subs (drop 1 ms) (drop 1 cs) next (slice_set ps i (Some (p + 1))) s
          log_take_last = (let f : next - length ms + 1 ≡ next - length (drop 1 ms) = omega (arith, length-drop 1 ms, L.numbered, log_index) in
              let d : AreCounted (drop 1 ms) (drop 1 cs) (next - length ms + 1) (slice_set ps i (Some (p + 1))) = subst (λ zs. AreCounted (drop 1 ms) zs (next - length ms + 1) (slice_set ps i (Some (p + 1)))) (drop_set cs (p - (next - length ms)) (slice_index cs (p - (next - length ms)) - 1) (omega (arith, log_front))) (counted_drop 1 ms (slice_set cs (p - (next - length ms)) (slice_index cs (p - (next - length ms)) - 1)) (next - length ms) (slice_set ps i (Some (p + 1))) read_lowered) in
              record {
                room = L.room;
                places = length-set ps i (Some (p + 1)) ∙ L.places;
                numbered = omega (arith, length-drop 1 ms, L.numbered);
                counted = subst (λ j. AreCounted (drop 1 ms) (drop 1 cs) j (slice_set ps i (Some (p + 1)))) f d;
                within = within_set next ps i (Some (p + 1)) (some_is (p + 1) next (omega (arith, l))) L.within;
                live = next_live;
                wanted = λ z. omega (arith, d.each 0 z, readers_has (next - length ms + 1 + 0) (slice_set ps i (Some (p + 1))) i (p + 1) (omega (arith, length-set ps i (Some (p + 1)), live_there)) (get_or-set_same ps i (Some (p + 1)) None live_there) (omega (arith, log_front)));
              })

          gone : is_read (next - length ms) (slice_set ps i (Some (p + 1))) ≡ true
          gone = read_where_none (next - length ms) (slice_set ps i (Some (p + 1))) (ap (λ j. readers_of j (slice_set ps i (Some (p + 1)))) (sym log_front) ∙ (let z : readers_of p (slice_set ps i (Some (p + 1))) ≡ 0 = omega (arith, readers_here, read_count, one) in z))

          pub log_took_last : ◌≡◌ {A = Log T} (record { held = drop 1 ms; next = next; positions = slice_set ps i (Some (p + 1)) }) (settled (moved i (p + 1) (record { held = ms; next = next; positions = ps })))
          log_took_last = (let f : List T → Log T = λ h. record { held = h; next = next; positions = slice_set ps i (Some (p + 1)) } in
              let n : suc (next - length ms) ≡ next - length (drop 1 ms) = omega (arith, length-drop 1 ms, L.numbered, log_index) in
              ap f (sym (trimmed_front (next - length ms) (slice_set ps i (Some (p + 1))) ms gone ∙ ap (λ j. trimmed j (slice_set ps i (Some (p + 1))) (drop 1 ms)) n ∙ log_settled (drop 1 ms) (drop 1 cs) next (slice_set ps i (Some (p + 1))) s log_take_last)))

        -- which of the two it is
        read_some : 0 < slice_index cs (p - (next - length ms))
        read_some = log_lowers (p - (next - length ms)) (omega arith) log_index

        pub last_test : (slice_index cs (p - (next - length ms)) == 1) ≡ is_read p (slice_set ps i None)
        last_test = elim (true_or_false (slice_index cs (p - (next - length ms)) == 1)) [
          | inl t ↦ t ∙ sym (log_last (grind (arith, nat_tests)))
          | inr t ↦ t ∙ sym (log_shared (grind (arith, nat_tests, read_some)))
        ]

        pub last_one : is_read p (slice_set ps i None) ≡ true → slice_index cs (p - (next - length ms)) ≡ 1
        last_one t = (let e : (slice_index cs (p - (next - length ms)) == 1) ≡ true = last_test ∙ t in grind (arith, nat_tests))

        pub shared_more : is_read p (slice_set ps i None) ≡ false → 1 < slice_index cs (p - (next - length ms))
        shared_more t = (let e : (slice_index cs (p - (next - length ms)) == 1) ≡ false = last_test ∙ t in let z : 0 < slice_index cs (p - (next - length ms)) = read_some in grind (arith, nat_tests))
