-- The entries of a queue.
use Rattle.std.proofs.Common.{◌≡◌, ℕ, zero, suc, ◌+◌, ◌<◌, ◌≤◌, Bool, true, false, List, [], ◌∷◌, ◌++◌, length, take, drop, refl, sym, ◌∙◌, ap, arith, inl, inr}
use Rattle.std.specs.Prelude.{◌==◌, map, slice_get, slice_set, Some, None, IsTrue, ◌↔◌, if◌then◌else◌}
use Rattle.std.specs.List.{remove}
use Rattle.std.proofs.lemmas.List.{length-append, map_more}
use Rattle.std.proofs.lemmas.Option.{slice_get_within, get_or_from_slice_get}
use Rattle.esync_permits.specs.declared.queue.Entry.{Entry}
use Rattle.esync_base.specs.Listed.{is_in}
use Rattle.esync_permits.specs.Queue.{without, is_front, is_next, numbers, wakers_at, front_wakers, entered, with_waker, left_by, StandsAt}
use Rattle.esync_base.specs.ListedLaws.{true_or_false, neither, equal_number, has_number-before}
use Rattle.esync_permits.proofs.Numbers.{not_another}

module _ {W : Type 0} where
  pub numbers-entered : (t : ℕ) (w : W) (es : List (Entry W)) → numbers (entered t w es) ≡ numbers es ++ t ∷ []
  numbers-entered t w [] = refl
  numbers-entered t w (e ∷ es) = ap (λ xs. e.number ∷ xs) (numbers-entered t w es)

  -- another waker is no change of the numbers
  pub numbers-with_waker : (t : ℕ) (w : W) (es : List (Entry W)) → numbers (with_waker t w es) ≡ numbers es
  numbers-with_waker t w [] = refl
  numbers-with_waker t w (e ∷ es) = elim (true_or_false (e.number == t)) [ inl i ↦ rw i refl | inr i ↦ rw i (ap (λ xs. e.number ∷ xs) (numbers-with_waker t w es)) ]

  pub numbers-left_by : (t : ℕ) (es : List (Entry W)) → numbers (left_by t es) ≡ without t (numbers es)
  numbers-left_by t [] = refl
  numbers-left_by t (e ∷ es) = elim (true_or_false (e.number == t)) [ inl i ↦ rw i refl | inr i ↦ rw i (ap (λ xs. e.number ∷ xs) (numbers-left_by t es)) ]

  -- another waker leaves as many entries
  pub length-with_waker : (t : ℕ) (w : W) (es : List (Entry W)) → length (with_waker t w es) ≡ length es
  length-with_waker t w [] = refl
  length-with_waker t w (e ∷ es) = elim (true_or_false (e.number == t)) [ inl i ↦ rw i refl | inr i ↦ rw i (ap suc (length-with_waker t w es)) ]

  -- no more entries stand in a queue that one has left
  pub length-left_by : (t : ℕ) (es : List (Entry W)) → length (left_by t es) ≤ length es
  length-left_by t [] = omega (arith)
  length-left_by t (e ∷ es) = elim (true_or_false (e.number == t)) [ inl i ↦ rw i (omega (arith)) | inr i ↦ rw i (omega (arith, length-left_by t es)) ]

  pub left_by-front : (t : ℕ) (es : List (Entry W)) → is_front t (numbers es) ≡ true → left_by t es ≡ drop 1 es
  left_by-front t [] h = refl
  left_by-front t (e ∷ es) h = rw h refl

  pub wakers_at-entered : (t : ℕ) (w : W) (es : List (Entry W)) → is_in t (numbers es) ≡ false → wakers_at t (entered t w es) ≡ w ∷ []
  wakers_at-entered t w [] h = rw (equal_number t t refl) refl
  wakers_at-entered t w (e ∷ es) h = (let o = neither (e.number == t) (is_in t (numbers es)) h in rw o.0 (wakers_at-entered t w es o.1))

  pub wakers_at-append : (u t : ℕ) (w : W) (es : List (Entry W)) → is_in u (numbers es) ≡ true → wakers_at u (entered t w es) ≡ wakers_at u es
  wakers_at-append u t w [] h = absurd cc
  wakers_at-append u t w (e ∷ es) h = elim (true_or_false (e.number == u)) [ inl i ↦ rw i refl | inr i ↦ rw i (wakers_at-append u t w es (rw i at h)) ]

  pub wakers_at-same : (t : ℕ) (w : W) (es : List (Entry W)) → is_in t (numbers es) ≡ true → wakers_at t (with_waker t w es) ≡ w ∷ []
  wakers_at-same t w [] h = absurd cc
  wakers_at-same t w (e ∷ es) h = elim (true_or_false (e.number == t)) [ inl i ↦ rw i (rw i refl) | inr i ↦ rw i (rw i (wakers_at-same t w es (rw i at h))) ]

  pub wakers_at-other : (t u : ℕ) (w : W) (es : List (Entry W)) → (t ≡ u → ⊥) → wakers_at u (with_waker t w es) ≡ wakers_at u es
  wakers_at-other t u w [] n = refl
  wakers_at-other t u w (e ∷ es) n = elim (true_or_false (e.number == t)) [
    | inl i ↦ rw i (rw (not_another e.number t u i n) refl)
    | inr i ↦ rw i (ap (λ (x : List W). if e.number == u then e.waker ∷ [] else x) (wakers_at-other t u w es n))
  ]

  pub wakers_at-left_by : (t u : ℕ) (es : List (Entry W)) → (t ≡ u → ⊥) → wakers_at u (left_by t es) ≡ wakers_at u es
  wakers_at-left_by t u [] n = refl
  wakers_at-left_by t u (e ∷ es) n = elim (true_or_false (e.number == t)) [
    | inl i ↦ rw i (rw (not_another e.number t u i n) refl)
    | inr i ↦ rw i (ap (λ (x : List W). if e.number == u then e.waker ∷ [] else x) (wakers_at-left_by t u es n))
  ]

  pub front_wakers-front : (u : ℕ) (es : List (Entry W)) → is_front u (numbers es) ≡ true → front_wakers es ≡ wakers_at u es
  front_wakers-front u [] f = absurd cc
  front_wakers-front u (e ∷ es) f = rw f refl

  -- what is in the queue where the entry of a number stands
  remove-split : (t : ℕ) (xs ys : List (Entry W)) (e : Entry W) → is_in t (numbers xs) ≡ false → e.number ≡ t → remove (xs ++ e ∷ ys) (length xs) ≡ left_by t (xs ++ e ∷ ys)
  remove-split t [] ys e f h = rw (equal_number e.number t h) refl
  remove-split t (x ∷ xs) ys e f h = (let o = neither (x.number == t) (is_in t (numbers xs)) f in rw o.0 (ap (λ zs. x ∷ zs) (remove-split t xs ys e o.1 h)))

  set-split : (t : ℕ) (w : W) (xs ys : List (Entry W)) (e : Entry W) → is_in t (numbers xs) ≡ false → e.number ≡ t → slice_set (xs ++ e ∷ ys) (length xs) (record { number = t; waker = w }) ≡ with_waker t w (xs ++ e ∷ ys)
  set-split t w [] ys e f h = rw (equal_number e.number t h, h) refl
  set-split t w (x ∷ xs) ys e f h = (let o = neither (x.number == t) (is_in t (numbers xs)) f in rw o.0 (ap (λ zs. x ∷ zs) (set-split t w xs ys e o.1 h)))

  module _ (t i : ℕ) (es : List (Entry W)) (s : StandsAt t i es) where
    pub stands-below : i < length es
    stands-below = let l : length es ≡ length s.before + length (s.entry ∷ s.behind) = ap length s.split ∙ length-append s.before (s.entry ∷ s.behind) in omega (arith, l, s.count)

    pub stands-remove : remove es i ≡ left_by t es
    stands-remove = rw (← s.count, s.split) (remove-split t s.before s.behind s.entry s.first s.number)

    pub stands-set : (w : W) → slice_set es i (record { number = t; waker = w }) ≡ with_waker t w es
    stands-set w = rw (← s.count, s.split) (set-split t w s.before s.behind s.entry s.first s.number)

  pub left_by-none : (t : ℕ) (es : List (Entry W)) → is_in t (numbers es) ≡ false → left_by t es ≡ es
  left_by-none t [] h = refl
  left_by-none t (e ∷ es) h = (let o = neither (e.number == t) (is_in t (numbers es)) h in rw o.0 (ap (λ xs. e ∷ xs) (left_by-none t es o.1)))

  pub with_waker-none : (t : ℕ) (w : W) (es : List (Entry W)) → is_in t (numbers es) ≡ false → with_waker t w es ≡ es
  with_waker-none t w [] h = refl
  with_waker-none t w (e ∷ es) h = (let o = neither (e.number == t) (is_in t (numbers es)) h in rw o.0 (ap (λ xs. e ∷ xs) (with_waker-none t w es o.1)))

  -- what tells an empty queue
  pub empty_next : (b : Bool) (es : List (Entry W)) → (IsTrue b ↔ (es ≡ [])) → b ≡ is_next None (numbers es)
  empty_next b [] h = h.1 refl
  empty_next true (e ∷ es) h = (let k = h.0 refl in absurd cc)
  empty_next false (e ∷ es) h = refl

  -- what stands at a place
  split_at : (es : List (Entry W)) (i : ℕ) (e : Entry W) → Some e ≡ slice_get es i → es ≡ take i es ++ e ∷ drop (suc i) es
  split_at [] i e h = absurd cc
  split_at (x ∷ es) zero e h = (let s : e ≡ x = cc in ap (λ y. y ∷ es) (sym s))
  split_at (x ∷ es) (suc i) e h = ap (λ xs. x ∷ xs) (split_at es i e h)

  count_at : (es : List (Entry W)) (i : ℕ) (e : Entry W) → Some e ≡ slice_get es i → length (take i es) ≡ i
  count_at [] i e h = absurd cc
  count_at (x ∷ es) zero e h = refl
  count_at (x ∷ es) (suc i) e h = ap suc (count_at es i e h)

  -- the waker at a place
  pub waker_at : (i : ℕ) (es : List (Entry W)) (e : Entry W) → Some e ≡ slice_get es i → Some e.waker ≡ slice_get (map (λ x. x.waker) es) i
  waker_at i [] e h = absurd cc
  waker_at zero (x ∷ es) e h = (let s : e ≡ x = cc in ap (λ (y : Entry W). Some y.waker) s)
  waker_at (suc i) (x ∷ es) e h = waker_at i es e h

  pub no_waker_at : (i : ℕ) (es : List (Entry W)) → length es ≤ i → None ≡ slice_get (map (λ x. x.waker) es) i
  no_waker_at i [] h = refl
  no_waker_at zero (x ∷ es) h = absurd (omega (arith, h))
  no_waker_at (suc i) (x ∷ es) h = no_waker_at i es (omega (arith, h))

  pub stands_found : (t i : ℕ) (es : List (Entry W)) (e : Entry W) → Some e ≡ slice_get es i → is_in t (numbers (take i es)) ≡ false → e.number ≡ t → StandsAt t i es
  stands_found t i es e h f n = record { before = take i es; entry = e; behind = drop (suc i) es; split = split_at es i e h; count = count_at es i e h; first = f; number = n }

  -- the numbers of the first entries, with one more entry
  pub numbers-take : (i : ℕ) (es : List (Entry W)) (e : Entry W) → Some e ≡ slice_get es i → numbers (take (i + 1) es) ≡ numbers (take i es) ++ e.number ∷ []
  numbers-take i es e h =
      let l = slice_get_within es i e (sym h) in
      map_more (λ x. x.number) es i e l ∙ ap (λ (x : Entry W). numbers (take i es) ++ x.number ∷ []) (get_or_from_slice_get es i e e (sym h))

  -- an entry with another number makes no difference
  pub not_found : (t i : ℕ) (es : List (Entry W)) (e : Entry W) → Some e ≡ slice_get es i → is_in t (numbers (take i es)) ≡ false → (e.number ≡ t → ⊥) → is_in t (numbers (take (i + 1) es)) ≡ false
  not_found t i es e h f n = ap (is_in t) (numbers-take i es e h) ∙ has_number-before (λ k. k) t (numbers (take i es)) e.number (λ s. n (sym s)) ∙ f

  -- the entry in front
  pub front_is : (t : ℕ) (es : List (Entry W)) (e : Entry W) → Some e ≡ slice_get es 0 → (e.number == t) ≡ is_front t (numbers es)
  front_is t [] e h = absurd cc
  front_is t (x ∷ es) e h = (let s : e ≡ x = cc in ap (λ y. y.number == t) s)

  pub no_front : (t : ℕ) (es : List (Entry W)) → None ≡ slice_get es 0 → false ≡ is_front t (numbers es)
  no_front t [] h = refl
  no_front t (x ∷ es) h = absurd cc
