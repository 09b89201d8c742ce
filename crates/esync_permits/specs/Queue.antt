-- The queue of a fair semaphore: the requests that wait, in order.
use Rattle.std.specs.Prelude.{◌≡◌, ℕ, ◌<◌, ◌==◌, Bool, true, false, List, [], ◌∷◌, ◌++◌, map, length, Option, Some, None, if◌then◌else◌, refl}
use Rattle.std.specs.Coded.{Coded, code_by, coded×, coded_ℕ}
use Rattle.esync_base.specs.Listed.{is_in}
use Rattle.esync_permits.specs.declared.queue.Entry.{Entry}

-- the list without the number, where it first stands
abbrev pub without : ℕ → List ℕ → List ℕ
without t [] = []
without t (x ∷ xs) = if x == t then xs else x ∷ without t xs

-- whether the number is in front
abbrev pub is_front : ℕ → List ℕ → Bool
is_front t [] = false
is_front t (x ∷ xs) = x == t

-- whether it is a request's turn: it is in front, or has no number and no request waits
abbrev pub is_next : Option ℕ → List ℕ → Bool
is_next None [] = true
is_next None (x ∷ xs) = false
is_next (Some t) xs = is_front t xs

-- the least number that is not in the list
pub record IsLeastFree (t : ℕ) (xs : List ℕ) : Type 0 where
  pub free : is_in t xs ≡ false
  pub least : (k : ℕ) → k < t → is_in k xs ≡ true

module _ {W : Type 0} where
  -- the numbers of the entries
  abbrev pub numbers : List (Entry W) → List ℕ
  numbers es = map (λ e. e.number) es

  -- the waker in the entry with this number
  abbrev pub wakers_at : ℕ → List (Entry W) → List W
  wakers_at t [] = []
  wakers_at t (e ∷ es) = if e.number == t then e.waker ∷ [] else wakers_at t es

  -- the waker in the front entry
  abbrev pub front_wakers : List (Entry W) → List W
  front_wakers [] = []
  front_wakers (e ∷ es) = e.waker ∷ []

  -- the queue with one more request at the back
  abbrev pub entered : ℕ → W → List (Entry W) → List (Entry W)
  entered t w es = es ++ record { number = t; waker = w } ∷ []

  -- the queue with this waker in the entry with this number
  abbrev pub with_waker : ℕ → W → List (Entry W) → List (Entry W)
  with_waker t w [] = []
  with_waker t w (e ∷ es) = if e.number == t then record { number = e.number; waker = w } ∷ es else e ∷ with_waker t w es

  -- the queue without the entry with this number
  abbrev pub left_by : ℕ → List (Entry W) → List (Entry W)
  left_by t [] = []
  left_by t (e ∷ es) = if e.number == t then es else e ∷ left_by t es

  -- the entry with this number stands behind i others
  pub record StandsAt (t : ℕ) (i : ℕ) (es : List (Entry W)) : Type 0 where
    pub before : List (Entry W)
    pub entry : Entry W
    pub behind : List (Entry W)
    pub split : es ≡ before ++ entry ∷ behind
    pub count : length before ≡ i
    pub first : is_in t (numbers before) ≡ false
    pub number : entry.number ≡ t

abbrev pub entry_code : {W : Type 0} → Coded W → Coded (Entry W)
entry_code {W} w =
    code_by (ℕ × W) (coded× coded_ℕ w) (λ e. (e.number, e.waker)) (λ p. record { number = p.0; waker = p.1 }) (λ _. refl)
