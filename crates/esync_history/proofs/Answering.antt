-- What the tasks heard, and the room for what they will hear.
use Rattle.std.proofs.Common.{◌≡◌, ℕ, zero, suc, ◌+◌, ◌-◌, ◌<◌, Bool, true, false, not, List, [], ◌∷◌, ◌++◌, map, length, get_or, take, Option, Some, None, is_none, zip, inl, inr, refl, sym, ap, ◌∙◌, arith, length-append, length-set, take-suc}
use Rattle.std.specs.Prelude.{slice_get, slice_set, slice_index, slice_index_or}
use Rattle.std.specs.Option.{option_to_list, unwrap_or}
use Rattle.std.proofs.lemmas.List.{map-append, map-set, get_or-map}
use Rattle.esync_base.specs.declared.waitqueue.TaskId.{TaskId}
use Rattle.esync_machine.specs.Runs.{Meaning, Semantics, Step}
use Rattle.esync_history.specs.declared.executor.Act.{Act}
use Rattle.esync_history.specs.declared.executor.Act.TheVariants.{Await, Call}
use Rattle.esync_history.specs.Answered.{Answered, noted, used}
use Rattle.esync_history.specs.Todo.{Todo, Executing, fresh, acts_left, act_counts}
use Rattle.esync_history.specs.Turns.{IsPoll, Acts, IsTurn, Turns}

pub same_answered : {Reply : Type 0} (us vs : List (List Reply)) (ms ns : List ℕ) → us ≡ vs → ms ≡ ns → ◌≡◌ {A = Answered Reply} (record { replies = us; room = ms }) (record { replies = vs; room = ns })
same_answered us vs ms ns e f = rw (e, f) refl

-- an element more on both sides
pub maps_more : {A B C : Type 0} (f : A → C) (g : B → C) (vs : List A) (v : A) (ws : List B) (i : ℕ) (w : B) → i < length ws → w ≡ get_or ws i w → map f vs ≡ map g (take i ws) → f v ≡ g w → map f (vs ++ v ∷ []) ≡ map g (take (suc i) ws)
maps_more f g vs v ws i w l at e h =
    map-append f vs (v ∷ [])
    ∙ ap (λ xs. xs ++ f v ∷ []) e
    ∙ ap (λ x. map g (take i ws) ++ x ∷ []) (h ∙ ap g at)
    ∙ sym (map-append g (take i ws) (get_or ws i w ∷ []))
    ∙ ap (map g) (sym (take-suc ws i w l))

pub read_mapped : {A B : Type 0} (f : A → B) (xs : List A) (k : ℕ) (x : A) (d : B) → k < length xs → x ≡ get_or xs k x → get_or (map f xs) k d ≡ f x
read_mapped f xs k x d l at = get_or-map f xs k x d l ∙ ap f (sym at)

-- the last of one or two answers
pub last_told : {Reply : Type 0} (first : Reply) (second : Option Reply) → (earlier : List Reply) × (first ∷ option_to_list second ≡ earlier ++ unwrap_or second first ∷ [])
last_told first None = ([], refl)
last_told first (Some answer) = (first ∷ [], refl)

pub not_noted : {Reply : Type 0} (h : Answered Reply) (k : ℕ) (over : Bool) (answer : Reply) → over ≡ false → h ≡ record { replies = noted h.replies k over answer; room = used h.room k over }
not_noted h k true answer e = absurd cc
not_noted h k false answer e = refl

pub is_noted : {Reply : Type 0} (h new : Answered Reply) (k : ℕ) (over : Bool) (answer : Reply) → over ≡ true → new ≡ record { replies = noted h.replies k true answer; room = slice_set h.room k (slice_index h.room k - 1) } → new ≡ record { replies = noted h.replies k over answer; room = used h.room k over }
is_noted h new k true answer e n = n
is_noted h new k false answer e n = absurd cc

pub length-noted : {Reply : Type 0} (heard : List (List Reply)) (k : ℕ) (over : Bool) (answer : Reply) → length (noted heard k over answer) ≡ length heard
length-noted heard k true answer = length-set heard k (slice_index_or heard k [] ++ answer ∷ [])
length-noted heard k false answer = refl

-- what is to be read there is there
pub room_there : (room : List ℕ) (k : ℕ) → 0 < slice_index room k → k < length room
room_there [] k h = absurd (omega arith)
room_there (n ∷ room) zero h = omega arith
room_there (n ∷ room) (suc k) h = omega (arith, room_there room k h)

abbrev pub one_if : Bool → ℕ
one_if true = 1
one_if false = 0

pub over_told : (request : Bool) (over : Bool) → request ≡ not over → over ≡ not request
over_told true true e = absurd cc
over_told true false e = refl
over_told false true e = refl
over_told false false e = absurd cc

module _ {Command Reply : Type 0} (M : Meaning Command Reply TaskId) where
  poll_counted : {Ask : Type 0} (w : TaskId) (r : ℕ) (s : Step M.Object Command Reply) (back : Bool) (acts : List (Act Ask Command)) (left : Todo Ask Command) → IsPoll M w r s back left.request → left.acts ≡ acts → suc (length acts) ≡ acts_left left + one_if (is_none left.request)
  poll_counted w r s back acts left h e = elim h.1 [ inl q ↦ rw (q.0, e) (omega arith) | inr q ↦ rw (q.0, e) (omega arith) ]

  -- an act that is over is one less to do
  pub acts_counted : {Ask : Type 0} (starting : ℕ → Ask → Command) (w : TaskId) (task : Todo Ask Command) (steps : List (Step M.Object Command Reply)) (back : Bool) (left : Todo Ask Command) → Acts M starting w task.request task.acts steps back left → acts_left task ≡ acts_left left + one_if (is_none left.request)
  acts_counted {Ask = Ask} starting w task steps back left h = by_cases task.request task.acts h
    where
      by_cases : (request : Option ℕ) (acts : List (Act Ask Command)) → Acts M starting w request acts steps back left → length (option_to_list request) + length acts ≡ acts_left left + one_if (is_none left.request)
      by_cases (Some r) acts h = omega (arith, poll_counted w r h.0 back acts left h.2 h.3)
      by_cases None [] h = absurd h
      by_cases None (Await r ask ∷ acts) h = elim h.0.2 [
        | inl q ↦ rw (q.3, h.1) (omega arith)
        | inr q ↦ omega (arith, poll_counted w r q.1.0 back acts left q.1.2 h.1)
      ]
      by_cases None (Call c ∷ acts) h = rw (h.4, h.5) (omega arith)

module _ {Ask Command : Type 0} where
  index_left : (tasks : List (Todo Ask Command)) (k : ℕ) (task : Todo Ask Command) → slice_get tasks k ≡ Some task → slice_index (map acts_left tasks) k ≡ acts_left task
  index_left [] k task e = absurd cc
  index_left (t ∷ tasks) zero task e = (let s : t ≡ task = cc in ap (λ (x : Todo Ask Command). acts_left x) s)
  index_left (t ∷ tasks) (suc k) task e = index_left tasks k task e

  as_many_left : (tasks : List (Todo Ask Command)) (k : ℕ) (task left : Todo Ask Command) → slice_get tasks k ≡ Some task → acts_left task ≡ acts_left left → map acts_left tasks ≡ map acts_left (slice_set tasks k left)
  as_many_left [] k task left e h = absurd cc
  as_many_left (t ∷ tasks) zero task left e h = (let s : t ≡ task = cc in ap (λ n. n ∷ map acts_left tasks) (ap (λ (x : Todo Ask Command). acts_left x) s ∙ h))
  as_many_left (t ∷ tasks) (suc k) task left e h = ap (λ ns. acts_left t ∷ ns) (as_many_left tasks k task left e h)

  -- there is room for the answer of an act that is over
  pub has_room : (tasks : List (Todo Ask Command)) (room : List ℕ) (k : ℕ) (task left : Todo Ask Command) (over : Bool) → room ≡ map acts_left tasks → slice_get tasks k ≡ Some task → acts_left task ≡ acts_left left + one_if over → over ≡ true → 0 < slice_index room k
  has_room tasks room k task left true e there h o = omega (arith, h, ap (λ ns. slice_index ns k) e ∙ index_left tasks k task there)
  has_room tasks room k task left false e there h o = absurd cc

  -- and for those of all others then
  pub room_after : (tasks : List (Todo Ask Command)) (room : List ℕ) (k : ℕ) (task left : Todo Ask Command) (over : Bool) → room ≡ map acts_left tasks → slice_get tasks k ≡ Some task → acts_left task ≡ acts_left left + one_if over → used room k over ≡ map acts_left (slice_set tasks k left)
  room_after tasks room k task left false e there h = e ∙ as_many_left tasks k task left there (omega (arith, h))
  room_after tasks room k task left true e there h =
      let one : slice_index (map acts_left tasks) k - 1 ≡ acts_left left = omega (arith, h, index_left tasks k task there) in
      ap (λ ns. slice_set ns k (slice_index ns k - 1)) e ∙ ap (λ n. slice_set (map acts_left tasks) k n) one ∙ sym (map-set acts_left tasks k left)

module _ {Ask Command A : Type 0} (items : A → List (Act Ask Command)) where
  acts_new : (us : List A) → map (λ u. length (items u)) us ≡ map acts_left (map (λ u. fresh (items u)) us)
  acts_new [] = refl
  acts_new (u ∷ us) =
      let n : length (items u) ≡ 0 + length (items u) = omega arith in
      ap (λ m. m ∷ map (λ w. length (items w)) us) n ∙ ap (λ ns. (0 + length (items u)) ∷ ns) (acts_new us)

  -- there is room for the answers of all acts
  pub enough_new : (us given : List A) (room : List ℕ) (tasks : List (Todo Ask Command)) → given ≡ us → room ≡ map (λ u. length (items u)) given → tasks ≡ map (λ u. fresh (items u)) us → room ≡ map acts_left tasks
  enough_new us given room tasks g r t = r ∙ ap (map (λ u. length (items u))) g ∙ acts_new us ∙ ap (map acts_left) (sym t)

module _ {Ask Command Reply : Type 0} where
  abbrev counts : List (List Reply) → List (Todo Ask Command) → List ℕ
  counts heard tasks = map (λ p. length p.0 + acts_left p.1) (zip heard tasks)

  counts_noted : (heard : List (List Reply)) (tasks : List (Todo Ask Command)) (k : ℕ) (task left : Todo Ask Command) (answer : Reply) → slice_get tasks k ≡ Some task → acts_left task ≡ acts_left left + 1 → counts (slice_set heard k (slice_index_or heard k [] ++ answer ∷ [])) (slice_set tasks k left) ≡ counts heard tasks
  counts_noted [] tasks k task left answer e h = refl
  counts_noted (xs ∷ heard) [] k task left answer e h = absurd cc
  counts_noted (xs ∷ heard) (t ∷ tasks) zero task left answer e h =
      let s : t ≡ task = cc in
      let n : length (xs ++ answer ∷ []) + acts_left left ≡ length xs + acts_left t = omega (arith, length-append xs (answer ∷ []), h, ap (λ (x : Todo Ask Command). acts_left x) s) in
      ap (λ m. m ∷ counts heard tasks) n
  counts_noted (xs ∷ heard) (t ∷ tasks) (suc k) task left answer e h = ap (λ ns. (length xs + acts_left t) ∷ ns) (counts_noted heard tasks k task left answer e h)

  counts_same : (heard : List (List Reply)) (tasks : List (Todo Ask Command)) (k : ℕ) (task left : Todo Ask Command) → slice_get tasks k ≡ Some task → acts_left task ≡ acts_left left → counts heard (slice_set tasks k left) ≡ counts heard tasks
  counts_same [] tasks k task left e h = refl
  counts_same (xs ∷ heard) [] k task left e h = absurd cc
  counts_same (xs ∷ heard) (t ∷ tasks) zero task left e h =
      let s : t ≡ task = cc in
      let n : length xs + acts_left left ≡ length xs + acts_left t = omega (arith, h, ap (λ (x : Todo Ask Command). acts_left x) s) in
      ap (λ m. m ∷ counts heard tasks) n
  counts_same (xs ∷ heard) (t ∷ tasks) (suc k) task left e h = ap (λ ns. (length xs + acts_left t) ∷ ns) (counts_same heard tasks k task left e h)

  counts_after : (heard : List (List Reply)) (tasks : List (Todo Ask Command)) (k : ℕ) (task left : Todo Ask Command) (over : Bool) (answer : Reply) → slice_get tasks k ≡ Some task → acts_left task ≡ acts_left left + one_if over → counts (noted heard k over answer) (slice_set tasks k left) ≡ counts heard tasks
  counts_after heard tasks k task left true answer e h = counts_noted heard tasks k task left answer e h
  counts_after heard tasks k task left false answer e h = counts_same heard tasks k task left e (omega (arith, h))

module _ {S Ask Command Reply : Type 0} (X : Semantics S Command Reply TaskId) (starting : ℕ → Ask → Command) where
  turn_counts : (old new : Executing S Ask Command Reply) → IsTurn X starting old new → act_counts new ≡ act_counts old
  turn_counts old new t =
      ap (λ hs. counts hs new.tasks) t.heard
      ∙ ap (λ ts. counts (noted old.heard t.number (is_none t.left.request) t.answer) ts) t.tasks
      ∙ counts_after old.heard old.tasks t.number t.task t.left (is_none t.left.request) t.answer t.there (acts_counted X.meaning starting (record { 0 = t.number }) t.task t.steps t.back t.left t.act)

  -- a task keeps the number of its acts, over and left
  pub turns_counts : (t : ℕ) (old new : Executing S Ask Command Reply) (steps : List (Step X.meaning.Object Command Reply)) → Turns X starting t old steps new → act_counts new ≡ act_counts old
  turns_counts zero old new steps h = ap (λ (e : Executing S Ask Command Reply). act_counts e) h.0
  turns_counts (suc t) old new steps h = turn_counts h.0 new h.3.0 ∙ turns_counts t old h.0 h.1 h.2
