-- What is owed to who waits stays owed or is handed out, as messages are published and read and subscribers come and go.
use Rattle.std.proofs.Common.{◌≡◌, ℕ, zero, suc, ◌+◌, ◌-◌, ◌<◌, ◌≤◌, Bool, true, false, List, [], ◌∷◌, ◌++◌, length, drop, Option, Some, None, nat_lt, refl, sym, ap, subst, arith, ◌∙◌, ◌⊎◌, inl, inr}
use Rattle.std.specs.Prelude.{is_some, slice_set, slice_index_or, if◌then◌else◌, Result, Ok, Err}
use Rattle.std.specs.List.{list_any}
use Rattle.std.proofs.lemmas.Bool.Decides.{nat_tests}
use Rattle.std.proofs.lemmas.List.{length_push, length-drop, get_or-set_same, get_or-set_other}
use Rattle.esync_base.specs.Registration.{IsAmong, registered_if, displaced_if}
use Rattle.esync_base.specs.RegistrationLaws.{kept_or_displaced_if}
use Rattle.esync_base.specs.ListedLaws.{true_or_false, same_or_not}
use Rattle.esync_base.specs.declared.waitqueue.Poll.{Poll}
use Rattle.esync_base.specs.declared.waitqueue.Poll.TheVariants.{Pending as NotYet, Ready}
use Rattle.esync_log.specs.Log.{Log, oldest, is_read, trimmed, number_of, has_subscribers, is_live, position, published, with_room, moved, settled, left, without, cleared, lags, caught, caught_if, found, gap, Joins, Accepts, Publishes, PublishesAtOnce, Reads, ReadsOn, Streams}
use Rattle.esync_pubsub.specs.PubSub.{Lists, frees, lists_after_news, wakes_of_news, lists_after_room, wakes_of_room, lists_after_immediate, wakes_of_immediate, lists_after_publish, wakes_of_publish, lists_after_read, wakes_of_read, lists_after_stream, wakes_of_stream}
use Rattle.esync_pubsub.specs.PubSubRules.{OwesNews, OwesRoom, IsBelow, read_log}
use Rattle.esync_log.specs.LogLaws.{place_below, free_below}
use Rattle.esync_log.specs.declared.log.TryPublishError.{TryPublishError}
use Rattle.esync_log.specs.declared.log.TryPublishError.TheVariants.{Full, Exhausted}
use Rattle.esync_log.specs.declared.log.Exhausted.{Exhausted as NoNumber}
use Rattle.esync_log.specs.declared.log.WaitResult.{WaitResult}
use Rattle.esync_log.specs.declared.log.WaitResult.TheVariants.{Lagged, Message as Given}

-- another position at one place
pub some_set : (ps : List (Option ℕ)) (i p : ℕ) → list_any is_some ps ≡ true → list_any is_some (slice_set ps i (Some p)) ≡ true
some_set [] i p e = e
some_set (q ∷ ps) zero p e = refl
some_set (Some x ∷ ps) (suc i) p e = refl
some_set (None ∷ ps) (suc i) p e = some_set ps i p e

other_there : (ps : List (Option ℕ)) (i : ℕ) (x : Option ℕ) (j : ℕ) → (j ≡ i → ⊥) → slice_index_or (slice_set ps i x) j None ≡ slice_index_or ps j None
other_there ps i x j ne = get_or-set_other ps i j x None ne

live_set : (ps : List (Option ℕ)) (i p j : ℕ) → is_some (slice_index_or ps i None) ≡ true → is_some (slice_index_or (slice_set ps i (Some p)) j None) ≡ is_some (slice_index_or ps j None)
live_set ps i p j e = elim (same_or_not j i) [
  | inl s ↦ subst (λ k. is_some (slice_index_or (slice_set ps i (Some p)) k None) ≡ is_some (slice_index_or ps k None)) (sym s) (ap is_some (get_or-set_same ps i (Some p) None (place_below ps i e)) ∙ sym e)
  | inr n ↦ ap is_some (other_there ps i (Some p) j n)
]

-- nobody reads what is left where nobody is
nobody_reads : (n : ℕ) (ps : List (Option ℕ)) → list_any is_some ps ≡ false → is_read n ps ≡ true
nobody_reads n [] e = refl
nobody_reads n (None ∷ ps) e = nobody_reads n ps e
nobody_reads n (Some p ∷ ps) e = absurd cc

module _ {T : Type 0} where
  trimmed-le : (n : ℕ) (ps : List (Option ℕ)) (ms : List T) → length (trimmed n ps ms) ≤ length ms
  trimmed-le n ps [] = omega arith
  trimmed-le n ps (m ∷ ms) = elim (true_or_false (is_read n ps)) [
    | inl e ↦ rw e (omega (arith, trimmed-le (suc n) ps ms))
    | inr e ↦ rw e (omega arith)
  ]

  trimmed-nobody : (n : ℕ) (ps : List (Option ℕ)) (ms : List T) → list_any is_some ps ≡ false → length (trimmed n ps ms) ≡ 0
  trimmed-nobody n ps [] e = refl
  trimmed-nobody n ps (m ∷ ms) e = rw (nobody_reads n ps e) (trimmed-nobody (suc n) ps ms e)

  -- the subscriber at the place goes on, and nobody else does
  pub record GoesOn (place : ℕ) (log log2 : Log T) : Type 0 where
    pub next : log2.next ≡ log.next
    pub others : (q : ℕ) → (q ≡ place → ⊥) → position q log2 ≡ position q log
    pub own : position place log ≡ log.next → position place log2 ≡ log.next
    pub live : (q : ℕ) → is_live q log2 ≡ is_live q log
    pub somebody : has_subscribers log ≡ true → has_subscribers log2 ≡ true
    pub fewer : length log2.held ≤ length log.held

  goes_same : (place : ℕ) (log log2 : Log T) → log2 ≡ log → GoesOn place log log2
  goes_same place log log2 e =
      let k : GoesOn place log log = record { next = refl; others = λ q n. refl; own = λ h. h; live = λ q. refl; somebody = λ h. h; fewer = omega arith } in
      subst (λ x. GoesOn place log x) (sym e) k

  goes_moved : (place p : ℕ) (log : Log T) → is_live place log ≡ true → (position place log ≡ log.next → ⊥) → GoesOn place log (moved place p log)
  goes_moved place p log here n = record {
    next = refl;
    others = λ q ne. ap number_of (other_there log.positions place (Some p) q ne);
    own = λ h. absurd (n h);
    live = λ q. live_set log.positions place p q here;
    somebody = λ h. some_set log.positions place p h;
    fewer = omega arith;
  }

  goes_settled : (place : ℕ) (log log2 : Log T) → GoesOn place log log2 → GoesOn place log (settled log2)
  goes_settled place log log2 g = record {
    next = g.next;
    others = g.others;
    own = g.own;
    live = g.live;
    somebody = g.somebody;
    fewer = omega (arith, g.fewer, trimmed-le (oldest log2) log2.positions log2.held);
  }

  goes_then : (place : ℕ) (log log2 log3 : Log T) → GoesOn place log log2 → GoesOn place log2 log3 → GoesOn place log log3
  goes_then place log log2 log3 g h = record {
    next = h.next ∙ g.next;
    others = λ q ne. h.others q ne ∙ g.others q ne;
    own = λ e. h.own (g.own e ∙ sym g.next) ∙ g.next;
    live = λ q. h.live q ∙ g.live q;
    somebody = λ e. h.somebody (g.somebody e);
    fewer = omega (arith, g.fewer, h.fewer);
  }

  module _ (C : T → T → Type 0) where
    pub read_goes : (place : ℕ) (log : Log T) (answer : Option (WaitResult T)) (log2 : Log T) → is_live place log ≡ true → IsBelow answer (position place log) log → Reads C place log answer log2 → GoesOn place log log2
    read_goes place log None log2 here b h = goes_same place log log2 h.1
    read_goes place log (Some (Lagged k)) log2 here b h = subst (λ x. GoesOn place log x) (sym h.2) (goes_moved place (oldest log) log here (λ e. omega (arith, h.0)))
    read_goes place log (Some (Given v)) log2 here b h = subst (λ x. GoesOn place log x) (sym h.after) (goes_settled place log (moved place (position place log + 1) log) (goes_moved place (position place log + 1) log here (λ e. omega (arith, b))))

    pub read_is : (place : ℕ) (log : Log T) (answer : Option (WaitResult T)) (log2 : Log T) → Reads C place log answer log2 → log2 ≡ read_log place log answer
    read_is place log None log2 h = h.1
    read_is place log (Some (Lagged k)) log2 h = h.2
    read_is place log (Some (Given v)) log2 h = h.after

  caught_goes : (b : Bool) (place : ℕ) (log : Log T) → lags place log ≡ b → is_live place log ≡ true → GoesOn place log (caught_if b place log)
  caught_goes true place log e here = (let l : position place log < oldest log = grind (arith, nat_tests) in goes_moved place (oldest log) log here (λ s. omega (arith, l)))
  caught_goes false place log e here = goes_same place log log refl

  pub caught_held : (b : Bool) (place : ℕ) (log : Log T) → (caught_if b place log).held ≡ log.held
  caught_held true place log = refl
  caught_held false place log = refl

  -- whether more are held is the same of a log that holds the same
  frees_caught : (place : ℕ) (log log2 : Log T) → frees (caught place log) log2 ≡ frees log log2
  frees_caught place log log2 = ap (λ ms. nat_lt (length log2.held) (length ms)) (caught_held (lags place log) place log)

pub below_found : {T : Type 0} (answer : Option T) (p : ℕ) (log log2 : Log T) → log2.next ≡ log.next → IsBelow answer p log → IsBelow (found answer) p log2
below_found None p log log2 e b = tt
below_found (Some a) p log log2 e b = omega (arith, b, e)

pub pure_goes : {T : Type 0} (C : T → T → Type 0) (place : ℕ) (log : Log T) (answer : Option T) (log2 : Log T) → is_live place log ≡ true → IsBelow answer (position place (caught place log)) log → ReadsOn C place log answer log2 → GoesOn place log log2
pure_goes C place log answer log2 here b h =
    let on = caught place log in
    let g : GoesOn place log on = caught_goes (lags place log) place log refl here in
    goes_then place log on log2 g (read_goes C place on (found answer) log2 (g.live place ∙ here) (below_found answer (position place on) log on g.next b) h)

-- what is owed before is handed out, or owed after
pub record Keeps {T W : Type 0} (eq : W → W → Bool) (cap : ℕ) (log log2 : Log T) (l l2 : Lists W) (wakes : List W) : Type 0 where
  pub news : (q : ℕ) (v : W) → OwesNews eq q log l v → IsAmong eq v wakes ⊎ OwesNews eq q log2 l2 v
  pub room : (v : W) → OwesRoom eq cap log l v → IsAmong eq v wakes ⊎ OwesRoom eq cap log2 l2 v
  pub live : (q : ℕ) → is_live q log2 ≡ is_live q log

module _ {T W : Type 0} (eq : W → W → Bool) (cap : ℕ) (l : Lists W) where
  pub keeps_same : (log log2 : Log T) (wakes : List W) → log2 ≡ log → Keeps eq cap log log2 l l wakes
  keeps_same log log2 wakes e =
      let k : Keeps eq cap log log l l wakes = record { news = λ q v o. inr o; room = λ v o. inr o; live = λ q. refl } in
      subst (λ x. Keeps eq cap log x l l wakes) (sym e) k

  -- a waker that waits for room displaces others at most
  keeps_wait : (log log2 : Log T) (n : ℕ) (w : Option W) → log2 ≡ log → Keeps eq cap log log2 l (record l { publishers = registered_if eq n l.publishers w }) (displaced_if eq n l.publishers w)
  keeps_wait log log2 n w e =
      let k : Keeps eq cap log log l (record l { publishers = registered_if eq n l.publishers w }) (displaced_if eq n l.publishers w) = record {
        news = λ q v o. inr o;
        room = λ v o. elim (kept_or_displaced_if eq n l.publishers v w o.2) [ inl d ↦ inl d | inr s ↦ inr (o.0, o.1, s) ];
        live = λ q. refl;
      } in
      subst (λ x. Keeps eq cap log x l (record l { publishers = registered_if eq n l.publishers w }) (displaced_if eq n l.publishers w)) (sym e) k

  keeps_news : (message : T) (live : Bool) (log log2 : Log T) → (live ≡ true → length log.held < cap) → Accepts live log log2 (published message log) → Keeps eq cap log log2 l (lists_after_news live l) (wakes_of_news live l)
  keeps_news message true log log2 room h =
      let k : Keeps eq cap log (published message log) l (lists_after_news true l) (wakes_of_news true l) = record {
        news = λ q v o. inl o.1;
        room = λ v o. absurd (omega (arith, o.1, room refl));
        live = λ q. refl;
      } in
      subst (λ x. Keeps eq cap log x l (lists_after_news true l) (wakes_of_news true l)) (sym h.1) k
  keeps_news message false log log2 room h = keeps_same log log2 [] h

  pub keeps_publish : (message : T) (n : ℕ) (w : Option W) (log log2 : Log T) (r : Result (Unit {0}) (TryPublishError T)) → Publishes cap message log r log2 → Keeps eq cap log log2 l (lists_after_publish eq n w (has_subscribers log) r l) (wakes_of_publish eq n w (has_subscribers log) r l)
  keeps_publish message n w log log2 (Ok done) h = keeps_news message (has_subscribers log) log log2 h.0 h.1
  keeps_publish message n w log log2 (Err (Full back)) h = keeps_wait log log2 n w h.3
  keeps_publish message n w log log2 (Err (Exhausted back)) h = keeps_same log log2 [] h.4

  -- a full log stays full
  full_length : (message : T) (held : List T) → 1 ≤ cap → length held ≡ cap → length ((if nat_lt (length held) cap then held else drop 1 held) ++ message ∷ []) ≡ cap
  full_length message held c e =
      let f : nat_lt (length held) cap ≡ false = grind (arith, nat_tests) in
      rw f (omega (arith, length_push (drop 1 held) message, length-drop 1 held, e))

  keeps_once : (message : T) (live : Bool) (log log2 : Log T) → 1 ≤ cap → Accepts live log log2 (published message (with_room cap log)) → Keeps eq cap log log2 l (lists_after_news live l) (wakes_of_news live l)
  keeps_once message true log log2 c h =
      let k : Keeps eq cap log (published message (with_room cap log)) l (lists_after_news true l) (wakes_of_news true l) = record {
        news = λ q v o. inl o.1;
        room = λ v o. inr (o.0, full_length message log.held c o.1, o.2);
        live = λ q. refl;
      } in
      subst (λ x. Keeps eq cap log x l (lists_after_news true l) (wakes_of_news true l)) (sym h.1) k
  keeps_once message false log log2 c h = keeps_same log log2 [] h

  pub keeps_immediate : (message : T) (log log2 : Log T) (r : Result (Unit {0}) (NoNumber T)) → 1 ≤ cap → PublishesAtOnce cap message log r log2 → Keeps eq cap log log2 l (lists_after_immediate (has_subscribers log) r l) (wakes_of_immediate (has_subscribers log) r l)
  keeps_immediate message log log2 (Ok done) c h = keeps_once message (has_subscribers log) log log2 c h
  keeps_immediate message log log2 (Err refused) c h = keeps_same log log2 [] h.3

  module _ (place : ℕ) (log log2 : Log T) (g : GoesOn place log log2) where
    -- who has read all still has
    has_read : (q : ℕ) → position q log ≡ log.next → position q log2 ≡ log2.next
    has_read q e = elim (same_or_not q place) [
      | inl s ↦ subst (λ k. position k log2 ≡ log2.next) (sym s) (g.own (subst (λ k. position k log ≡ log.next) s e) ∙ sym g.next)
      | inr n ↦ g.others q n ∙ e ∙ sym g.next
    ]

    -- where no message leaves, as many are held
    stays_full : frees log log2 ≡ false → length log2.held ≡ length log.held
    stays_full f = (let e : length log.held ≤ length log2.held = grind (arith, nat_tests) in omega (arith, e, g.fewer))

    -- whatever is handed out, if no message leaves
    keeps_held : (wakes : List W) → frees log log2 ≡ false → Keeps eq cap log log2 l l wakes
    keeps_held wakes f = record { news = λ q v o. inr (has_read q o.0, o.1); room = λ v o. inr (g.somebody o.0, stays_full f ∙ o.1, o.2); live = g.live }

    keeps_freed : (b : Bool) → frees log log2 ≡ b → Keeps eq cap log log2 l (lists_after_room b l) (wakes_of_room b l)
    keeps_freed true f = record { news = λ q v o. inr (has_read q o.0, o.1); room = λ v o. inl o.2; live = g.live }
    keeps_freed false f = keeps_held [] f

    -- nothing is read: the waker that waits displaces others at most
    keeps_nothing : (n : ℕ) (w : Option W) → frees log log2 ≡ false → Keeps eq cap log log2 l (record l { subscribers = registered_if eq n l.subscribers w }) (displaced_if eq n l.subscribers w)
    keeps_nothing n w f = record {
      news = λ q v o. elim (kept_or_displaced_if eq n l.subscribers v w o.1) [ inl d ↦ inl d | inr s ↦ inr (has_read q o.0, s) ];
      room = λ v o. inr (g.somebody o.0, stays_full f ∙ o.1, o.2);
      live = g.live;
    }

    keeps_answer : {A : Type 0} (n : ℕ) (w : Option W) (answer : Option A) → (answer ≡ None → frees log log2 ≡ false) → Keeps eq cap log log2 l (lists_after_read eq n w answer (frees log log2) l) (wakes_of_read eq n w answer (frees log log2) l)
    keeps_answer n w None f = keeps_nothing n w (f refl)
    keeps_answer n w (Some a) f = keeps_freed (frees log log2) refl

  same_held : (log log2 : Log T) → log2.held ≡ log.held → frees log log2 ≡ false
  same_held log log2 e = (let n : length log2.held ≡ length log.held = ap length e in grind (arith, nat_tests))

  module _ (C : T → T → Type 0) (n : ℕ) (w : Option W) (place : ℕ) (log : Log T) (here : is_live place log ≡ true) where
    none_freed : (answer : Option (WaitResult T)) (log2 : Log T) → Reads C place log answer log2 → answer ≡ None → frees log log2 ≡ false
    none_freed None log2 h e = same_held log log2 (ap (λ x. x.held) h.1)
    none_freed (Some a) log2 h e = absurd cc

    pub keeps_read : (answer : Option (WaitResult T)) (log2 : Log T) → IsBelow answer (position place log) log → Reads C place log answer log2 → Keeps eq cap log log2 l (lists_after_read eq n w answer (frees log (read_log place log answer)) l) (wakes_of_read eq n w answer (frees log (read_log place log answer)) l)
    keeps_read answer log2 b h =
        subst (λ x. Keeps eq cap log log2 l (lists_after_read eq n w answer (frees log x) l) (wakes_of_read eq n w answer (frees log x) l)) (read_is C place log answer log2 h)
        (keeps_answer place log log2 (read_goes C place log answer log2 here b h) n w answer (none_freed answer log2 h))

  found_none : (answer : Option T) → answer ≡ None → found answer ≡ None
  found_none None e = refl
  found_none (Some a) e = absurd cc

  module _ (C : T → T → Type 0) (n : ℕ) (place : ℕ) (log : Log T) (here : is_live place log ≡ true) where
    pub keeps_pure : (w : Option W) (answer : Option T) (log2 : Log T) → IsBelow answer (position place (caught place log)) log → ReadsOn C place log answer log2 → Keeps eq cap log log2 l (lists_after_read eq n w answer (frees log (read_log place (caught place log) (found answer))) l) (wakes_of_read eq n w answer (frees log (read_log place (caught place log) (found answer))) l)
    keeps_pure w answer log2 b h =
        let on = caught place log in
        let g : GoesOn place log on = caught_goes (lags place log) place log refl here in
        subst (λ x. Keeps eq cap log log2 l (lists_after_read eq n w answer (frees log x) l) (wakes_of_read eq n w answer (frees log x) l)) (read_is C place on (found answer) log2 h)
        (keeps_answer place log log2 (pure_goes C place log answer log2 here b h) n w answer (λ e. sym (frees_caught place log log2) ∙ none_freed C n w place on (g.live place ∙ here) (found answer) log2 h (found_none answer e)))

    keeps_gap : (b : Bool) (k : ℕ) (w : W) (freed : Bool) (log2 : Log T) → Reads C place log (gap b k) log2 → Keeps eq cap log log2 l (lists_after_stream eq {A = Option T} n w b NotYet freed l) (wakes_of_stream eq {A = Option T} n w b NotYet freed l)
    keeps_gap true k w freed log2 h =
        let g : GoesOn place log log2 = read_goes C place log (Some (Lagged k)) log2 here (omega (arith, h.0)) h in
        keeps_held place log log2 g (w ∷ []) (same_held log log2 (ap (λ x. x.held) h.2))
    keeps_gap false k w freed log2 h = keeps_nothing place log log2 (goes_same place log log2 h.1) n (Some w) (same_held log log2 (ap (λ x. x.held) h.1))

    pub keeps_stream : (w : W) (answer : Poll (Option T)) (log2 : Log T) → ((a : Option T) → answer ≡ Ready a → IsBelow a (position place log) log) → Streams C place log answer log2 → Keeps eq cap log log2 l (lists_after_stream eq n w (lags place log) answer (frees log (settled (moved place (position place log + 1) log))) l) (wakes_of_stream eq n w (lags place log) answer (frees log (settled (moved place (position place log + 1) log))) l)
    keeps_stream w (Ready (Some v)) log2 b h = keeps_read C n (Some w) place log here (Some (Given v)) log2 (b (Some v) refl) h
    keeps_stream w (Ready None) log2 b h = absurd h
    keeps_stream w NotYet log2 b h = keeps_gap (lags place log) (oldest log - position place log) w (frees log (settled (moved place (position place log + 1) log))) log2 h

  pub keeps_clear : (log : Log T) → Keeps eq cap log (cleared log) l (lists_after_room true l) (wakes_of_room true l)
  keeps_clear log = record { news = λ q v o. inr o; room = λ v o. inl o.2; live = λ q. refl }

  -- a subscriber leaves
  module _ (place : ℕ) (log : Log T) where
    fewer_left : length (left place log).held ≤ length log.held
    fewer_left = trimmed-le (oldest log) (without place log).positions log.held

    somebody_left : 1 ≤ cap → length log.held ≡ cap → frees log (left place log) ≡ false → has_subscribers (left place log) ≡ true
    somebody_left c e f = elim (true_or_false (has_subscribers (left place log))) [
      | inl t ↦ t
      | inr n ↦ (let z : length (left place log).held ≡ 0 = trimmed-nobody (oldest log) (without place log).positions log.held n in let m : length log.held ≤ length (left place log).held = grind (arith, nat_tests) in absurd (omega (arith, z, m, e, c)))
    ]

    left_frees : (b : Bool) → frees log (left place log) ≡ b → 1 ≤ cap → (v : W) → OwesRoom eq cap log l v → IsAmong eq v (wakes_of_room b l) ⊎ OwesRoom eq cap (left place log) (lists_after_room b l) v
    left_frees true f c v o = inl o.2
    left_frees false f c v o = (let m : length log.held ≤ length (left place log).held = grind (arith, nat_tests) in let e : length (left place log).held ≡ cap = omega (arith, m, fewer_left, o.1) in inr (somebody_left c o.1 f, e, o.2))

    pub left_room : 1 ≤ cap → (v : W) → OwesRoom eq cap log l v → IsAmong eq v (wakes_of_room (frees log (left place log)) l) ⊎ OwesRoom eq cap (left place log) (lists_after_room (frees log (left place log)) l) v
    left_room c v o = left_frees (frees log (left place log)) refl c v o

    -- the other subscribers' wakers stay
    stays_news : (b : Bool) (v : W) → IsAmong eq v l.subscribers → IsAmong eq v (lists_after_room b l).subscribers
    stays_news true v i = i
    stays_news false v i = i

    pub left_news : (b : Bool) (q : ℕ) (v : W) → (q ≡ place → ⊥) → OwesNews eq q log l v → OwesNews eq q (left place log) (lists_after_room b l) v
    left_news b q v ne o = (ap number_of (other_there log.positions place None q ne) ∙ o.0, stays_news b v o.1)

  -- a subscriber comes
  module _ (place : ℕ) (log log2 : Log T) (h : Joins log (Some place) log2) where
    joined : (q : ℕ) → position q log ≡ log.next → position q (moved place log.next log) ≡ log.next
    joined q e = elim (same_or_not q place) [
      | inl s ↦ subst (λ k. position k (moved place log.next log) ≡ log.next) (sym s) (ap number_of (get_or-set_same log.positions place (Some log.next) None (free_below log.positions place h.0.free)))
      | inr n ↦ ap number_of (other_there log.positions place (Some log.next) q n) ∙ e
    ]

    pub join_news : (q : ℕ) (v : W) → OwesNews eq q log l v → OwesNews eq q log2 l v
    join_news q v o = subst (λ x. OwesNews eq q x l v) (sym h.1) (joined q o.0, o.1)

    pub join_room : (v : W) → OwesRoom eq cap log l v → OwesRoom eq cap log2 l v
    join_room v o = subst (λ x. OwesRoom eq cap x l v) (sym h.1) (some_set log.positions place log.next o.0, o.1, o.2)

-- who is live after another left, and after one came
pub left_live : {T : Type 0} (place q : ℕ) (log : Log T) → (q ≡ place → ⊥) → is_live q (left place log) ≡ is_live q log
left_live place q log n = ap is_some (other_there log.positions place None q n)

pub gone_live : {T : Type 0} (place : ℕ) (log : Log T) → is_live place log ≡ true → is_live place (left place log) ≡ false
gone_live place log h = ap is_some (get_or-set_same log.positions place None None (place_below log.positions place h))

module _ {T : Type 0} (place : ℕ) (log log2 : Log T) (h : Joins log (Some place) log2) where
  pub join_here : is_live place log2 ≡ true
  join_here = subst (λ x. is_live place x ≡ true) (sym h.1) (ap is_some (get_or-set_same log.positions place (Some log.next) None (free_below log.positions place h.0.free)))

  pub join_live : (q : ℕ) → (q ≡ place → ⊥) → is_live q log2 ≡ is_live q log
  join_live q n = subst (λ x. is_live q x ≡ is_live q log) (sym h.1) (ap is_some (other_there log.positions place (Some log.next) q n))
