-- What is unread at a position of a log, as messages are published, read and let go.
use Rattle.std.proofs.Common.{◌≡◌, ℕ, zero, suc, ◌+◌, ◌-◌, ◌<◌, ◌≤◌, Bool, true, false, List, [], ◌∷◌, ◌++◌, length, drop, Option, Some, None, inl, inr, refl, sym, ap, ◌∙◌, subst, arith}
use Rattle.std.specs.Prelude.{nat_lt, slice_get, if◌then◌else◌}
use Rattle.std.proofs.lemmas.Bool.Decides.{nat_tests}
use Rattle.std.proofs.lemmas.List.{length_push, length-drop, drop-drop, drop-append-le, drop_all}
use Rattle.esync_base.specs.ListedLaws.{true_or_false}
use Rattle.esync_log.specs.Log.{Log, oldest, is_read, trimmed, is_live, position, published, moved, settled, lags, caught, found, gap, Gives, Takes, Reads, ReadsOn, Streams}
use Rattle.esync_pubsub.specs.Order.{Reading, given_by, reading_of, behind, AreUnread, IsGiven, Follow}
use Rattle.esync_pubsub.proofs.Kept.{caught_held}
use Rattle.esync_log.specs.LogLaws.{caught_lagging, caught_up, moved_live, moved_position}
use Rattle.esync_base.specs.declared.waitqueue.Poll.TheVariants.{Pending as NotYet}
use Rattle.esync_log.specs.declared.log.WaitResult.{WaitResult}
use Rattle.esync_log.specs.declared.log.WaitResult.TheVariants.{Lagged, Message as Given}

module _ {T : Type 0} where
  -- those that are held, the oldest of which has the number o, and those from the number p on are the same, as far as both go
  abbrev Agree : ℕ → ℕ → List T → List T → Type 0
  Agree p o held unread = drop (p - o) held ≡ drop (o - p) unread

  agree_drop : (p o j : ℕ) (held unread : List T) → Agree p o held unread → Agree p (o + j) (drop j held) unread
  agree_drop p o j held unread a =
      let x = (o + j - p) - (o - p) in
      let front : j + (p - (o + j)) ≡ (p - o) + x = omega arith in
      let back : (o - p) + x ≡ o + j - p = omega arith in
      drop-drop (p - (o + j)) j held ∙ ap (λ n. drop n held) front ∙ sym (drop-drop x (p - o) held) ∙ ap (drop x) a ∙ drop-drop x (o - p) unread ∙ ap (λ n. drop n unread) back

  agree_push : (p o : ℕ) (held unread : List T) (m : T) → p ≤ o + length held → o ≤ p + length unread → Agree p o held unread → Agree p o (held ++ m ∷ []) (unread ++ m ∷ [])
  agree_push p o held unread m l k a =
      drop-append-le (p - o) held (m ∷ []) (omega arith) ∙ ap (λ l. l ++ m ∷ []) a ∙ sym (drop-append-le (o - p) unread (m ∷ []) (omega arith))

  -- the one at a place of the list is in front of those from there on
  got_front : (xs : List T) (k : ℕ) (m : T) → slice_get xs k ≡ Some m → (rest : List T) × (drop k xs ≡ m ∷ rest)
  got_front [] k m e = absurd cc
  got_front (x ∷ xs) zero m e = (let f : x ≡ m = cc in (xs, ap (λ y. y ∷ xs) f))
  got_front (x ∷ xs) (suc k) m e = got_front xs k m e

  -- messages leave in front alone
  abbrev pub IsEnd : List T → List T → Type 0
  IsEnd held held2 = (gone : ℕ) × (gone ≤ length held) × (held2 ≡ drop gone held)

  pub end_same : (held held2 : List T) → held2 ≡ held → IsEnd held held2
  end_same held held2 e = (0, omega arith, e)

  pub end_none : (held : List T) → IsEnd held []
  end_none held = (length held, omega arith, sym (drop_all (length held) held (omega arith)))

  pub end_settled : (n : ℕ) (ps : List (Option ℕ)) (ms : List T) → IsEnd ms (trimmed n ps ms)
  end_settled n ps [] = (0, omega arith, refl)
  end_settled n ps (m ∷ ms) = elim (true_or_false (is_read n ps)) [
    | inl e ↦ (let i = end_settled (suc n) ps ms in (suc i.0, omega (arith, i.1), rw e i.2))
    | inr e ↦ (0, omega arith, rw e refl)
  ]

  pub end_room : (b : Bool) (held : List T) → IsEnd held (if b then held else drop 1 held)
  end_room true held = (0, omega arith, refl)
  end_room false [] = (0, omega arith, refl)
  end_room false (m ∷ ms) = (1, omega arith, refl)

  -- no more messages are held than were published
  abbrev pub IsNumbered : Log T → Type 0
  IsNumbered log = length log.held ≤ log.next

  pub numbered_end : (log log2 : Log T) → IsNumbered log → log2.next ≡ log.next → IsEnd log.held log2.held → IsNumbered log2
  numbered_end log log2 n next e = (let l : length log2.held ≡ length log.held - e.0 = ap length e.2 ∙ length-drop e.0 log.held in omega (arith, l, n, next))

  -- the others at their places read on as before
  pub unread_end : (q : ℕ) (log log2 : Log T) (unread : List T) → IsNumbered log → log2.next ≡ log.next → position q log2 ≡ position q log → IsEnd log.held log2.held → AreUnread q log unread → AreUnread q log2 unread
  unread_end q log log2 unread n next there (gone, most, held) u =
      let l : length log2.held ≡ length log.held - gone = ap length held ∙ length-drop gone log.held in
      let o : oldest log2 ≡ oldest log + gone = omega (arith, l, n, most, next) in
      record {
        count = ap (λ p. p + length unread) there ∙ u.count ∙ sym next;
        held =
            ap (λ l. drop (position q log2 - oldest log2) l) held
            ∙ ap (λ p. drop (p - oldest log2) (drop gone log.held)) there
            ∙ ap (λ x. drop (position q log - x) (drop gone log.held)) o
            ∙ agree_drop (position q log) (oldest log) gone log.held unread u.held
            ∙ ap (λ x. drop (x - position q log) unread) (sym o)
            ∙ ap (λ p. drop (oldest log2 - p) unread) (sym there);
      }

  -- the subscriber at the place goes on by so many
  pub unread_moved : (q p j : ℕ) (log : Log T) (unread : List T) → is_live q log ≡ true → p ≡ position q log + j → j ≤ length unread → AreUnread q log unread → AreUnread q (moved q p log) (drop j unread)
  unread_moved q p j log unread here e l u =
      let there : position q (moved q p log) ≡ p = moved_position q log here p in
      let there2 : position q (moved q p log) ≡ position q log + j = there ∙ e in
      record {
        count = (let d = length-drop j unread in omega (arith, there2, d, l, u.count));
        held =
            ap (λ x. drop (x - oldest log) log.held) there2
            ∙ sym (agree_drop (oldest log) (position q log) j unread log.held (sym u.held))
            ∙ ap (λ x. drop (oldest log - x) (drop j unread)) (sym there2);
      }

  -- a message comes
  pub unread_published : (q : ℕ) (log : Log T) (unread : List T) (m : T) → IsNumbered log → AreUnread q log unread → AreUnread q (published m log) (unread ++ m ∷ [])
  unread_published q log unread m n u =
      let h = length_push log.held m in
      let o : oldest (published m log) ≡ oldest log = omega (arith, h, n) in
      record {
        count = (let d = length_push unread m in omega (arith, d, u.count));
        held =
            ap (λ x. drop (position q log - x) (log.held ++ m ∷ [])) o
            ∙ agree_push (position q log) (oldest log) log.held unread m (omega (arith, n, u.count)) (omega (arith, u.count)) u.held
            ∙ ap (λ x. drop (x - position q log) (unread ++ m ∷ [])) (sym o);
      }

  -- the message at the position is the first that is unread
  unread_front : (q : ℕ) (log : Log T) (unread : List T) (m : T) → oldest log ≤ position q log → slice_get log.held (position q log - oldest log) ≡ Some m → AreUnread q log unread → (rest : List T) × (unread ≡ m ∷ rest)
  unread_front q log unread m l e u =
      let f = got_front log.held (position q log - oldest log) m e in
      let z : oldest log - position q log ≡ 0 = omega (arith, l) in
      (f.0, sym (u.held ∙ ap (λ n. drop n unread) z) ∙ f.1)

  module _ (C : T → T → Type 0) where
    given_front : (q : ℕ) (log : Log T) (unread : List T) (b : Bool) (v : T) → oldest log ≤ position q log → Gives C b (position q log - oldest log) log.held v → AreUnread q log unread → IsGiven C (Some v) unread × (1 ≤ length unread)
    given_front q log unread true v l g u = (let f = unread_front q log unread v l g u in rw f.1 (inl refl, omega arith))
    given_front q log unread false v l g u = (let f = unread_front q log unread g.message l g.here u in rw f.1 (inr g.clone, omega arith))

    -- what the subscriber at the place was told by a step, of what it had not read
    pub record Tells (x : Reading T) (q : ℕ) (log2 : Log T) (unread : List T) : Type 0 where
      pub most : x.skipped ≤ length unread
      pub given : IsGiven C x.given (drop x.skipped unread)
      pub rest : AreUnread q log2 (behind x.given (drop x.skipped unread))

    -- a message is taken, after so many were passed over
    takes : (q : ℕ) (log log2 : Log T) (unread : List T) (v : T) → IsNumbered log → is_live q log ≡ true → Takes C q (position q log) log v log2 → AreUnread q log unread → IsGiven C (Some v) unread × AreUnread q log2 (drop 1 unread)
    takes q log log2 unread v n here t u =
        let g = given_front q log unread _ v t.from t.gives u in
        let m = unread_moved q (position q log + 1) 1 log unread here refl g.1 u in
        (g.0, subst (λ x. AreUnread q x (drop 1 unread)) (sym t.after) (unread_end q (moved q (position q log + 1) log) (settled (moved q (position q log + 1) log)) (drop 1 unread) n refl refl (end_settled (oldest log) (moved q (position q log + 1) log).positions log.held) m))

    lagged : (q : ℕ) (log log2 : Log T) (unread : List T) → is_live q log ≡ true → position q log < oldest log → log2 ≡ moved q (oldest log) log → AreUnread q log unread → (oldest log - position q log ≤ length unread) × AreUnread q log2 (drop (oldest log - position q log) unread)
    lagged q log log2 unread here l e u =
        let most : oldest log - position q log ≤ length unread = omega (arith, u.count) in
        let p : oldest log ≡ position q log + (oldest log - position q log) = omega (arith, l) in
        (most, subst (λ x. AreUnread q x (drop (oldest log - position q log) unread)) (sym e) (unread_moved q (oldest log) (oldest log - position q log) log unread here p most u))

    module _ (q : ℕ) (log log2 : Log T) (unread : List T) (n : IsNumbered log) (here : is_live q log ≡ true) (u : AreUnread q log unread) where
      pub read_tells : (answer : WaitResult T) → Reads C q log (Some answer) log2 → Tells (reading_of (oldest log - position q log) (given_by answer)) q log2 unread
      read_tells (Lagged k) r = (let m = lagged q log log2 unread here r.0 r.2 u in record { most = m.0; given = tt; rest = m.1 })
      read_tells (Given v) r =
          let t = takes q log log2 unread v n here r u in
          let k : Tells (reading_of 0 (Some v)) q log2 unread = record { most = omega arith; given = t.0; rest = t.1 } in
          let none : oldest log - position q log ≡ 0 = (let f = r.from in omega (arith, f)) in
          subst (λ x. Tells (reading_of x (Some v)) q log2 unread) (sym none) k

      nothing_tells : (over : ℕ) → over ≡ 0 → log2 ≡ log → Tells (reading_of over None) q log2 unread
      nothing_tells over none e =
          let k : Tells (reading_of 0 None) q log2 unread = record { most = omega arith; given = tt; rest = subst (λ x. AreUnread q x unread) (sym e) u } in
          subst (λ x. Tells (reading_of x None) q log2 unread) (sym none) k

      gap_tells : (b : Bool) → Reads C q log (gap b (oldest log - position q log)) log2 → Tells (reading_of (oldest log - position q log) None) q log2 unread
      gap_tells true r = (let m = lagged q log log2 unread here r.0 r.2 u in record { most = m.0; given = tt; rest = m.1 })
      gap_tells false r = nothing_tells (oldest log - position q log) (omega (arith, r.0)) r.1

      -- after so many that are gone
      module _ (over : ℕ) (most : over ≤ length unread) (log1 : Log T) (n1 : IsNumbered log1) (here1 : is_live q log1 ≡ true) (u1 : AreUnread q log1 (drop over unread)) where
        then_tells : (answer : Option T) → Reads C q log1 (found answer) log2 → Tells (reading_of over answer) q log2 unread
        then_tells None r = record { most = most; given = tt; rest = subst (λ x. AreUnread q x (drop over unread)) (sym r.1) u1 }
        then_tells (Some v) r = (let t = takes q log1 log2 (drop over unread) v n1 here1 r u1 in record { most = most; given = t.0; rest = t.1 })

      pub pure_tells : (answer : Option T) → ReadsOn C q log answer log2 → Tells (reading_of (oldest log - position q log) answer) q log2 unread
      pure_tells answer r = elim (true_or_false (nat_lt (position q log) (oldest log))) [
        | inl e ↦ (let l : position q log < oldest log = grind (arith, nat_tests) in let c = caught_lagging q log l in let m = lagged q log (moved q (oldest log) log) unread here l refl u in
            then_tells (oldest log - position q log) m.0 (moved q (oldest log) log) n (moved_live q log here (oldest log)) m.1 answer (subst (λ x. Reads C q x (found answer) log2) c r))
        | inr e ↦ (let l : oldest log ≤ position q log = grind (arith, nat_tests) in let c = caught_up q log l in let none : oldest log - position q log ≡ 0 = omega (arith, l) in
            subst (λ x. Tells (reading_of x answer) q log2 unread) (sym none) (then_tells 0 (omega arith) log n here u answer (subst (λ x. Reads C q x (found answer) log2) c r)))
      ]

      pub stream_tells : Streams C q log NotYet log2 → Tells (reading_of (oldest log - position q log) None) q log2 unread
      stream_tells r = gap_tells (lags q log) r

    -- what is held after a read
    pub read_end : (place : ℕ) (log log2 : Log T) (answer : Option (WaitResult T)) → Reads C place log answer log2 → IsEnd log.held log2.held
    read_end place log log2 None r = end_same log.held log2.held (ap (λ x. x.held) r.1)
    read_end place log log2 (Some (Lagged k)) r = end_same log.held log2.held (ap (λ x. x.held) r.2)
    read_end place log log2 (Some (Given v)) r = subst (λ x. IsEnd log.held x.held) (sym r.after) (end_settled (oldest log) (moved place (position place log + 1) log).positions log.held)

    pub pure_end : (place : ℕ) (log log2 : Log T) (answer : Option T) → ReadsOn C place log answer log2 → IsEnd log.held log2.held
    pure_end place log log2 answer r = subst (λ l. IsEnd l log2.held) (caught_held (lags place log) place log) (read_end place (caught place log) log2 (found answer) r)

    -- what was told so far, with a message that is published, and with a reading
    given_more : (given : Option T) (messages : List T) (m : T) → IsGiven C given messages → IsGiven C given (messages ++ m ∷ []) × (behind given (messages ++ m ∷ []) ≡ behind given messages ++ m ∷ [])
    given_more None messages m g = (tt, refl)
    given_more (Some v) [] m g = absurd g
    given_more (Some v) (x ∷ messages) m g = (g, refl)

    pub follow_published : (published unread : List T) (readings : List (Reading T)) (m : T) → Follow C published readings unread → Follow C (published ++ m ∷ []) readings (unread ++ m ∷ [])
    follow_published published unread [] m f = ap (λ l. l ++ m ∷ []) f
    follow_published published unread (x ∷ readings) m (most, given, rest) =
        let d : drop x.skipped (published ++ m ∷ []) ≡ drop x.skipped published ++ m ∷ [] = drop-append-le x.skipped published (m ∷ []) most in
        let g = given_more x.given (drop x.skipped published) m given in (
          (let p = length_push published m in omega (arith, p, most)),
          subst (λ l. IsGiven C x.given l) (sym d) g.0,
          subst (λ l. Follow C l readings (unread ++ m ∷ [])) (sym (ap (λ l. behind x.given l) d ∙ g.1)) (follow_published (behind x.given (drop x.skipped published)) unread readings m rest),
        )

    pub follow_reading : (published unread : List T) (readings : List (Reading T)) (x : Reading T) → x.skipped ≤ length unread → IsGiven C x.given (drop x.skipped unread) → Follow C published readings unread → Follow C published (readings ++ x ∷ []) (behind x.given (drop x.skipped unread))
    follow_reading published unread [] x most given f = (
      subst (λ l. x.skipped ≤ length l) f most,
      subst (λ l. IsGiven C x.given (drop x.skipped l)) f given,
      ap (λ l. behind x.given (drop x.skipped l)) f,
    )
    follow_reading published unread (y ∷ readings) x most given (most2, given2, rest) = (most2, given2, follow_reading (behind y.given (drop y.skipped published)) unread readings x most given rest)
