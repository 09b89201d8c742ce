-- What a command does to a table, from what it does with the place at its number.
use Rattle.std.proofs.Common.{◌≡◌, ℕ, Bool, true, false, List, [], Option, Some, None, ◌⊎◌, inl, inr, refl, sym, ap, ◌∙◌, subst}
use Rattle.std.specs.Prelude.{slice_get, slice_set, IfSome, length, take, drop, ◌++◌, ◌≤◌}
use Rattle.std.proofs.lemmas.List.{take_at, length-take-le}
use Rattle.esync_base.specs.Registration.{IsAmong}
use Rattle.esync_base.specs.ListedLaws.{same_or_not, true_or_false}
use Rattle.esync_machine.specs.Numbers.{at_number, swept, IsTied, AllPairs}
use Rattle.esync_machine.specs.NumbersLaws.{at_of, get_set_here, at_set_here, at_set_other, at_set, swept_at, at_swept}
use Rattle.esync_machine.specs.declared.primitive.Answer.{Answer}
use Rattle.esync_machine.specs.declared.primitive.Answer.TheVariants.{Done, Pending, NoSuch}
use Rattle.esync_machine.specs.declared.primitive.Reach.{Reach}
use Rattle.esync_machine.specs.declared.primitive.Reach.TheVariants.{Nobody, Number, Leavers}
use Rattle.esync_machine.specs.declared.primitive.Command.{Command}
use Rattle.esync_machine.specs.declared.primitive.Command.TheVariants.{Start, Poll, End, Call}
use Rattle.esync_machine.specs.Rules.{Rules, IsApart, IsOwed, OwesAt, Finds, reach_of, ended, ended_by}
use Rattle.esync_machine.specs.Object.{AllowsAt, AllowsReach, found, poll_of, end_of}
use Rattle.esync_machine.specs.Wakings.{Wakings, IsHanded, nothing, polled, called, handed_at}
use Rattle.esync_machine.specs.IdleLaws.{polls_is}
use Rattle.esync_machine.specs.Served.{Turned, Served}
use Rattle.esync_machine.specs.FreeLaws.{same_places}

-- a command on a number may find anything
pub finds_any : {Held : Type 0} (o : Reach) (r : ℕ) (p : Option Held) → o ≡ Number r → Finds o p
finds_any o r p e = rw e tt

-- a command on no number finds nothing
found_nothing : {Held : Type 0} (o : Reach) → ((r : ℕ) → o ≡ Number r → ⊥) → (q : List (Option Held)) → found o q ≡ None
found_nothing Nobody n q = refl
found_nothing (Number r) n q = absurd (n r refl)
found_nothing Leavers n q = refl

module _ {Ask Held C A W : Type 0} (R : Rules Ask Held C A) where
  pub poll_number : (c : Command Ask W C) (r : ℕ) (w : W) → poll_of c ≡ Some (r, w) → reach_of R c ≡ Number r
  poll_number c r w e = ap (reach_of R) (polls_is c r w e)

  pub end_number : (c : Command Ask W C) (r : ℕ) → end_of c ≡ Some r → reach_of R c ≡ Number r
  end_number (Start s ask) r e = cc
  end_number (Poll s w) r e = cc
  end_number (End s) r e = (let h : s ≡ r = cc in ap Number h)
  end_number (Call call) r e = cc

  -- a command on a number ends nothing at the others
  pub spares : (o : R.Core) (c : Command Ask W C) (r : ℕ) (h : Held) → reach_of R c ≡ Number r → ended_by R o c h ≡ false
  spares o (Start s ask) r h e = refl
  spares o (Poll s w) r h e = refl
  spares o (End s) r h e = refl
  spares o (Call call) r h e = rw (e, ended) refl

  pub spares_alone : (o : R.Core) (c : Command Ask W C) (h : Held) → reach_of R c ≡ Nobody → ended_by R o c h ≡ false
  spares_alone o (Start s ask) h e = refl
  spares_alone o (Poll s w) h e = refl
  spares_alone o (End s) h e = refl
  spares_alone o (Call call) h e = rw (e, ended) refl

module _ {Ask Held C A W S : Type 0} (R : Rules Ask Held C A) (core : S → R.Core) (T : Wakings R.Core Held C A W) (registrations : S → T.Registered) (Fits : S → Held → Type 0) (Apart : Held → Held → Type 0) (Owes : S → Held → W → Type 0) (same : W → W → Bool) where
  pub poll_turned : (s s2 : S) (r : ℕ) (w : W) (h : Held) (a : Answer A) (p2 : Option Held) (wakes : List W)
      → R.polls (core s) h a (core s2) p2
      → IsHanded (polled T (core s) (registrations s) h w a p2) wakes (registrations s2)
      → ((R.WakesItself → ⊥) → a ≡ Pending → core s2 ≡ core s → p2 ≡ Some h → IsAmong same w wakes → ⊥)
      → (a ≡ Pending → IsAmong same w wakes ⊎ IsOwed Owes s2 p2 w)
      → ((other : Held) (v : W) → Fits s other → Apart h other → Owes s other v → IsAmong same v wakes ⊎ Owes s2 other v)
      → IfSome p2 (λ k. Fits s2 k)
      → ((other : Held) → Fits s other → Apart h other → Fits s2 other × IsApart Apart p2 other)
      → Turned R core T registrations Fits Apart Owes same s (Poll r w) (Some h) a wakes s2 p2
  poll_turned s s2 r w h a p2 wakes polls exact quiet registers kept fits others = record {
    allowed = polls;
    exact = exact;
    quiet = λ n t v e i j k m. let b : ◌≡◌ {A = ℕ × W} (r, w) (t, v) = cc in quiet n i j k (subst (λ x. IsAmong same x wakes) (ap (λ x. x.1) (sym b)) m);
    registered = λ t v e i. let b : ◌≡◌ {A = ℕ × W} (r, w) (t, v) = cc in subst (λ x. IsAmong same x.1 wakes ⊎ IsOwed Owes s2 p2 x.1) b (registers i);
    own = λ v np ne o. absurd (np r w refl);
    kept = λ other v f ap' b o. kept other v f ap' o;
    fits = fits;
    others = λ other f ap' b. others other f ap';
  }

  pub end_turned : (s s2 : S) (r : ℕ) (h : Held) (wakes : List W)
      → R.ends (core s) h (core s2)
      → IsHanded (T.ends (core s) (registrations s) h) wakes (registrations s2)
      → ((other : Held) (v : W) → Fits s other → Apart h other → Owes s other v → IsAmong same v wakes ⊎ Owes s2 other v)
      → ((other : Held) → Fits s other → Apart h other → Fits s2 other)
      → Turned R core T registrations Fits Apart Owes same s (End r) (Some h) Done wakes s2 None
  end_turned s s2 r h wakes ends exact kept others = record {
    allowed = (ends, refl, refl);
    exact = exact;
    quiet = λ n t v e i j k m. let d : ⊥ = cc in d;
    registered = λ t v e i. absurd cc;
    own = λ v np ne o. absurd (ne r refl);
    kept = λ other v f ap' b o. kept other v f ap' o;
    fits = tt;
    others = λ other f ap' b. (others other f ap', tt);
  }

  apart_from : (q : List (Option Held)) → AllPairs Apart q → (r t : ℕ) (p : Option Held) (k : Held) → slice_get q r ≡ Some p → at_number q t ≡ Some k → (r ≡ t → ⊥) → IsApart Apart p k
  apart_from q apart r t None k there e n = tt
  apart_from q apart r t (Some h) k there e n = apart r t h k (at_of q r (Some h) there) e n

  owed_after : (s2 : S) (p2 : Option Held) (w : W) → IfSome p2 (λ h. Fits s2 h) → IsOwed Owes s2 p2 w → OwesAt Fits Owes s2 p2 w
  owed_after s2 None w f h = h
  owed_after s2 (Some k) w f h = (f, h)

  owed_before : (s : S) (p : Option Held) (w : W) → OwesAt Fits Owes s p w → IsOwed Owes s p w
  owed_before s None w h = h
  owed_before s (Some k) w h = h.1

  pub fits_at : (s : S) (q : List (Option Held)) (r : ℕ) (p : Option Held) → IsTied Fits Apart s q → slice_get q r ≡ Some p → IfSome p (λ h. Fits s h)
  fits_at s q r None tied there = tt
  fits_at s q r (Some h) tied there = tied.0 r h (at_of q r (Some h) there)

  nothing_nowhere : (o : R.Core) (g : T.Registered) (c : Command Ask W C) → nothing g ≡ handed_at T o g c None NoSuch None
  nothing_nowhere o g (Start r ask) = refl
  nothing_nowhere o g (Poll r w) = refl
  nothing_nowhere o g (End r) = refl
  nothing_nowhere o g (Call call) = refl

  -- a command on a number that is out of range
  pub served_nowhere : (s : S) (q : List (Option Held)) (c : Command Ask W C) (r : ℕ) → IsTied Fits Apart s q → reach_of R c ≡ Number r → slice_get q r ≡ None → Served R core T registrations Fits Apart Owes same s q c NoSuch [] s q
  served_nowhere s q c r tied reach there = record {
    allowed = rw (reach, AllowsReach) (rw (there, AllowsAt) (refl, refl));
    exact = rw (reach, found) (rw there (subst (λ h. IsHanded h [] (registrations s)) (nothing_nowhere (core s) (registrations s) c) (refl, refl)));
    quiet = λ n t v p i j k m. absurd cc;
    registered = λ t v p i. absurd cc;
    kept = λ t v o np ne. inr o;
    tied = tied;
  }

  module _ (symmetric : (h k : Held) → Apart h k → Apart k h) (s s2 : S) (q : List (Option Held)) (c : Command Ask W C) (a : Answer A) (wakes : List W) (tied : IsTied Fits Apart s q) where
    module _ (r : ℕ) (p p2 : Option Held) (reach : reach_of R c ≡ Number r) (there : slice_get q r ≡ Some p) (t : Turned R core T registrations Fits Apart Owes same s c p a wakes s2 p2) where
      others_at : (u : ℕ) (k : Held) → at_number q u ≡ Some k → (r ≡ u → ⊥) → Fits s2 k × IsApart Apart p2 k
      others_at u k e n = t.others k (tied.0 u k e) (apart_from q tied.1 r u p k there e n) (spares R (core s) c r k reach)

      tied_after : IsTied Fits Apart s2 (slice_set q r p2)
      tied_after = (
        (λ u k e. elim (at_set q r p p2 u k there e) [
          | inl x ↦ (let f = t.fits in rw x.1 at f)
          | inr x ↦ (others_at u k x.1 x.0).0
        ]),
        (λ u v k l e f n. elim (at_set q r p p2 u k there e) [
          | inl x ↦ elim (at_set q r p p2 v l there f) [
            | inl y ↦ absurd (n (x.0 ∙ sym y.0))
            | inr y ↦ (let g = (others_at v l y.1 y.0).1 in rw x.1 at g)
          ]
          | inr x ↦ elim (at_set q r p p2 v l there f) [
            | inl y ↦ symmetric l k (let g = (others_at u k x.1 x.0).1 in rw y.1 at g)
            | inr y ↦ tied.1 u v k l x.1 y.1 n
          ]
        ]),
      )

      kept_other : (u : ℕ) (w : W) (o : Option Held) → at_number q u ≡ o → (r ≡ u → ⊥) → OwesAt Fits Owes s o w → IsAmong same w wakes ⊎ OwesAt Fits Owes s2 o w
      kept_other u w None e n h = absurd h
      kept_other u w (Some k) e n h =
          elim (t.kept k w h.0 (apart_from q tied.1 r u p k there e n) (spares R (core s) c r k reach) h.1) [ inl x ↦ inl x | inr x ↦ inr ((others_at u k e n).0, x) ]

      here : at_number (slice_set q r p2) r ≡ p2
      here = at_set_here q r p p2 there

      same_number : (u : ℕ) → reach_of R c ≡ Number u → r ≡ u
      same_number u e = (let f = sym reach ∙ e in cc)

      pub served_number : Served R core T registrations Fits Apart Owes same s q c a wakes s2 (slice_set q r p2)
      served_number = record {
        allowed = rw (reach, AllowsReach) (rw (there, AllowsAt) (core s2, p2, t.allowed, refl));
        exact = rw (reach, found) (rw (at_of q r p there, here) t.exact);
        quiet = λ n u w e i j k m.
            let b : Some p2 ≡ Some p = sym (get_set_here q r p p2 there) ∙ ap (λ l. slice_get l r) k ∙ there in
            let d : p2 ≡ p = cc in t.quiet n u w e i j d m;
        registered = λ u w e i.
            let b = same_number u (poll_number R c u w e) in
            elim (t.registered u w e i) [
              | inl x ↦ inl x
              | inr x ↦ inr (subst (λ n. OwesAt Fits Owes s2 (at_number (slice_set q r p2) n) w) b (subst (λ o. OwesAt Fits Owes s2 o w) (sym here) (owed_after s2 p2 w t.fits x)))
            ];
        kept = λ u w o np ne. elim (same_or_not r u) [
          | inl e ↦ (
              let h = owed_before s p w (subst (λ x. OwesAt Fits Owes s x w) (at_of q r p there) (subst (λ n. OwesAt Fits Owes s (at_number q n) w) (sym e) o)) in
              elim (t.own w
              (λ v x f. np x (subst (λ n. poll_of c ≡ Some (n, x)) (sym (same_number v (poll_number R c v x f)) ∙ e) f))
              (λ v f. ne (inl (subst (λ n. end_of c ≡ Some n) (sym (same_number v (end_number R c v f)) ∙ e) f)))
              h) [
                | inl x ↦ inl x
                | inr x ↦ inr (subst (λ n. OwesAt Fits Owes s2 (at_number (slice_set q r p2) n) w) e (subst (λ o. OwesAt Fits Owes s2 o w) (sym here) (owed_after s2 p2 w t.fits x)))
              ])
          | inr n ↦ elim (kept_other u w (at_number q u) refl n o) [
            | inl x ↦ inl x
            | inr x ↦ inr (subst (λ y. OwesAt Fits Owes s2 y w) (sym (at_set_other q r u p2 n)) x)
          ]
        ];
        tied = tied_after;
      }

    module _ (p2 : Option Held) (no_number : (r : ℕ) → reach_of R c ≡ Number r → ⊥) (t : Turned R core T registrations Fits Apart Owes same s c None a wakes s2 p2) where
      kept_alone : (u : ℕ) (w : W) (o : Option Held) → at_number q u ≡ o → ((h : Held) → o ≡ Some h → ended_by R (core s) c h ≡ true → ⊥) → OwesAt Fits Owes s o w → IsAmong same w wakes ⊎ OwesAt Fits Owes s2 (at_number (swept (ended_by R (core s) c) q) u) w
      kept_alone u w None e n h = absurd h
      kept_alone u w (Some k) e n h =
          elim (true_or_false (ended_by R (core s) c k)) [
            | inl b ↦ absurd (n k refl b)
            | inr b ↦ elim (t.kept k w h.0 tt b h.1) [
              | inl x ↦ inl x
              | inr x ↦ inr (subst (λ y. OwesAt Fits Owes s2 y w) (sym (at_swept (ended_by R (core s) c) q u k e b)) ((t.others k h.0 tt b).0, x))
            ]
          ]

      allowed_alone : (reach : Reach) → reach_of R c ≡ reach → AllowsReach R (record { core = core s; requests = q }) c reach a (record { core = core s2; requests = swept (ended_by R (core s) c) q })
      allowed_alone Nobody e = (core s2, p2, t.allowed, refl)
      allowed_alone (Number r) e = absurd (no_number r e)
      allowed_alone Leavers e = (core s2, p2, t.allowed, refl)

      handed_alone : (d : Command Ask W C) → ((r : ℕ) → reach_of R d ≡ Number r → ⊥) → (q2 : List (Option Held)) → handed_at T (core s) (registrations s) d None a p2 ≡ handed_at T (core s) (registrations s) d (found (reach_of R d) q) a (found (reach_of R d) q2)
      handed_alone (Start r ask) n q2 = refl
      handed_alone (Poll r w) n q2 = absurd (n r refl)
      handed_alone (End r) n q2 = absurd (n r refl)
      handed_alone (Call call) n q2 = ap (λ p. called T (core s) (registrations s) call p a) (sym (found_nothing (R.reach call) n q))

      pub served_alone : Served R core T registrations Fits Apart Owes same s q c a wakes s2 (swept (ended_by R (core s) c) q)
      served_alone = record {
        allowed = allowed_alone (reach_of R c) refl;
        exact = subst (λ h. IsHanded h wakes (registrations s2)) (handed_alone c no_number (swept (ended_by R (core s) c) q)) t.exact;
        quiet = λ n u w e i j k m. absurd (no_number u (poll_number R c u w e));
        registered = λ u w e i. absurd (no_number u (poll_number R c u w e));
        kept = λ u w o np ne. kept_alone u w (at_number q u) refl (λ h e b. ne (inr (h, e, b))) o;
        tied = (
          (λ u k e. let x = swept_at (ended_by R (core s) c) q u k e in (t.others k (tied.0 u k x.0) tt x.1).0),
          (λ u v k l e f n. tied.1 u v k l (swept_at (ended_by R (core s) c) q u k e).0 (swept_at (ended_by R (core s) c) q v l f).0 n),
        );
      }

  -- what is shown of a command and the first n places of a row
  pub served_first : (s s2 : S) (q new : List (Option Held)) (n : ℕ) (c : Command Ask W C) (a : Answer A) (wakes : List W) → n ≤ length q
      → Served R core T registrations Fits Apart Owes same s (take n q) c a wakes s2 new
      → Served R core T registrations Fits Apart Owes same s (take n q) c a wakes s2 (take n (new ++ drop n q))
  served_first s s2 q new n c a wakes whole served =
      let places : length new ≡ n = same_places R W (record { core = core s; requests = take n q }) (record { core = core s2; requests = new }) c a served.allowed ∙ length-take-le n q whole in
      subst (λ p. Served R core T registrations Fits Apart Owes same s (take n q) c a wakes s2 p) (sym (take_at new (drop n q) n places)) served
