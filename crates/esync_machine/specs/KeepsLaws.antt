-- What the commands of a primitive with a table of requests do to its requests, where its polls and calls make none.
use Rattle.std.specs.Prelude.{◌≡◌, ℕ, Bool, true, false, Option, Some, None, ◌⊎◌, slice_get, refl}
use Rattle.std.proofs.Common.{sym, ap, subst, ◌∙◌, inl, inr}
use Rattle.esync_base.specs.ListedLaws.{true_or_false, same_or_not}
use Rattle.esync_machine.specs.Numbers.{at_number}
use Rattle.esync_machine.specs.NumbersLaws.{at_of, at_set, at_set_here, swept_at, there_of}
use Rattle.esync_machine.specs.declared.primitive.Answer.{Answer}
use Rattle.esync_machine.specs.declared.primitive.Reach.{Reach}
use Rattle.esync_machine.specs.declared.primitive.Reach.TheVariants.{Nobody, Number, Leavers}
use Rattle.esync_machine.specs.declared.primitive.Command.{Command}
use Rattle.esync_machine.specs.declared.primitive.Command.TheVariants.{Start, Poll, End, Call}
use Rattle.esync_machine.specs.Rules.{Rules, MakesNoRequests, ended, ended_by}
use Rattle.esync_machine.specs.Object.{Object, written, AllowsAt, AllowsReach, Allows, Ends, IsLive, poll_of, start_of, end_of, requests_meaning}
use Rattle.esync_machine.specs.ObjectLaws.{EachStep, each_step}
use Rattle.esync_machine.specs.Keeps.{KeepsRequests}
use Rattle.esync_machine.specs.Wakings.{Wakings}

module _ {Ask Held C A : Type 0} (R : Rules Ask Held C A) where
  module _ (K : MakesNoRequests R) (W : Type 0) where
    start_polls : (c : Command Ask W C) (r : ℕ) → start_of c ≡ Some r → poll_of c ≡ None
    start_polls (Start s ask) r e = refl
    start_polls (Poll s w) r e = absurd cc
    start_polls (End s) r e = absurd cc
    start_polls (Call call) r e = absurd cc

    ends_number : (c : Command Ask W C) (r : ℕ) → (end_of c ≡ Some r) ⊎ (end_of c ≡ Some r → ⊥)
    ends_number (Start s ask) r = inr (λ e. cc)
    ends_number (Poll s w) r = inr (λ e. cc)
    ends_number (End s) r = elim (same_or_not s r) [ inl e ↦ inl (ap Some e) | inr n ↦ inr (λ e. n cc) ]
    ends_number (Call call) r = inr (λ e. cc)

    ends_there : (o : R.Core) (c : Command Ask W C) (p : Option Held) → ((h : Held) × (p ≡ Some h) × (ended_by R o c h ≡ true)) ⊎ (((h : Held) × (p ≡ Some h) × (ended_by R o c h ≡ true)) → ⊥)
    ends_there o c None = inr (λ e. let n = e.1 in cc)
    ends_there o c (Some h) = elim (true_or_false (ended_by R o c h)) [
      | inl b ↦ inl (h, refl, b)
      | inr n ↦ inr (λ e. let s : e.0 ≡ h = (let q = e.1 in cc) in let y : ended_by R o c h ≡ true = subst (λ x. ended_by R o c x ≡ true) s e.2 in cc)
    ]

    decided : (o : Object R.Core Held) (c : Command Ask W C) (r : ℕ) → Ends R o c r ⊎ (Ends R o c r → ⊥)
    decided o c r = elim (ends_number c r) [
      | inl e ↦ inl (inl e)
      | inr n ↦ elim (ends_there o.core c (at_number o.requests r)) [
        | inl e ↦ inl (inr e)
        | inr m ↦ inr (λ e. elim e [ inl x ↦ n x | inr x ↦ m x ])
      ]
    ]

    -- what a write leaves live was live, if what stands at its number is a request only where one stood there
    live_before : (o : Object R.Core Held) (s : ℕ) (core : R.Core) (p p2 : Option Held) → slice_get o.requests s ≡ Some p → ((h : Held) → p2 ≡ Some h → R.IsRequest h → (old : Held) × (p ≡ Some old) × R.IsRequest old) → (r : ℕ) → IsLive R (written R o s core p2) r → IsLive R o r
    live_before o s core p p2 there only r live = elim (at_set o.requests s p p2 r live.0 there live.1) [
      | inl x ↦ (let old = only live.0 x.1 live.2 in (old.0, subst (λ n. at_number o.requests n ≡ Some old.0) (sym x.0) (at_of o.requests s p there ∙ old.1), old.2))
      | inr x ↦ (live.0, x.1, live.2)
    ]

    made : EachStep R (λ o (c : Command Ask W C) a o2. (r : ℕ) → IsLive R o2 r → (start_of c ≡ Some r) ⊎ IsLive R o r)
    made = record {
      refused = λ o c r live. inr live;
      starts = λ o s ask h there begins r live. elim (at_set o.requests s None (Some h) r live.0 there live.1) [ inl x ↦ inl (ap Some (sym x.0)) | inr x ↦ inr (live.0, x.1, live.2) ];
      polls = λ o s w h a core p there polls r live. inr (live_before o s core (Some h) p there (λ h2 e is. (h, refl, K.polls o.core core h h2 a (subst (λ x. R.polls o.core h a core x) e polls) is)) r live);
      ends = λ o s h core there ends r live. inr (live_before o s core (Some h) None there (λ h2 e is. absurd cc) r live);
      calls = λ o call s p a core p2 reach there calls r live. inr (live_before o s core p p2 there (λ h2 e is. K.calls o.core core call p a h2 (subst (λ x. R.calls o.core call p a core x) e calls) is) r live);
      alone = λ o call a core p reach calls r live. inr live;
      leaves = λ o call a core p reach calls r live. inr (live.0, (swept_at (R.leaves o.core call) o.requests r live.0 live.1).0, live.2);
    }

    gone_end : (o o2 : Object R.Core Held) (s : ℕ) (place : Option (Option Held)) (a : Answer A) → slice_get o.requests s ≡ place → AllowsAt R {W = W} o (End s) s place a o2 → IsLive R o2 s → ⊥
    gone_end o o2 s None a there allowed live =
        let live1 = subst (λ x. IsLive R x s) allowed.1 live in
        let q = there_of o.requests s live1.0 live1.1 in
        cc
    gone_end o o2 s (Some None) a there allowed live =
        let live1 = subst (λ x. IsLive R x s) allowed.3 live in
        let here = at_set_here o.requests s None allowed.1 there in
        let none = allowed.2.2 in
        let q = live1.1 in
        cc
    gone_end o o2 s (Some (Some h)) a there allowed live =
        let live1 = subst (λ x. IsLive R x s) allowed.3 live in
        let here = at_set_here o.requests s (Some h) allowed.1 there in
        let none = allowed.2.2 in
        let q = live1.1 in
        cc

    gone_call : (o o2 : Object R.Core Held) (call : C) (reach : Reach) (a : Answer A) (r : ℕ) (h : Held) → R.reach call ≡ reach → AllowsReach R {W = W} o (Call call) reach a o2 → at_number o.requests r ≡ Some h → ended R o.core reach call h ≡ true → IsLive R o2 r → ⊥
    gone_call o o2 call Nobody a r h n allowed at e live = cc
    gone_call o o2 call (Number s) a r h n allowed at e live = cc
    gone_call o o2 call Leavers a r h n allowed at e live =
        let live1 = subst (λ x. IsLive R x r) allowed.3 live in
        let was = swept_at (ended_by R {W = W} o.core (Call call)) o.requests r live1.0 live1.1 in
        let kept : R.leaves o.core call live1.0 ≡ false = subst (λ x. ended R o.core x call live1.0 ≡ false) n was.1 in
        let same : live1.0 ≡ h = (let q = was.0 in cc) in
        let left : R.leaves o.core call live1.0 ≡ true = subst (λ x. R.leaves o.core call x ≡ true) (sym same) e in
        cc

    gone : (o o2 : Object R.Core Held) (c : Command Ask W C) (a : Answer A) (r : ℕ) → Allows R o c a o2 → Ends R o c r → IsLive R o2 r → ⊥
    gone o o2 (End s) a r allowed (inl e) live = (let m : s ≡ r = cc in gone_end o o2 s (slice_get o.requests s) a refl allowed (subst (λ x. IsLive R o2 x) (sym m) live))
    gone o o2 (Start s ask) a r allowed (inl e) live = cc
    gone o o2 (Poll s w) a r allowed (inl e) live = cc
    gone o o2 (Call call) a r allowed (inl e) live = cc
    gone o o2 (End s) a r allowed (inr e) live = (let q = e.2 in cc)
    gone o o2 (Start s ask) a r allowed (inr e) live = (let q = e.2 in cc)
    gone o o2 (Poll s w) a r allowed (inr e) live = (let q = e.2 in cc)
    gone o o2 (Call call) a r allowed (inr e) live = gone_call o o2 call (R.reach call) a r e.0 refl allowed e.1 e.2 live

    pub keeps_requests : (T : Wakings R.Core Held C A W) (same : W → W → Bool) (n : ℕ) → KeepsRequests (requests_meaning R T same n)
    keeps_requests T same n = record {
      apart = start_polls;
      decided = decided;
      ends = λ o c r e. inl e;
      gone = λ o o2 c a r allowed e live. gone o o2 c a.answer r allowed e live;
      made = λ o o2 c a r allowed live. each_step R made o o2 c a.answer allowed r live;
    }
