-- What polls are answered: Pending with nothing changed if the request is owed a waker, NoSuch if no request is there.
use Rattle.std.specs.Prelude.{◌≡◌, ℕ, Bool, List, [], Option, Some, None, slice_get, slice_set, refl}
use Rattle.std.proofs.Common.{sym, ap, ◌∙◌, subst}
use Rattle.esync_machine.specs.Runs.{IsIdle as IsIdleNumber, IdleIsPending as IdleIsPendingThere, OnlyLiveArePolled}
use Rattle.esync_machine.specs.Numbers.{at_number}
use Rattle.esync_machine.specs.NumbersLaws.{set_there, there_of, at_of, get_set_here}
use Rattle.esync_machine.specs.declared.run.Reply.{Reply}
use Rattle.esync_machine.specs.declared.primitive.Answer.{Answer}
use Rattle.esync_machine.specs.declared.primitive.Answer.TheVariants.{Pending, NoSuch}
use Rattle.esync_machine.specs.declared.primitive.Command.{Command}
use Rattle.esync_machine.specs.declared.primitive.Command.TheVariants.{Start, Poll, End, Call}
use Rattle.esync_machine.specs.Rules.{Rules, OwesAt, IsIdle, IdleIsPending, OnlyRequests}
use Rattle.esync_machine.specs.Wakings.{Wakings}
use Rattle.esync_machine.specs.Object.{Object, AllowsAt, IsLive, requests_meaning, poll_of}

pub polls_is : {Q W C : Type 0} (c : Command Q W C) (r : ℕ) (w : W) → poll_of c ≡ Some (r, w) → c ≡ Poll r w
polls_is {W = W} (Poll s v) r w e =
    let p : ◌≡◌ {A = ℕ × W} (s, v) (r, w) = cc in
    ap (λ x. Poll x.0 x.1) p
polls_is (Start s ask) r w e = cc
polls_is (End s) r w e = cc
polls_is (Call call) r w e = cc

module _ {Ask Held C A W S : Type 0} (R : Rules Ask Held C A) (core : S → R.Core) (Owes : S → Held → W → Type 0) (Fits : S → Held → Type 0) where
  idle_at : ((m : S) (h : Held) (w : W) → Fits m h → Owes m h w → IsIdle R (core m) h) → (s : S) (q : List (Option Held)) (r : ℕ) (w v : W) (p : Option Held) → at_number q r ≡ p → OwesAt Fits Owes s p w → AllowsAt R (record { core = core s; requests = q }) (Poll r v) r (slice_get q r) Pending (record { core = core s; requests = q })
  idle_at law s q r w v None at h = absurd h
  idle_at law s q r w v (Some x) at h =
      let there = there_of q r x at in
      rw (there, AllowsAt) (core s, Some x, law s x w h.0 h.1, ap (λ l. record { core = core s; requests = l }) (sym (set_there q r (Some x) there)))

  pub requests_idle : (T : Wakings R.Core Held C A W) (same : W → W → Bool) (K : ℕ) → ((m : S) (h : Held) (w : W) → Fits m h → Owes m h w → IsIdle R (core m) h) → (s : S) (q : List (Option Held)) (r : ℕ) (w : W) → OwesAt Fits Owes s (at_number q r) w → IsIdleNumber (requests_meaning R T same K) (record { core = core s; requests = q }) r
  requests_idle T same K law s q r w h command v polls =
      let a : Reply (Answer A) W K = record { answer = Pending; wakes = [] } in
      (a, refl, rw (polls_is command r v polls) (idle_at law s q r w v (at_number q r) refl h))

module _ {Ask Held C A W : Type 0} (R : Rules Ask Held C A) where
  pending_at : IdleIsPending R → (o : Object R.Core Held) (r : ℕ) (w : W) (p : Option (Option Held)) (a b : Answer A) (o2 : Object R.Core Held) → slice_get o.requests r ≡ p → b ≡ Pending → AllowsAt R o (Poll r w) r p b o → AllowsAt R o (Poll r w) r p a o2 → (a ≡ Pending) × (o2 ≡ o)
  pending_at law o r w None a b o2 at e h k = (let f = h.0 in absurd cc)
  pending_at law o r w (Some None) a b o2 at e h k = (let f = h.2.0 in absurd cc)
  pending_at law o r w (Some (Some x)) a b o2 at e h k =
      let c : o.core ≡ h.0 = ap (λ z. z.core) h.3 in
      let g : Some (Some x) ≡ Some h.1 = sym at ∙ ap (λ z. slice_get z.requests r) h.3 ∙ get_set_here o.requests r (Some x) h.1 at in
      let p : Some x ≡ h.1 = cc in
      let i : IsIdle R o.core x = subst (λ z. R.polls o.core x z o.core (Some x)) e (subst (λ z. R.polls o.core x b z (Some x)) (sym c) (subst (λ z. R.polls o.core x b h.0 z) (sym p) h.2)) in
      let d = law o.core x a k.0 k.1 i k.2 in
      (d.0, k.3 ∙ ap (λ z. record { core = z; requests = slice_set o.requests r k.1 }) d.1 ∙ ap (λ z. record { core = o.core; requests = slice_set o.requests r z }) (d.2 ∙ p) ∙ sym (subst (λ z. o ≡ record { core = z; requests = slice_set o.requests r h.1 }) (sym c) h.3))

  no_such_at : OnlyRequests R → (o : Object R.Core Held) (r : ℕ) (w : W) (p : Option (Option Held)) (a : Answer A) (o2 : Object R.Core Held) → slice_get o.requests r ≡ p → (IsLive R o r → ⊥) → AllowsAt R o (Poll r w) r p a o2 → a ≡ NoSuch
  no_such_at law o r w None a o2 at n k = k.0
  no_such_at law o r w (Some None) a o2 at n k = k.2.0
  no_such_at law o r w (Some (Some x)) a o2 at n k = law o.core x a k.0 k.1 (λ i. n (x, at_of o.requests r (Some x) at, i)) k.2

  module _ (T : Wakings R.Core Held C A W) (same : W → W → Bool) (K : ℕ) where
    -- if Pending without a change is allowed, nothing else is
    pub requests_pending : IdleIsPending R → IdleIsPendingThere (requests_meaning R T same K)
    requests_pending law o o2 c r w a b polls e h k =
        let p = polls_is c r w polls in
        pending_at law o r w (slice_get o.requests r) b.answer a.answer o2 refl e (rw p at h) (rw p at k)

    -- what is no live request can't be polled
    pub requests_no_such : OnlyRequests R → OnlyLiveArePolled (requests_meaning R T same K)
    requests_no_such law o o2 c r w a polls n k = no_such_at law o r w (slice_get o.requests r) a.answer o2 refl n (let p = polls_is c r w polls in rw p at k)
