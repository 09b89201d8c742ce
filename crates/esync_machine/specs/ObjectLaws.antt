-- The steps that an object with a table of requests allows, one kind after another.
use Rattle.std.specs.Prelude.{◌≡◌, ℕ, Option, Some, None, slice_get}
use Rattle.std.proofs.Common.{refl, sym, ap, ◌∙◌, subst}
use Rattle.esync_machine.specs.Numbers.{swept}
use Rattle.esync_machine.specs.NumbersLaws.{set_there, swept_nothing}
use Rattle.esync_machine.specs.declared.primitive.Answer.{Answer}
use Rattle.esync_machine.specs.declared.primitive.Answer.TheVariants.{Done, NoSuch}
use Rattle.esync_machine.specs.declared.primitive.Reach.{Reach}
use Rattle.esync_machine.specs.declared.primitive.Reach.TheVariants.{Nobody, Number, Leavers}
use Rattle.esync_machine.specs.declared.primitive.Command.{Command}
use Rattle.esync_machine.specs.declared.primitive.Command.TheVariants.{Start, Poll, End, Call}
use Rattle.esync_machine.specs.Rules.{Rules, ended}
use Rattle.esync_machine.specs.Object.{Object, written, Allows, AllowsAt, AllowsReach, Nowhere}

module _ {Ask Held C A W : Type 0} (R : Rules Ask Held C A) where
  -- What is told of each kind of step. No other kinds are needed: every other command names what isn't there.
  pub record EachStep (Goal : Object R.Core Held → Command Ask W C → Answer A → Object R.Core Held → Type 0) : Type 0 where
    -- what the command names isn't there: a number out of range, one that is free, or one that is in use
    pub refused : (o : Object R.Core Held) (c : Command Ask W C) → Goal o c NoSuch o
    -- a start at a free number
    pub starts : (o : Object R.Core Held) (r : ℕ) (ask : Ask) (h : Held) → slice_get o.requests r ≡ Some None → R.begins o.core ask (Some h) → Goal o (Start r ask) Done (written R o r o.core (Some h))
    -- a poll and an end of what stands there
    pub polls : (o : Object R.Core Held) (r : ℕ) (w : W) (h : Held) (a : Answer A) (core : R.Core) (p : Option Held) → slice_get o.requests r ≡ Some (Some h) → R.polls o.core h a core p → Goal o (Poll r w) a (written R o r core p)
    pub ends : (o : Object R.Core Held) (r : ℕ) (h : Held) (core : R.Core) → slice_get o.requests r ≡ Some (Some h) → R.ends o.core h core → Goal o (End r) Done (written R o r core None)
    -- a call on its number, on no number, and by a subscriber or receiver that leaves
    pub calls : (o : Object R.Core Held) (call : C) (r : ℕ) (p : Option Held) (a : Answer A) (core : R.Core) (p2 : Option Held) → R.reach call ≡ Number r → slice_get o.requests r ≡ Some p → R.calls o.core call p a core p2 → Goal o (Call call) a (written R o r core p2)
    pub alone : (o : Object R.Core Held) (call : C) (a : Answer A) (core : R.Core) (p : Option Held) → R.reach call ≡ Nobody → R.calls o.core call None a core p → Goal o (Call call) a (record { core = core; requests = o.requests })
    pub leaves : (o : Object R.Core Held) (call : C) (a : Answer A) (core : R.Core) (p : Option Held) → R.reach call ≡ Leavers → R.calls o.core call None a core p → Goal o (Call call) a (record { core = core; requests = swept (R.leaves o.core call) o.requests })

  module _ {Goal : Object R.Core Held → Command Ask W C → Answer A → Object R.Core Held → Type 0} (each : EachStep Goal) where
    refused_by : (o o2 : Object R.Core Held) (c : Command Ask W C) (a : Answer A) → a ≡ NoSuch → o2 ≡ o → Goal o c a o2
    refused_by o o2 c a e f = subst (λ x. Goal o c x o2) (sym e) (subst (λ x. Goal o c NoSuch x) (sym f) (each.refused o c))

    same : (o o2 : Object R.Core Held) (r : ℕ) (core : R.Core) (p p2 : Option Held) → slice_get o.requests r ≡ Some p → core ≡ o.core → p2 ≡ p → o2 ≡ written R o r core p2 → o2 ≡ o
    same o o2 r core p p2 there e f is =
        is ∙ ap (λ x. written R o r x p2) e ∙ ap (λ x. written R o r o.core x) f ∙ ap (λ q. record { core = o.core; requests = q }) (set_there o.requests r p there)

    nowhere : (o o2 : Object R.Core Held) (c : Command Ask W C) (r : ℕ) (a : Answer A) (core : R.Core) (p p2 : Option Held) → slice_get o.requests r ≡ Some p → Nowhere R o.core p a core p2 → o2 ≡ written R o r core p2 → Goal o c a o2
    nowhere o o2 c r a core p p2 there t is = refused_by o o2 c a t.0 (same o o2 r core p p2 there t.1 t.2 is)

    start : (o o2 : Object R.Core Held) (r : ℕ) (ask : Ask) (a : Answer A) (p : Option (Option Held)) → slice_get o.requests r ≡ p → AllowsAt R {W = W} o (Start r ask) r p a o2 → Goal o (Start r ask) a o2
    start o o2 r ask a None there h = refused_by o o2 (Start r ask) a h.0 h.1
    start o o2 r ask a (Some (Some held)) there h = nowhere o o2 (Start r ask) r a h.0 (Some held) h.1 there h.2 h.3
    start o o2 r ask a (Some None) there (core, None, t, is) = refused_by o o2 (Start r ask) a t.1 (same o o2 r core None None there t.2 refl is)
    start o o2 r ask a (Some None) there (core, Some held, t, is) =
        subst (λ x. Goal o (Start r ask) x o2) (sym t.1) (subst (λ x. Goal o (Start r ask) Done x) (sym (is ∙ ap (λ x. written R o r x (Some held)) t.2)) (each.starts o r ask held there t.0))

    poll : (o o2 : Object R.Core Held) (r : ℕ) (w : W) (a : Answer A) (p : Option (Option Held)) → slice_get o.requests r ≡ p → AllowsAt R o (Poll r w) r p a o2 → Goal o (Poll r w) a o2
    poll o o2 r w a None there h = refused_by o o2 (Poll r w) a h.0 h.1
    poll o o2 r w a (Some None) there h = nowhere o o2 (Poll r w) r a h.0 None h.1 there h.2 h.3
    poll o o2 r w a (Some (Some held)) there h = subst (λ x. Goal o (Poll r w) a x) (sym h.3) (each.polls o r w held a h.0 h.1 there h.2)

    end : (o o2 : Object R.Core Held) (r : ℕ) (a : Answer A) (p : Option (Option Held)) → slice_get o.requests r ≡ p → AllowsAt R {W = W} o (End r) r p a o2 → Goal o (End r) a o2
    end o o2 r a None there h = refused_by o o2 (End r) a h.0 h.1
    end o o2 r a (Some None) there h = nowhere o o2 (End r) r a h.0 None h.1 there h.2 h.3
    end o o2 r a (Some (Some held)) there h =
        subst (λ x. Goal o (End r) x o2) (sym h.2.1) (subst (λ x. Goal o (End r) Done x) (sym (h.3 ∙ ap (λ x. written R o r h.0 x) h.2.2)) (each.ends o r held h.0 there h.2.0))

    call_at : (o o2 : Object R.Core Held) (call : C) (r : ℕ) (a : Answer A) (p : Option (Option Held)) → R.reach call ≡ Number r → slice_get o.requests r ≡ p → AllowsAt R {W = W} o (Call call) r p a o2 → Goal o (Call call) a o2
    call_at o o2 call r a None reach there h = refused_by o o2 (Call call) a h.0 h.1
    call_at o o2 call r a (Some p) reach there h = subst (λ x. Goal o (Call call) a x) (sym h.3) (each.calls o call r p a h.0 h.1 reach there h.2)

    called : (o o2 : Object R.Core Held) (call : C) (a : Answer A) (reach : Reach) → R.reach call ≡ reach → AllowsReach R {W = W} o (Call call) reach a o2 → Goal o (Call call) a o2
    called o o2 call a (Number r) reach h = call_at o o2 call r a (slice_get o.requests r) reach refl h
    called o o2 call a Nobody reach h =
        let kept : swept (ended R o.core (R.reach call) call) o.requests ≡ o.requests = swept_nothing _ o.requests (λ x. ap (λ y. ended R o.core y call x) reach) in
        subst (λ x. Goal o (Call call) a x) (sym (h.3 ∙ ap (λ q. record { core = h.0; requests = q }) kept)) (each.alone o call a h.0 h.1 reach h.2)
    called o o2 call a Leavers reach h =
        let left : swept (ended R o.core (R.reach call) call) o.requests ≡ swept (R.leaves o.core call) o.requests = ap (λ y. swept (ended R o.core y call) o.requests) reach in
        subst (λ x. Goal o (Call call) a x) (sym (h.3 ∙ ap (λ q. record { core = h.0; requests = q }) left)) (each.leaves o call a h.0 h.1 reach h.2)

    -- each step that is allowed is one of these kinds
    pub each_step : (o o2 : Object R.Core Held) (c : Command Ask W C) (a : Answer A) → Allows R o c a o2 → Goal o c a o2
    each_step o o2 (Start r ask) a h = start o o2 r ask a (slice_get o.requests r) refl h
    each_step o o2 (Poll r w) a h = poll o o2 r w a (slice_get o.requests r) refl h
    each_step o o2 (End r) a h = end o o2 r a (slice_get o.requests r) refl h
    each_step o o2 (Call c) a h = called o o2 c a (R.reach c) refl h
