-- The laws that the steps of a fair semaphore keep.
use Rattle.std.specs.Prelude.{◌≡◌, ℕ, Bool, true, false, List, length, nat_lt, Option, Some, None, refl}
use Rattle.std.proofs.Common.{arith, ap, sym, ◌∙◌}
use Rattle.esync_permits.specs.Permits.{TakesInTurn}
use Rattle.esync_permits.specs.Queue.{is_next}
use Rattle.esync_permits.specs.Fair.{Fair}
use Rattle.esync_permits.specs.declared.semaphore.Amount.{Amount}
use Rattle.esync_permits.specs.declared.semaphore.machine.PermitHeld.TheVariants.{Waiting, Releaser}
use Rattle.esync_machine.specs.Rules.{IsIdle, IdleIsPending}
use Rattle.esync_machine.specs.declared.primitive.Answer.TheVariants.{Pending}
use Rattle.esync_permits.specs.FairRules.{PermitQueue, Held, object_of, fair_rules, Enters, OwesFor, ticket_of, Differ, AreApart}

pub fair_idle : {W : Type 0} (n : ℕ) (eq : W → W → Bool) (s : Fair W) (h : Held) (w : W) → OwesFor eq s h w → IsIdle (fair_rules n) (object_of s) h
fair_idle n eq s (Waiting amount None) w h = absurd h
fair_idle n eq s (Waiting amount (Some t)) w h = (None, h.0, (refl, refl, refl))
fair_idle n eq s (Releaser k) w h = absurd h

-- a request without a name gets one, or is over
no_idle_new : (b : Bool) (amount : Amount) (q : List ℕ) → Enters b amount q Pending q (Some (Waiting amount None)) → ⊥
no_idle_new true amount q h = (let e = h.4 in cc)
no_idle_new false amount q h = (let e = h.1 in cc)

same_permits : (b : Bool) (amount : Amount) (m m2 : ℕ) → TakesInTurn b m amount None m2 → m2 ≡ m
same_permits true amount m m2 h = h.1
same_permits false amount m m2 h = h.1

not_both : (b : Bool) (amount : Amount) (m m2 k : ℕ) → TakesInTurn b m amount None m → TakesInTurn b m amount (Some k) m2 → ⊥
not_both true amount m m2 k h j = omega arith
not_both false amount m m2 k h j = (let e = j.0 in cc)

same_object : (o o2 : PermitQueue) → o2.permits ≡ o.permits → o2.queue ≡ o.queue → o2 ≡ o
same_object o o2 e f =
    let at : ℕ → List ℕ → PermitQueue = λ m q. record { permits = m; queue = q } in
    ap (λ m. at m o2.queue) e ∙ ap (λ q. at o.permits q) f

pub fair_pending : (n : ℕ) → IdleIsPending (fair_rules n)
fair_pending n o (Waiting amount None) a o2 p (Some k, t, h) j = (let e = h.0 in absurd cc)
fair_pending n o (Waiting amount None) a o2 p (None, t, h) j = absurd (no_idle_new (nat_lt (length o.queue) n) amount o.queue h)
fair_pending n o (Waiting amount (Some u)) a o2 p (Some k, t, h) j = (let e = h.0 in absurd cc)
fair_pending n o (Waiting amount (Some u)) a o2 p (None, t, h) (Some k, v, j) = absurd (not_both (is_next (Some u) o.queue) amount o.permits o2.permits k t v)
fair_pending n o (Waiting amount (Some u)) a o2 p (None, t, h) (None, v, j) = (j.0, same_object o o2 (same_permits (is_next (Some u) o.queue) amount o.permits o2.permits v) j.1, j.2)
fair_pending n o (Releaser k) a o2 p h j = (let e = h.0 in absurd cc)

Differ-sym : (t u : Option ℕ) → Differ t u → Differ u t
Differ-sym (Some t) (Some u) h = λ e. h (sym e)
Differ-sym (Some t) None h = tt
Differ-sym None (Some u) h = tt
Differ-sym None None h = tt

pub AreApart-sym : (h k : Held) → AreApart h k → AreApart k h
AreApart-sym h k a = Differ-sym (ticket_of h) (ticket_of k) a
