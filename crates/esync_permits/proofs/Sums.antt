-- Plain commands keep the sum of the permits that are there and those of live releasers.
use Rattle.std.proofs.Common.{◌≡◌, ℕ, zero, suc, ◌+◌, ◌-◌, ◌≤◌, Bool, true, false, List, [], ◌∷◌, length, Option, Some, None, refl, ap, arith}
use Rattle.std.specs.Prelude.{◌^◌, nat_lt, slice_get, slice_set}
use Rattle.esync_machine.specs.Runs.{GoodRun}
use Rattle.esync_machine.specs.AccountLaws.{told_requests}
use Rattle.esync_machine.specs.Wakings.{Wakings}
use Rattle.esync_machine.specs.Object.{Object, written, requests_meaning}
use Rattle.esync_machine.specs.ObjectLaws.{EachStep}
use Rattle.esync_machine.specs.declared.run.Reply.{Reply}
use Rattle.esync_machine.specs.declared.primitive.Answer.{Answer}
use Rattle.esync_machine.specs.declared.primitive.Reach.TheVariants.{Nobody, Leavers}
use Rattle.esync_machine.specs.declared.primitive.Command.{Command}
use Rattle.esync_machine.specs.declared.primitive.Command.TheVariants.{Call}
use Rattle.esync_permits.specs.Queue.{is_next}
use Rattle.esync_permits.specs.Permits.{TakesInTurn, released}
use Rattle.esync_permits.specs.declared.semaphore.Amount.{Amount}
use Rattle.esync_permits.specs.declared.semaphore.Amount.TheVariants.{Exactly, AllFrom}
use Rattle.esync_permits.specs.declared.semaphore.machine.PermitHeld.{PermitHeld}
use Rattle.esync_permits.specs.declared.semaphore.machine.PermitHeld.TheVariants.{Waiting, Releaser}
use Rattle.esync_permits.specs.declared.semaphore.machine.PermitCall.{PermitCall}
use Rattle.esync_permits.specs.declared.semaphore.machine.PermitCall.TheVariants.{Try, Disarm, Release, Set, Permits}
use Rattle.esync_permits.specs.declared.semaphore.machine.PermitHeard.{PermitHeard}
use Rattle.esync_permits.specs.PermitRules.{Discipline, permit_rules, reach, releaser, Polls, Ends, Calls}
use Rattle.esync_permits.specs.GreedyRules as greedy_specs
use Rattle.esync_permits.specs.GreedyRules.{greedy}
use Rattle.esync_permits.specs.FairRules as fair_specs
use Rattle.esync_permits.specs.FairRules.{fair}
use Rattle.esync_permits.specs.PermitSums.{IsPlain, granted_at, granted_in, total, AddsUp}

-- how many permits were got
abbrev count_of : Option ℕ → ℕ
count_of None = 0
count_of (Some k) = k

-- what a kind of semaphore keeps: what a request gets was there
pub record Keeps {T G : Type 0} (D : Discipline T G) : Type 0 where
  pub polls : (o o2 : D.Core) (amount : Amount) (t : T) (a : Answer (PermitHeard G)) (p : Option (PermitHeld T)) → D.polls o amount t a o2 p → D.permits o2 + granted_at p ≡ D.permits o
  pub leaves : (o o2 : D.Core) (t : T) → D.leaves o t o2 → D.permits o2 ≡ D.permits o
  pub tries : (o o2 : D.Core) (amount : Amount) (got : Option ℕ) → D.tries o amount got o2 → D.permits o2 + count_of got ≡ D.permits o
  pub puts : (o o2 : D.Core) (n : ℕ) → D.Puts o n o2 → D.permits o2 ≡ n

granted_at-releaser : (T : Type 0) (got : Option ℕ) → granted_at {T = T} (releaser got) ≡ count_of got
granted_at-releaser T None = refl
granted_at-releaser T (Some k) = refl

module _ {T : Type 0} where
  -- a write changes the permits of its number alone
  granted_in-set : (row : List (Option (PermitHeld T))) (r : ℕ) (p p2 : Option (PermitHeld T)) → slice_get row r ≡ Some p → granted_in (slice_set row r p2) + granted_at p ≡ granted_in row + granted_at p2
  granted_in-set [] r p p2 there = cc
  granted_in-set (q ∷ row) zero p p2 there = (let e : q ≡ p = cc in omega (arith, ap granted_at e))
  granted_in-set (q ∷ row) (suc r) p p2 there = omega (arith, granted_in-set row r p p2 there)

pub no_leavers : (call : PermitCall) → reach call ≡ Leavers → ⊥
no_leavers (Try r amount) h = cc
no_leavers (Disarm r) h = cc
no_leavers (Release k) h = cc
no_leavers (Set k) h = cc
no_leavers Permits h = cc

module _ {T G : Type 0} (D : Discipline T G) (keeps : Keeps D) (n : ℕ) (bounded : n ≤ 2 ^ 64 - 1) (W : Type 0) where
  abbrev Sums : Object D.Core (PermitHeld T) → Unit {0} → Type 0
  Sums o k = total D o ≡ n

  polled : (o o2 : D.Core) (h : PermitHeld T) (a : Answer (PermitHeard G)) (p : Option (PermitHeld T)) → Polls D o h a o2 p → D.permits o2 + granted_at p ≡ D.permits o + granted_at (Some h)
  polled o o2 (Waiting amount t) a p h = omega (arith, keeps.polls o o2 amount t a p h)
  polled o o2 (Releaser k) a p h = omega (arith, ap D.permits h.1, ap granted_at h.2)

  ended : (o o2 : D.Core) (h : PermitHeld T) → D.permits o + granted_at (Some h) ≤ 2 ^ 64 - 1 → Ends D o h o2 → D.permits o2 ≡ D.permits o + granted_at (Some h)
  ended o o2 (Waiting amount t) fits h = omega (arith, keeps.leaves o o2 t h)
  ended o o2 (Releaser k) fits h = omega (arith, keeps.puts o o2 (released (D.permits o) k) h)

  called : (o o2 : D.Core) (call : PermitCall) (p p2 : Option (PermitHeld T)) (a : Answer (PermitHeard G)) → IsPlain {W = W} (Call call) → Calls D o call p a o2 p2 → D.permits o2 + granted_at p2 ≡ D.permits o + granted_at p
  called o o2 (Try r amount) None p2 a plain h = omega (arith, keeps.tries o o2 amount h.0 h.1, ap granted_at h.3, granted_at-releaser T h.0)
  called o o2 (Try r amount) (Some x) p2 a plain h = omega (arith, ap D.permits h.1, ap granted_at h.2)
  called o o2 Permits p p2 a plain h = omega (arith, ap D.permits h.1, ap granted_at h.2)
  called o o2 (Disarm r) p p2 a plain h = absurd plain
  called o o2 (Release k) p p2 a plain h = absurd plain
  called o o2 (Set k) p p2 a plain h = absurd plain

  called_alone : (o o2 : D.Core) (call : PermitCall) (p : Option (PermitHeld T)) (a : Answer (PermitHeard G)) → reach call ≡ Nobody → IsPlain {W = W} (Call call) → Calls D o call None a o2 p → D.permits o2 ≡ D.permits o
  called_alone o o2 (Try r amount) p a alone plain h = absurd cc
  called_alone o o2 (Disarm r) p a alone plain h = absurd plain
  called_alone o o2 (Release k) p a alone plain h = absurd plain
  called_alone o o2 (Set k) p a alone plain h = absurd plain
  called_alone o o2 Permits p a alone plain h = ap D.permits h.1

  sums_at : (o : Object D.Core (PermitHeld T)) (r : ℕ) (core : D.Core) (p p2 : Option (PermitHeld T)) → slice_get o.requests r ≡ Some p → D.permits core + granted_at p2 ≡ D.permits o.core + granted_at p → total D o ≡ n → total D (written (permit_rules D) o r core p2) ≡ n
  sums_at o r core p p2 there e sums = omega (arith, e, sums, granted_in-set o.requests r p p2 there)

  fits_at : (o : Object D.Core (PermitHeld T)) (r : ℕ) (p : Option (PermitHeld T)) → slice_get o.requests r ≡ Some p → total D o ≡ n → D.permits o.core + granted_at p ≤ 2 ^ 64 - 1
  fits_at o r p there sums = omega (arith, bounded, sums, granted_in-set o.requests r p None there)

  each : EachStep (permit_rules D) (λ o c a o2. (k : Unit {0}) → IsPlain {W = W} c → Sums o k → Sums o2 k)
  each = record {
    refused = λ o c k plain sums. sums;
    starts = λ o r amount h there begins k plain sums. sums_at o r o.core None (Some h) there (omega (arith, ap granted_at begins)) sums;
    polls = λ o r w h a core p there t k plain sums. sums_at o r core (Some h) p there (polled o.core core h a p t) sums;
    ends = λ o r h core there t k plain sums. sums_at o r core (Some h) None there (omega (arith, ended o.core core h (fits_at o r (Some h) there sums) t)) sums;
    calls = λ o call r p a core p2 reach there t k plain sums. sums_at o r core p p2 there (called o.core core call p p2 a plain t) sums;
    alone = λ o call a core p reach t k plain sums. omega (arith, sums, called_alone o.core core call p a reach plain t);
    leaves = λ o call a core p reach t k plain sums. absurd (no_leavers call reach);
  }

-- a run of plain commands
pub adds_up : {T G : Type 0} (D : Discipline T G) → Keeps D → {W : Type 0} (H : Wakings D.Core (PermitHeld T) PermitCall (PermitHeard G) W) (eq : W → W → Bool) (K : ℕ) (o o2 : Object D.Core (PermitHeld T)) (g g2 : H.Registered) (cs : List (Command Amount W PermitCall)) (as' : List (Reply (Answer (PermitHeard G)) W K)) → GoodRun (requests_meaning (permit_rules D) H eq K) o g cs as' o2 g2 → AddsUp (total D o) cs (total D o2)
adds_up D keeps {W} H eq K o o2 g g2 cs as' run bounded plain =
    told_requests (permit_rules D) (λ c. IsPlain c) (λ k c a. k) H eq K (each D keeps (total D o) bounded W) o o2 g g2 tt cs as' plain run refl

-- what is taken was there
taken_or_left : (b : Bool) (n : ℕ) (amount : Amount) (got : Option ℕ) (n2 : ℕ) → TakesInTurn b n amount got n2 → n2 + count_of got ≡ n
taken_or_left true n (Exactly m) (Some k) n2 h = omega (arith, h.0, h.1, h.2)
taken_or_left true n (AllFrom m) (Some k) n2 h = omega (arith, h.0, h.1, h.2)
taken_or_left true n amount None n2 h = omega (arith, h.1)
taken_or_left false n amount (Some k) n2 h = (let e = h.0 in absurd cc)
taken_or_left false n amount None n2 h = omega (arith, h.1)

greedy_polled : (amount : Amount) (got : Option ℕ) (a : Answer (PermitHeard ℕ)) (p : Option greedy_specs.Held) → greedy_specs.Polled amount got a p → granted_at p ≡ count_of got
greedy_polled amount (Some k) a p h = ap granted_at h.1
greedy_polled amount None a p h = ap granted_at h.1

pub greedy_keeps : Keeps greedy
greedy_keeps = record {
  polls = λ n n2 amount t a p h. omega (arith, taken_or_left true n amount h.0 n2 h.1, greedy_polled amount h.0 a p h.2);
  leaves = λ n n2 t h. h;
  tries = λ n n2 amount got h. taken_or_left true n amount got n2 h;
  puts = λ n n2 m h. h;
}

fair_enters : (room : Bool) (amount : Amount) (q : List ℕ) (a : Answer fair_specs.Heard) (q2 : List ℕ) (p : Option fair_specs.Held) → fair_specs.Enters room amount q a q2 p → granted_at p ≡ 0
fair_enters true amount q a q2 p h = ap granted_at h.4
fair_enters false amount q a q2 p h = ap granted_at h.3

fair_queued : (n : ℕ) (amount : Amount) (t got : Option ℕ) (q : List ℕ) (a : Answer fair_specs.Heard) (q2 : List ℕ) (p : Option fair_specs.Held) → fair_specs.Queued n amount t got q a q2 p → granted_at p ≡ count_of got
fair_queued n amount None (Some k) q a q2 p h = ap granted_at h.2
fair_queued n amount None None q a q2 p h = fair_enters (nat_lt (length q) n) amount q a q2 p h
fair_queued n amount (Some u) (Some k) q a q2 p h = ap granted_at h.2
fair_queued n amount (Some u) None q a q2 p h = ap granted_at h.2

fair_leaves : (o : fair_specs.PermitQueue) (t : Option ℕ) (o2 : fair_specs.PermitQueue) → fair_specs.Leaves o t o2 → o2.permits ≡ o.permits
fair_leaves o None o2 h = ap (λ x. x.permits) h
fair_leaves o (Some t) o2 h = h.0

pub fair_keeps : (n : ℕ) → Keeps (fair n)
fair_keeps n = record {
  polls = λ o o2 amount t a p h. omega (arith, taken_or_left (is_next t o.queue) o.permits amount h.0 o2.permits h.1, fair_queued n amount t h.0 o.queue a o2.queue p h.2);
  leaves = λ o o2 t h. fair_leaves o t o2 h;
  tries = λ o o2 amount got h. taken_or_left (is_next None o.queue) o.permits amount got o2.permits h.0;
  puts = λ o o2 m h. h.0;
}
