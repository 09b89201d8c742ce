-- Nobody overtakes at a fair semaphore: its queue holds who waits, in the order of the line.
use Rattle.std.proofs.Common.{◌≡◌, ℕ, zero, suc, Bool, true, false, List, [], ◌∷◌, ◌++◌, length, Option, Some, None, inl, inr, refl, sym, ◌∙◌, ap, subst, nat_lt}
use Rattle.std.specs.Prelude.{◌==◌, slice_get}
use Rattle.std.proofs.Math.ListN.{replicate}
use Rattle.esync_base.specs.Listed.{is_in, AreDistinct}
use Rattle.esync_base.specs.ListedLaws.{true_or_false, neither, or_second, same_number, equal_number, same_or_not, distinct_back}
use Rattle.esync_machine.specs.Runs.{GoodRun}
use Rattle.esync_machine.specs.AccountLaws.{of_any_kind, KeepsTold, HasLaw, law_requests}
use Rattle.esync_machine.specs.Numbers.{at_number}
use Rattle.esync_machine.specs.NumbersLaws.{at_of, at_set_here, at_set_other}
use Rattle.esync_machine.specs.Wakings.{Wakings}
use Rattle.esync_machine.specs.Object.{Object, written, requests_meaning}
use Rattle.esync_machine.specs.ObjectLaws.{EachStep}
use Rattle.esync_machine.specs.declared.run.Reply.{Reply}
use Rattle.esync_machine.specs.declared.primitive.Answer.{Answer}
use Rattle.esync_machine.specs.declared.primitive.Answer.TheVariants.{Pending, NoSuch, Gives}
use Rattle.esync_machine.specs.declared.primitive.Command.{Command}
use Rattle.esync_machine.specs.declared.primitive.Command.TheVariants.{Start, Poll, End, Call}
use Rattle.esync_permits.specs.Permits.{TakesInTurn}
use Rattle.esync_permits.specs.declared.semaphore.Amount.{Amount}
use Rattle.esync_permits.specs.declared.semaphore.machine.PermitHeld.TheVariants.{Waiting, Releaser}
use Rattle.esync_permits.specs.declared.semaphore.machine.PermitCall.{PermitCall}
use Rattle.esync_permits.specs.declared.semaphore.machine.PermitCall.TheVariants.{Try, Disarm, Release, Set, Permits}
use Rattle.esync_permits.specs.declared.semaphore.machine.PermitHeard.TheVariants.{Tried}
use Rattle.esync_permits.specs.Queue.{without, is_front, is_next}
use Rattle.esync_permits.specs.PermitRules.{releaser, Calls}
use Rattle.esync_permits.specs.FairRules.{PermitQueue, Held, Heard, fair, fair_rules, Enters, Queued, ticket_at}
use Rattle.esync_permits.specs.FairOrder.{line_after_poll, line_after, granted_to, granted, IsFirst, NobodyOvertakes}
use Rattle.esync_permits.proofs.Numbers.{is_in-append, is_in-back, is_in-without}
use Rattle.esync_permits.proofs.FairKept.{had_turn}
use Rattle.esync_permits.proofs.Sums.{no_leavers}

not_both : (b : Bool) → b ≡ true → b ≡ false → ⊥
not_both b h n = (let e = sym h ∙ n in cc)

-- the requests of the line have the tickets of the queue, in order
abbrev Line : (ℕ → Option ℕ) → List ℕ → List ℕ → Type 0
Line tick [] [] = Unit {0}
Line tick (r ∷ line) (t ∷ q) = (tick r ≡ Some t) × Line tick line q
Line tick [] (t ∷ q) = ⊥
Line tick (r ∷ line) [] = ⊥

without_none : (r : ℕ) (line : List ℕ) → is_in r line ≡ false → without r line ≡ line
without_none r [] h = refl
without_none r (x ∷ line) h = (let n = neither (x == r) (is_in r line) h in rw n.0 (ap (λ l. x ∷ l) (without_none r line n.1)))

not_in_without : (u t : ℕ) (q : List ℕ) → is_in u q ≡ false → is_in u (without t q) ≡ false
not_in_without u t [] h = refl
not_in_without u t (x ∷ q) h =
    let n = neither (x == u) (is_in u q) h in
    elim (true_or_false (x == t)) [ inl i ↦ rw i n.1 | inr i ↦ rw i (rw n.0 (not_in_without u t q n.1)) ]

distinct_without : (t : ℕ) (q : List ℕ) → AreDistinct (λ x. x) q → AreDistinct (λ x. x) (without t q)
distinct_without t [] d = tt
distinct_without t (x ∷ q) d = elim (true_or_false (x == t)) [ inl i ↦ rw i d.1 | inr i ↦ rw i (not_in_without x t q d.0, distinct_without t q d.1) ]

module _ (tick : ℕ → Option ℕ) where
  -- the ticket of one in the line is in the queue
  its_ticket : (line q : List ℕ) (r t : ℕ) → Line tick line q → tick r ≡ Some t → is_in r line ≡ true → is_in t q ≡ true
  its_ticket [] q r t h e i = absurd cc
  its_ticket (x ∷ line) [] r t h e i = absurd h
  its_ticket (x ∷ line) (u ∷ q) r t h e i = elim (true_or_false (x == r)) [
    | inl s ↦ (let f : Some u ≡ Some t = sym h.0 ∙ ap tick (same_number x r s) ∙ e in let g : u ≡ t = cc in rw (equal_number u t g) refl)
    | inr s ↦ or_second (u == t) (is_in t q) (its_ticket line q r t h.1 e (rw s at i))
  ]

  -- who has no ticket is not in the line
  outside : (line q : List ℕ) (r : ℕ) → Line tick line q → tick r ≡ None → is_in r line ≡ false
  outside [] q r h n = refl
  outside (x ∷ line) [] r h n = absurd h
  outside (x ∷ line) (u ∷ q) r h n = elim (true_or_false (x == r)) [
    | inl s ↦ (let f : Some u ≡ None = sym h.0 ∙ ap tick (same_number x r s) ∙ n in absurd cc)
    | inr s ↦ rw s (outside line q r h.1 n)
  ]

  -- one comes to the back
  line_back : (line q : List ℕ) (r t : ℕ) → Line tick line q → tick r ≡ Some t → Line tick (line ++ r ∷ []) (q ++ t ∷ [])
  line_back [] [] r t h e = (e, tt)
  line_back [] (u ∷ q) r t h e = absurd h
  line_back (x ∷ line) [] r t h e = absurd h
  line_back (x ∷ line) (u ∷ q) r t h e = (h.0, line_back line q r t h.1 e)

  -- one leaves
  line_without : (line q : List ℕ) (r t : ℕ) → AreDistinct (λ x. x) q → Line tick line q → tick r ≡ Some t → is_in r line ≡ true → Line tick (without r line) (without t q) × (is_in r (without r line) ≡ false)
  line_without [] q r t d h e i = absurd cc
  line_without (x ∷ line) [] r t d h e i = absurd h
  line_without (x ∷ line) (u ∷ q) r t d h e i = elim (true_or_false (x == r)) [
    | inl s ↦
        (let f : Some u ≡ Some t = sym h.0 ∙ ap tick (same_number x r s) ∙ e in
        let g : u ≡ t = cc in
        let away : is_in r line ≡ false = elim (true_or_false (is_in r line)) [
          | inl j ↦ absurd (not_both (is_in u q) (subst (λ y. is_in y q ≡ true) (sym g) (its_ticket line q r t h.1 e j)) d.0)
          | inr j ↦ j
        ] in
        rw (s, equal_number u t g) (h.1, away))
    | inr s ↦
        (let there : is_in r line ≡ true = rw s at i in
        let other : (u == t) ≡ false = elim (true_or_false (u == t)) [
          | inl j ↦ absurd (not_both (is_in u q) (subst (λ y. is_in y q ≡ true) (sym (same_number u t j)) (its_ticket line q r t h.1 e there)) d.0)
          | inr j ↦ j
        ] in
        let k = line_without line q r t d.1 h.1 e there in
        rw (s, other) ((h.0, k.0), rw s k.1))
  ]

  -- who has the ticket in front is the first of the line
  is_first : (line q : List ℕ) (r t : ℕ) → AreDistinct (λ x. x) q → Line tick line q → tick r ≡ Some t → is_in r line ≡ true → is_front t q ≡ true → IsFirst (Some r) line
  is_first [] q r t d h e i f = tt
  is_first (x ∷ line) [] r t d h e i f = absurd h
  is_first (x ∷ line) (u ∷ q) r t d h e i f = elim (true_or_false (x == r)) [
    | inl s ↦ same_number x r s
    | inr s ↦ absurd (not_both (is_in u q) (subst (λ y. is_in y q ≡ true) (sym (same_number u t f)) (its_ticket line q r t h.1 e (rw s at i))) d.0)
  ]

  nobody_waits : (line q : List ℕ) (r : ℕ) → Line tick line q → is_next None q ≡ true → IsFirst (Some r) line
  nobody_waits [] q r h e = tt
  nobody_waits (x ∷ line) [] r h e = absurd h
  nobody_waits (x ∷ line) (u ∷ q) r h e = absurd cc

-- those of the line keep their tickets
line_kept : (tick tick2 : ℕ → Option ℕ) (line q : List ℕ) → ((x : ℕ) → is_in x line ≡ true → tick2 x ≡ tick x) → Line tick line q → Line tick2 line q
line_kept tick tick2 [] [] e h = tt
line_kept tick tick2 [] (t ∷ q) e h = absurd h
line_kept tick tick2 (x ∷ line) [] e h = absurd h
line_kept tick tick2 (x ∷ line) (t ∷ q) e h =
    (e x (rw (equal_number x x refl) refl) ∙ h.0, line_kept tick tick2 line q (λ y i. e y (or_second (x == y) (is_in y line) i)) h.1)

-- who waits is in the line, in the order of the queue
record Lined (tick : ℕ → Option ℕ) (q line : List ℕ) : Type 0 where
  lined : Line tick line q
  all : (x t : ℕ) → tick x ≡ Some t → is_in x line ≡ true
  distinct : AreDistinct (λ x. x) q

-- the ticket of what stands at a number
abbrev tickets : Object PermitQueue Held → ℕ → Option ℕ
tickets o x = ticket_at (at_number o.requests x)

abbrev Told : Object PermitQueue Held → List ℕ → Type 0
Told o line = Lined (tickets o) o.core.queue line

-- of a command on the number r, where p stood, and p2 stands now
module _ (n : ℕ) (o : Object PermitQueue Held) (line : List ℕ) (told : Told o line) (r : ℕ) (core : PermitQueue) (p p2 : Option Held) (there : slice_get o.requests r ≡ Some p) where
  abbrev after : Object PermitQueue Held
  after = written (fair_rules n) o r core p2

  others : (x : ℕ) → (r ≡ x → ⊥) → tickets after x ≡ tickets o x
  others x ne = ap ticket_at (at_set_other o.requests r x p2 ne)

  before : (x : Option ℕ) → ticket_at p ≡ x → tickets o r ≡ x
  before x e = ap ticket_at (at_of o.requests r p there) ∙ e

  now : (x : Option ℕ) → ticket_at p2 ≡ x → tickets after r ≡ x
  now x e = ap ticket_at (at_set_here o.requests r p p2 there) ∙ e

  kept_of : (l : List ℕ) → is_in r l ≡ false → (x : ℕ) → is_in x l ≡ true → tickets after x ≡ tickets o x
  kept_of l none x i = others x (λ s. not_both (is_in x l) i (subst (λ y. is_in y l ≡ false) s none))

  out : ticket_at p ≡ None → is_in r line ≡ false
  out e = outside (tickets o) line o.core.queue r told.lined (before None e)

  stays : core.queue ≡ o.core.queue → ticket_at p2 ≡ ticket_at p → Told after line
  stays e f =
      let same : (x : ℕ) → tickets after x ≡ tickets o x = λ x. elim (same_or_not r x) [ inl s ↦ subst (λ y. tickets after y ≡ tickets o y) s (now (ticket_at p) f ∙ sym (before (ticket_at p) refl)) | inr ne ↦ others x ne ] in
      subst (λ q. Lined (tickets after) q line) (sym e) (record {
        lined = line_kept (tickets o) (tickets after) line o.core.queue (λ x i. same x) told.lined;
        all = λ x t h. told.all x t (sym (same x) ∙ h);
        distinct = told.distinct;
      })

  stays_out : core.queue ≡ o.core.queue → ticket_at p ≡ None → ticket_at p2 ≡ None → Told after (without r line)
  stays_out e f f2 = subst (λ l. Told after l) (sym (without_none r line (out f))) (stays e (f2 ∙ sym f))

  enters : (t : ℕ) → is_in t o.core.queue ≡ false → core.queue ≡ o.core.queue ++ t ∷ [] → ticket_at p ≡ None → ticket_at p2 ≡ Some t → Told after (line_after_poll line r Pending)
  enters t fresh e f f2 = rw (out f) (subst (λ q. Lined (tickets after) q (line ++ r ∷ [])) (sym e) (record {
    lined = line_back (tickets after) line o.core.queue r t (line_kept (tickets o) (tickets after) line o.core.queue (kept_of line (out f)) told.lined) (now (Some t) f2);
    all = λ x u h. elim (same_or_not r x) [
      | inl s ↦ subst (λ y. is_in y (line ++ r ∷ []) ≡ true) s (is_in-back r line)
      | inr ne ↦ is_in-append x line (r ∷ []) (told.all x u (sym (others x ne) ∙ h))
    ];
    distinct = distinct_back (λ x. x) o.core.queue t told.distinct fresh;
  }))

  waits : (t : ℕ) → core.queue ≡ o.core.queue → ticket_at p ≡ Some t → ticket_at p2 ≡ Some t → Told after (line_after_poll line r Pending)
  waits t e f f2 = rw (told.all r t (before (Some t) f)) (stays e (f2 ∙ sym f))

  leaves : (t : ℕ) → core.queue ≡ without t o.core.queue → ticket_at p ≡ Some t → ticket_at p2 ≡ None → Told after (without r line)
  leaves t e f f2 =
      let k = line_without (tickets o) line o.core.queue r t told.distinct told.lined (before (Some t) f) (told.all r t (before (Some t) f)) in
      subst (λ q. Lined (tickets after) q (without r line)) (sym e) (record {
        lined = line_kept (tickets o) (tickets after) (without r line) (without t o.core.queue) (kept_of (without r line) k.1) k.0;
        all = λ x u h. elim (same_or_not r x) [
          | inl s ↦ (let g : Some u ≡ None = sym h ∙ ap (tickets after) (sym s) ∙ now None f2 in absurd cc)
          | inr ne ↦ is_in-without r x line ne ∙ told.all x u (sym (others x ne) ∙ h)
        ];
        distinct = distinct_without t o.core.queue told.distinct;
      })

ticket_of_try : (got : Option ℕ) → ticket_at (releaser got) ≡ None
ticket_of_try None = refl
ticket_of_try (Some k) = refl

module _ (n : ℕ) (W : Type 0) where
  module _ (o : Object PermitQueue Held) (line : List ℕ) (told : Told o line) where
    -- who is granted without a ticket finds nobody waiting
    granted_new : (r : ℕ) (amount : Amount) (k : ℕ) (core : PermitQueue) → TakesInTurn (is_next None o.core.queue) o.core.permits amount (Some k) core.permits → IsFirst (Some r) line
    granted_new r amount k core takes = nobody_waits (tickets o) line o.core.queue r told.lined (had_turn (is_next None o.core.queue) amount o.core.permits k core.permits takes)

    module _ (r : ℕ) (core : PermitQueue) (a : Answer Heard) (p2 : Option Held) where
      -- a poll keeps what is told, and grants to the first of the line
      abbrev Polled : Type 0
      Polled = Told (written (fair_rules n) o r core p2) (line_after_poll line r a) × IsFirst (granted_to r a) line

      entered : (amount : Amount) (room : Bool) → slice_get o.requests r ≡ Some (Some (Waiting amount None)) → Enters room amount o.core.queue a core.queue p2 → Polled
      entered amount true there h = rw h.2 (enters n o line told r core (Some (Waiting amount None)) p2 there h.0 h.1 h.3 refl (ap ticket_at h.4), tt)
      entered amount false there h = rw h.1 (stays_out n o line told r core (Some (Waiting amount None)) p2 there h.2 refl (ap ticket_at h.3), tt)

      queued : (amount : Amount) (t got : Option ℕ) → slice_get o.requests r ≡ Some (Some (Waiting amount t)) → TakesInTurn (is_next t o.core.queue) o.core.permits amount got core.permits → Queued n amount t got o.core.queue a core.queue p2 → Polled
      queued amount None (Some k) there takes h = rw h.0 (stays_out n o line told r core (Some (Waiting amount None)) p2 there h.1 refl (ap ticket_at h.2), granted_new r amount k core takes)
      queued amount None None there takes h = entered amount (nat_lt (length o.core.queue) n) there h
      queued amount (Some t) (Some k) there takes h =
          let e : tickets o r ≡ Some t = ap ticket_at (at_of o.requests r (Some (Waiting amount (Some t))) there) in
          rw h.0 (
            leaves n o line told r core (Some (Waiting amount (Some t))) p2 there t h.1 refl (ap ticket_at h.2),
            is_first (tickets o) line o.core.queue r t told.distinct told.lined e (told.all r t e) (had_turn (is_front t o.core.queue) amount o.core.permits k core.permits takes),
          )
      queued amount (Some t) None there takes h = rw h.0 (waits n o line told r core (Some (Waiting amount (Some t))) p2 there t h.1 refl (ap ticket_at h.2), tt)

      polled : (h : Held) → slice_get o.requests r ≡ Some (Some h) → (fair_rules n).polls o.core h a core p2 → Polled
      polled (Waiting amount t) there h = queued amount t h.0 there h.1 h.2
      polled (Releaser k) there h = rw h.0 (stays n o line told r core (Some (Releaser k)) p2 there (ap (λ c. c.queue) h.1) (ap ticket_at h.2), tt)

    ended : (r : ℕ) (h : Held) (core : PermitQueue) → slice_get o.requests r ≡ Some (Some h) → (fair_rules n).ends o.core h core → Told (written (fair_rules n) o r core None) (without r line)
    ended r (Waiting amount None) core there h = stays_out n o line told r core (Some (Waiting amount None)) None there (ap (λ c. c.queue) h) refl refl
    ended r (Waiting amount (Some t)) core there h = leaves n o line told r core (Some (Waiting amount (Some t))) None there t h.1 refl refl
    ended r (Releaser k) core there h = stays_out n o line told r core (Some (Releaser k)) None there h.1 refl refl

    tried : (r : ℕ) (amount : Amount) (core : PermitQueue) (got : Option ℕ) → TakesInTurn (is_next None o.core.queue) o.core.permits amount got core.permits → IsFirst (granted_to r (Gives (Tried got))) line
    tried r amount core None takes = tt
    tried r amount core (Some k) takes = granted_new r amount k core takes

    -- a call leaves the queue and the tickets, and grants where nobody waits
    called : (call : PermitCall) (a : Answer Heard) (core : PermitQueue) (p p2 : Option Held) → Calls (fair n) o.core call p a core p2 → (core.queue ≡ o.core.queue) × (ticket_at p2 ≡ ticket_at p) × IsFirst (granted {W = W} (Call call) a) line
    called (Try r amount) a core None p2 h = (h.1.1, ap ticket_at h.3 ∙ ticket_of_try h.0, rw h.2 (tried r amount core h.0 h.1.0))
    called (Try r amount) a core (Some x) p2 h = (ap (λ c. c.queue) h.1, ap ticket_at h.2, rw h.0 tt)
    called (Disarm r) a core None p2 h = (ap (λ c. c.queue) h.1, ap ticket_at h.2, tt)
    called (Disarm r) a core (Some (Waiting amount t)) p2 h = (ap (λ c. c.queue) h.1, ap ticket_at h.2, tt)
    called (Disarm r) a core (Some (Releaser k)) p2 h = (ap (λ c. c.queue) h.1, ap ticket_at h.2, tt)
    called (Release k) a core p p2 h = (h.1.1, ap ticket_at h.2, tt)
    called (Set k) a core p p2 h = (h.1.1, ap ticket_at h.2, tt)
    called Permits a core p p2 h = (ap (λ c. c.queue) h.1, ap ticket_at h.2, tt)

  -- nothing is told, and nothing granted, where nothing changed
  refused : (line : List ℕ) (c : Command Amount W PermitCall) → (line_after line c NoSuch ≡ line) × IsFirst (granted c NoSuch) line
  refused line (Start r amount) = (refl, tt)
  refused line (Poll r w) = (refl, tt)
  refused line (End r) = (refl, tt)
  refused line (Call (Try r amount)) = (refl, tt)
  refused line (Call (Disarm r)) = (refl, tt)
  refused line (Call (Release k)) = (refl, tt)
  refused line (Call (Set k)) = (refl, tt)
  refused line (Call Permits) = (refl, tt)

  keeps : EachStep (fair_rules n) (KeepsTold (fair_rules n) (λ c. Unit {0}) (line_after {W = W}) Told)
  keeps = record {
    refused = λ o c line u told. subst (λ l. Told o l) (sym (refused line c).0) told;
    starts = λ o r amount h there begins line u told. stays n o line told r o.core None (Some h) there refl (ap ticket_at begins);
    polls = λ o r w h a core p there t line u told. (polled o line told r core a p h there t).0;
    ends = λ o r h core there t line u told. ended o line told r h core there t;
    calls = λ o call r p a core p2 reach there t line u told. (let k = called o line told call a core p p2 t in stays n o line told r core p p2 there k.0 k.1);
    alone = λ o call a core p reach t line u told. subst (λ q. Lined (tickets o) q line) (sym (called o line told call a core None p t).0) told;
    leaves = λ o call a core p reach t line u told. absurd (no_leavers call reach);
  }

  holds : EachStep (fair_rules n) (HasLaw (fair_rules n) (λ c. Unit {0}) (line_after {W = W}) Told (λ line c a. IsFirst (granted c a) line))
  holds = record {
    refused = λ o c line u told. (refused line c).1;
    starts = λ o r amount h there begins line u told. tt;
    polls = λ o r w h a core p there t line u told. (polled o line told r core a p h there t).1;
    ends = λ o r h core there t line u told. tt;
    calls = λ o call r p a core p2 reach there t line u told. (called o line told call a core p p2 t).2;
    alone = λ o call a core p reach t line u told. (called o line told call a core None p t).2;
    leaves = λ o call a core p reach t line u told. absurd (no_leavers call reach);
  }

-- nobody has a ticket where all numbers are free
none_waits : (m x t : ℕ) → ticket_at (at_number (replicate m None) x) ≡ Some t → ⊥
none_waits zero x t e = cc
none_waits (suc m) zero t e = cc
none_waits (suc m) (suc x) t e = none_waits m x t e

pub nobody_overtakes : (n : ℕ) {W : Type 0} (H : Wakings PermitQueue Held PermitCall Heard W) (eq : W → W → Bool) (K REQS : ℕ) (o o2 : Object PermitQueue Held) (g g2 : H.Registered) (cs : List (Command Amount W PermitCall)) (as' : List (Reply (Answer Heard) W K)) → GoodRun (requests_meaning (fair_rules n) H eq K) o g cs as' o2 g2 → o.core.queue ≡ [] → o.requests ≡ replicate REQS None → NobodyOvertakes [] cs as'
nobody_overtakes n {W} H eq K REQS o o2 g g2 cs as' run empty free =
    law_requests (fair_rules n) (λ c. Unit {0}) (line_after {W = W}) H eq K (keeps n W) (holds n W) o o2 g g2 [] cs as' (of_any_kind cs) run (record {
      lined = subst (λ q. Line (tickets o) [] q) (sym empty) tt;
      all = λ x t e. absurd (none_waits REQS x t (subst (λ q. ticket_at (at_number q x) ≡ Some t) free e));
      distinct = subst (λ q. AreDistinct (λ x. x) q) (sym empty) tt;
    })
