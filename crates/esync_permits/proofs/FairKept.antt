-- What the steps of a fair semaphore keep for its requests, and what they are in its object.
use Rattle.std.proofs.Common.{◌≡◌, ℕ, ◌<◌, ◌≤◌, Bool, true, false, List, [], ◌∷◌, ◌++◌, length, nat_lt, Option, Some, None, ◌⊎◌, inl, inr, refl, sym, ◌∙◌, ap, subst, arith}
use Rattle.std.specs.Prelude.{◌==◌, Ok, Err, IfSome}
use Rattle.std.proofs.lemmas.Bool.Decides.{nat_tests}
use Rattle.std.proofs.lemmas.List.{length-map}
use Rattle.esync_base.specs.Registration.{IsAmong}
use Rattle.esync_permits.specs.declared.queue.Entry.{Entry}
use Rattle.esync_permits.specs.declared.semaphore.Amount.{Amount}
use Rattle.esync_permits.specs.declared.semaphore.FairPoll.{FairPoll}
use Rattle.esync_permits.specs.declared.semaphore.FairPoll.TheVariants.{Pending as Waits, Ready}
use Rattle.esync_permits.specs.declared.semaphore.machine.PermitHeld.TheVariants.{Waiting, Releaser}
use Rattle.esync_permits.specs.Permits.{TakesInTurn, woken_if}
use Rattle.esync_base.specs.Listed.{is_in}
use Rattle.esync_permits.specs.Queue.{is_front, is_next, numbers, wakers_at, front_wakers, entered, with_waker, left_by}
use Rattle.esync_permits.specs.Fair.{Fair, heard, ticket_after, granted_by, OnRefusal, NamesWaiting, HasNoPlace, Queues, wakes_of_grant}
use Rattle.esync_permits.specs.FairRules.{Held, object_of, Enters, Queued, Polls, Leaves, ticket_of, Differ, AreApart, FitsFor, OwesTicket, OwesFor, fair_wakings}
use Rattle.esync_permits.specs.FairTurns.{answer_of, place_of}
use Rattle.esync_machine.specs.Rules.{IsApart, IsOwed}
use Rattle.esync_machine.specs.Wakings.{IsHanded, polled}
use Rattle.esync_machine.specs.declared.primitive.Answer.TheVariants.{Pending}
use Rattle.esync_base.specs.ListedLaws.{true_or_false, neither}
use Rattle.esync_permits.proofs.Numbers.{is_in-append, is_in-back, is_in-without, is_front-append, is_front-without, is_fresh}
use Rattle.esync_permits.proofs.Entries.{numbers-entered, numbers-with_waker, numbers-left_by, wakers_at-entered, wakers_at-append, wakers_at-same, wakers_at-other, wakers_at-left_by, front_wakers-front}

-- fewer permits don't make it its turn
still_waits : (b : Bool) (amount : Amount) (n n2 : ℕ) → n2 ≤ n → TakesInTurn b n amount None n → TakesInTurn b n2 amount None n2
still_waits true amount n n2 l h = (omega arith, refl)
still_waits false amount n n2 l h = (refl, refl)

takes_none : (b : Bool) (amount : Amount) (n n2 : ℕ) → TakesInTurn true n amount None n2 → TakesInTurn b n2 amount None n2
takes_none true amount n n2 h = (omega arith, refl)
takes_none false amount n n2 h = (refl, refl)

same_permits : (b : Bool) (amount : Amount) (n n2 : ℕ) → TakesInTurn b n amount None n2 → n2 ≡ n
same_permits true amount n n2 h = h.1
same_permits false amount n n2 h = h.1

pub had_turn : (b : Bool) (amount : Amount) (n k n2 : ℕ) → TakesInTurn b n amount (Some k) n2 → b ≡ true
had_turn true amount n k n2 h = refl
had_turn false amount n k n2 h = (let e = h.0 in cc)

-- where somebody waits, it is not the turn of who doesn't
somebody : (u : ℕ) (xs : List ℕ) → is_in u xs ≡ true → is_next None xs ≡ false
somebody u [] h = absurd cc
somebody u (x ∷ xs) h = refl

-- what another request has in the queue: its number and its waker
record Stays {W : Type 0} (u : ℕ) (es es2 : List (Entry W)) : Type 0 where
  number : is_in u (numbers es2) ≡ true
  waker : wakers_at u es2 ≡ wakers_at u es

module _ {W : Type 0} (u : ℕ) (es es2 : List (Entry W)) (h : is_in u (numbers es) ≡ true) where
  stays_same : es2 ≡ es → Stays u es es2
  stays_same e = record { number = ap (λ x. is_in u (numbers x)) e ∙ h; waker = ap (λ x. wakers_at u x) e }

  stays_entered : (t : ℕ) (w : W) → es2 ≡ entered t w es → Stays u es es2
  stays_entered t w e = record {
    number = ap (λ x. is_in u (numbers x)) e ∙ ap (λ xs. is_in u xs) (numbers-entered t w es) ∙ is_in-append u (numbers es) (t ∷ []) h;
    waker = ap (λ x. wakers_at u x) e ∙ wakers_at-append u t w es h;
  }

  stays_with : (t : ℕ) (w : W) → (t ≡ u → ⊥) → es2 ≡ with_waker t w es → Stays u es es2
  stays_with t w d e = record {
    number = ap (λ x. is_in u (numbers x)) e ∙ ap (λ xs. is_in u xs) (numbers-with_waker t w es) ∙ h;
    waker = ap (λ x. wakers_at u x) e ∙ wakers_at-other t u w es d;
  }

  stays_left : (t : ℕ) → (t ≡ u → ⊥) → es2 ≡ left_by t es → Stays u es es2
  stays_left t d e = record {
    number = ap (λ x. is_in u (numbers x)) e ∙ ap (λ xs. is_in u xs) (numbers-left_by t es) ∙ is_in-without t u (numbers es) d ∙ h;
    waker = ap (λ x. wakers_at u x) e ∙ wakers_at-left_by t u es d;
  }

module _ {W : Type 0} (eq : W → W → Bool) (s s2 : Fair W) (amount : Amount) (u : ℕ) (v : W) (stays : Stays u s.entries s2.entries) (owed : OwesTicket eq s amount (Some u) v) where
  -- the front stays, and there are no more permits
  owes_same : is_front u (numbers s2.entries) ≡ is_front u (numbers s.entries) → s2.permits ≤ s.permits → OwesTicket eq s2 amount (Some u) v
  owes_same f l = (
    subst (λ b. TakesInTurn b s2.permits amount None s2.permits) (sym f) (still_waits (is_front u (numbers s.entries)) amount s.permits s2.permits l owed.0),
    subst (λ vs. IsAmong eq v vs) (sym stays.waker) owed.1,
  )

  -- who is in front is told
  told_or_owed : (wakes : List W) → wakes ≡ front_wakers s2.entries → IsAmong eq v wakes ⊎ OwesTicket eq s2 amount (Some u) v
  told_or_owed wakes ws =
      let there : IsAmong eq v (wakers_at u s2.entries) = subst (λ vs. IsAmong eq v vs) (sym stays.waker) owed.1 in
      elim (true_or_false (is_front u (numbers s2.entries))) [
        | inl i ↦ inl (subst (λ vs. IsAmong eq v vs) (sym (ws ∙ front_wakers-front u s2.entries i)) there)
        | inr i ↦ inr (subst (λ b. TakesInTurn b s2.permits amount None s2.permits) (sym i) (refl, refl), there)
      ]

pub from_none : {W : Type 0} (old new xs : List W) → new ≡ old ++ xs → old ≡ [] → new ≡ xs
from_none old new xs e h = e ∙ ap (λ l. l ++ xs) h

-- what a poll of the state does
pub record PolledBy {W : Type 0} (n : ℕ) (w : W) (amount : Amount) (ticket : Option ℕ) (s : Fair W) (poll : FairPoll) (s2 : Fair W) (wakes : List W) : Type 0 where
  pub permits : TakesInTurn (is_next ticket (numbers s.entries)) s.permits amount (granted_by (heard poll)) s2.permits
  pub full : OnRefusal (heard poll) (HasNoPlace n ticket s.entries)
  pub entries : Queues n w ticket s.entries (ticket_after poll) s2.entries
  pub wakes_are : wakes ≡ wakes_of_grant ticket (granted_by (heard poll)) s2.entries

pub polled_by : {W : Type 0} (n : ℕ) (w : W) (amount : Amount) (ticket : Option ℕ) (s : Fair W) (poll : FairPoll) (s2 : Fair W) (old wakes : List W) → TakesInTurn (is_next ticket (numbers s.entries)) s.permits amount (granted_by (heard poll)) s2.permits → OnRefusal (heard poll) (HasNoPlace n ticket s.entries) → Queues n w ticket s.entries (ticket_after poll) s2.entries → wakes ≡ old ++ wakes_of_grant ticket (granted_by (heard poll)) s2.entries → old ≡ [] → PolledBy n w amount ticket s poll s2 wakes
polled_by n w amount ticket s poll s2 old wakes permits full entries handed empty = record { permits = permits; full = full; entries = entries; wakes_are = from_none old wakes _ handed empty }

module _ {W : Type 0} (eq : W → W → Bool) (n : ℕ) (w : W) (amount : Amount) (s s2 : Fair W) (wakes : List W) where
  -- another request stays
  other_stays : (ticket : Option ℕ) (poll : FairPoll) (u : ℕ) → PolledBy n w amount ticket s poll s2 wakes → is_in u (numbers s.entries) ≡ true → Differ ticket (Some u) → Stays u s.entries s2.entries
  other_stays None (Ready (Ok k)) u p h d = stays_same u s.entries s2.entries h p.entries
  other_stays None (Ready (Err e)) u p h d = stays_same u s.entries s2.entries h p.entries
  other_stays None (Waits t) u p h d = stays_entered u s.entries s2.entries h t w p.entries.2
  other_stays (Some t) (Ready (Ok k)) u p h d = stays_left u s.entries s2.entries h t d p.entries
  other_stays (Some t) (Ready (Err e)) u p h d = absurd p.full
  other_stays (Some t) (Waits t2) u p h d = stays_with u s.entries s2.entries h t w d p.entries.1

  kept_ticket : (ticket : Option ℕ) (poll : FairPoll) (other : Amount) (u : ℕ) (v : W) → PolledBy n w amount ticket s poll s2 wakes → is_in u (numbers s.entries) ≡ true → Stays u s.entries s2.entries → OwesTicket eq s other (Some u) v → IsAmong eq v wakes ⊎ OwesTicket eq s2 other (Some u) v
  kept_ticket None (Ready (Ok k)) other u v p h stays o =
      absurd (let e = sym (had_turn (is_next None (numbers s.entries)) amount s.permits k s2.permits p.permits) ∙ somebody u (numbers s.entries) h in cc)
  kept_ticket None (Ready (Err e)) other u v p h stays o =
      let m = same_permits (is_next None (numbers s.entries)) amount s.permits s2.permits p.permits in
      inr (owes_same eq s s2 other u v stays o (ap (λ es. is_front u (numbers es)) p.entries) (omega arith))
  kept_ticket None (Waits t) other u v p h stays o =
      let m = same_permits (is_next None (numbers s.entries)) amount s.permits s2.permits p.permits in
      inr (owes_same eq s s2 other u v stays o (ap (λ es. is_front u (numbers es)) p.entries.2 ∙ ap (λ xs. is_front u xs) (numbers-entered t w s.entries) ∙ is_front-append u u (numbers s.entries) (t ∷ []) h) (omega arith))
  kept_ticket (Some t) (Ready (Ok k)) other u v p h stays o = told_or_owed eq s s2 other u v stays o wakes p.wakes_are
  kept_ticket (Some t) (Ready (Err e)) other u v p h stays o = absurd p.full
  kept_ticket (Some t) (Waits t2) other u v p h stays o =
      let m = same_permits (is_front t (numbers s.entries)) amount s.permits s2.permits p.permits in
      inr (owes_same eq s s2 other u v stays o (ap (λ es. is_front u (numbers es)) p.entries.1 ∙ ap (λ xs. is_front u xs) (numbers-with_waker t w s.entries)) (omega arith))

  pub kept_polled : (ticket : Option ℕ) (poll : FairPoll) (h : Held) (v : W) → PolledBy n w amount ticket s poll s2 wakes → FitsFor s h → Differ ticket (ticket_of h) → OwesFor eq s h v → IsAmong eq v wakes ⊎ OwesFor eq s2 h v
  kept_polled ticket poll (Releaser k) v p f d o = absurd o
  kept_polled ticket poll (Waiting other None) v p f d o = absurd o
  kept_polled ticket poll (Waiting other (Some u)) v p f d o = kept_ticket ticket poll other u v p f (other_stays ticket poll u p f d) o

  pub fits_polled : (ticket : Option ℕ) (poll : FairPoll) (h : Held) → PolledBy n w amount ticket s poll s2 wakes → FitsFor s h → Differ ticket (ticket_of h) → FitsFor s2 h
  fits_polled ticket poll (Releaser k) p f d = tt
  fits_polled ticket poll (Waiting other None) p f d = tt
  fits_polled ticket poll (Waiting other (Some u)) p f d = (other_stays ticket poll u p f d).number

  differs_new : (t : ℕ) (o : Option ℕ) → is_in t (numbers s.entries) ≡ false → NamesWaiting o s.entries → Differ (Some t) o
  differs_new t None f h = tt
  differs_new t (Some u) f h = is_fresh t u (numbers s.entries) f h

  pub apart_polled : (ticket : Option ℕ) (poll : FairPoll) (h : Held) → PolledBy n w amount ticket s poll s2 wakes → FitsFor s h → Differ ticket (ticket_of h) → IsApart AreApart (place_of amount poll) h
  apart_polled ticket (Ready (Ok k)) h p f d = tt
  apart_polled ticket (Ready (Err e)) h p f d = tt
  apart_polled None (Waits t) h p f d = differs_new t (ticket_of h) p.entries.1.free f
  apart_polled (Some t) (Waits t2) h p f d = subst (λ x. Differ (Some x) (ticket_of h)) (sym p.entries.0) d

  -- the request itself waits under its ticket, with this waker
  own_waker : (ticket : Option ℕ) (t : ℕ) → PolledBy n w amount ticket s (Waits t) s2 wakes → NamesWaiting ticket s.entries → wakers_at t s2.entries ≡ w ∷ []
  own_waker None t p f = ap (λ es. wakers_at t es) p.entries.2 ∙ wakers_at-entered t w s.entries p.entries.1.free
  own_waker (Some t) t2 p f = ap (λ x. wakers_at x s2.entries) p.entries.0 ∙ ap (λ es. wakers_at t es) p.entries.1 ∙ wakers_at-same t w s.entries f

  own_number : (ticket : Option ℕ) (t : ℕ) → PolledBy n w amount ticket s (Waits t) s2 wakes → NamesWaiting ticket s.entries → is_in t (numbers s2.entries) ≡ true
  own_number None t p f = ap (λ es. is_in t (numbers es)) p.entries.2 ∙ ap (λ xs. is_in t xs) (numbers-entered t w s.entries) ∙ is_in-back t (numbers s.entries)
  own_number (Some t) t2 p f = ap (λ x. is_in x (numbers s2.entries)) p.entries.0 ∙ ap (λ es. is_in t (numbers es)) p.entries.1 ∙ ap (λ xs. is_in t xs) (numbers-with_waker t w s.entries) ∙ f

  pub fits_own : (ticket : Option ℕ) (poll : FairPoll) → PolledBy n w amount ticket s poll s2 wakes → NamesWaiting ticket s.entries → IfSome (place_of amount poll) (λ h. FitsFor s2 h)
  fits_own ticket (Ready (Ok k)) p f = tt
  fits_own ticket (Ready (Err e)) p f = tt
  fits_own ticket (Waits t) p f = own_number ticket t p f

  -- who comes to wait is in front only where the permits aren't there
  new_waits : (xs : List ℕ) (t : ℕ) (m m2 : ℕ) → TakesInTurn (is_next None xs) m amount None m2 → is_in t xs ≡ false → TakesInTurn (is_front t (xs ++ t ∷ [])) m2 amount None m2
  new_waits [] t m m2 h f = takes_none (t == t) amount m m2 h
  new_waits (x ∷ xs) t m m2 h f = subst (λ b. TakesInTurn b m2 amount None m2) (sym (neither (x == t) (is_in t xs) f).0) (refl, refl)

  own_turn : (ticket : Option ℕ) (t : ℕ) → PolledBy n w amount ticket s (Waits t) s2 wakes → TakesInTurn (is_front t (numbers s2.entries)) s2.permits amount None s2.permits
  own_turn None t p =
      subst (λ xs. TakesInTurn (is_front t xs) s2.permits amount None s2.permits) (sym (ap (λ es. numbers es) p.entries.2 ∙ numbers-entered t w s.entries))
      (new_waits (numbers s.entries) t s.permits s2.permits p.permits p.entries.1.free)
  own_turn (Some t) t2 p =
      let b = is_front t (numbers s.entries) in
      let m = same_permits b amount s.permits s2.permits p.permits in
      let f : is_front t2 (numbers s2.entries) ≡ b = ap (λ x. is_front x (numbers s2.entries)) p.entries.0 ∙ ap (λ es. is_front t (numbers es)) p.entries.1 ∙ ap (λ xs. is_front t xs) (numbers-with_waker t w s.entries) in
      subst (λ x. TakesInTurn x s2.permits amount None s2.permits) (sym f) (subst (λ x. TakesInTurn b x amount None s2.permits) (sym m) p.permits)

  pub registered_polled : ((x : W) → eq x x ≡ true) → (ticket : Option ℕ) (poll : FairPoll) → PolledBy n w amount ticket s poll s2 wakes → NamesWaiting ticket s.entries → answer_of poll ≡ Pending → IsAmong eq w wakes ⊎ IsOwed (OwesFor eq) s2 (place_of amount poll) w
  registered_polled same ticket (Ready a) p f e = absurd cc
  registered_polled same ticket (Waits t) p f e = inr (own_turn ticket t p, subst (λ vs. IsAmong eq w vs) (sym (own_waker ticket t p f)) (rw (same w) refl))

  pub quiet_polled : (ticket : Option ℕ) (poll : FairPoll) → PolledBy n w amount ticket s poll s2 wakes → answer_of poll ≡ Pending → IsAmong eq w wakes → ⊥
  quiet_polled ticket (Ready a) p e i = (let k = e in cc)
  quiet_polled None (Waits t) p e i = (let k : IsAmong eq w [] = subst (λ ws. IsAmong eq w ws) p.wakes_are i in cc)
  quiet_polled (Some t) (Waits t2) p e i = (let k : IsAmong eq w [] = subst (λ ws. IsAmong eq w ws) p.wakes_are i in cc)

  full_enters : (e : _) → length s.entries ≡ n → s2.entries ≡ s.entries → Enters (nat_lt (length (numbers s.entries)) n) amount (numbers s.entries) (answer_of (Ready (Err e))) (numbers s2.entries) None
  full_enters e h f =
      let full : nat_lt (length (numbers s.entries)) n ≡ false = rw length-map (grind (arith, nat_tests)) in
      subst (λ b. Enters b amount (numbers s.entries) (answer_of (Ready (Err e))) (numbers s2.entries) None) (sym full) (e, refl, ap (λ es. numbers es) f, refl)

  new_enters : (t : ℕ) → length s.entries < n → is_in t (numbers s.entries) ≡ false → s2.entries ≡ entered t w s.entries → Enters (nat_lt (length (numbers s.entries)) n) amount (numbers s.entries) Pending (numbers s2.entries) (Some (Waiting amount (Some t)))
  new_enters t l f e =
      let room : nat_lt (length (numbers s.entries)) n ≡ true = rw length-map (grind (arith, nat_tests)) in
      subst (λ b. Enters b amount (numbers s.entries) Pending (numbers s2.entries) (Some (Waiting amount (Some t)))) (sym room)
      (t, f, refl, ap (λ es. numbers es) e ∙ numbers-entered t w s.entries, refl)

  queued : (ticket : Option ℕ) (poll : FairPoll) → PolledBy n w amount ticket s poll s2 wakes → Queued n amount ticket (granted_by (heard poll)) (numbers s.entries) (answer_of poll) (numbers s2.entries) (place_of amount poll)
  queued None (Ready (Ok k)) p = (refl, ap (λ es. numbers es) p.entries, refl)
  queued None (Ready (Err e)) p = full_enters e p.full p.entries
  queued None (Waits t) p = new_enters t p.entries.0 p.entries.1.free p.entries.2
  queued (Some t) (Ready (Ok k)) p = (refl, ap (λ es. numbers es) p.entries ∙ numbers-left_by t s.entries, refl)
  queued (Some t) (Ready (Err e)) p = absurd p.full
  queued (Some t) (Waits t2) p = (refl, ap (λ es. numbers es) p.entries.1 ∙ numbers-with_waker t w s.entries, ap (λ x. Some (Waiting amount (Some x))) p.entries.0)

  pub allowed_polled : (ticket : Option ℕ) (poll : FairPoll) → PolledBy n w amount ticket s poll s2 wakes → Polls n (object_of s) amount ticket (answer_of poll) (object_of s2) (place_of amount poll)
  allowed_polled ticket poll p = (granted_by (heard poll), p.permits, queued ticket poll p)

  pub exact_polled : (ticket : Option ℕ) (poll : FairPoll) → PolledBy n w amount ticket s poll s2 wakes → IsHanded (polled fair_wakings (object_of s) s.entries (Waiting amount ticket) w (answer_of poll) (place_of amount poll)) wakes s2.entries
  exact_polled None (Ready (Ok k)) p = (p.wakes_are, p.entries)
  exact_polled None (Ready (Err e)) p = (p.wakes_are, p.entries)
  exact_polled None (Waits t) p = (p.wakes_are, p.entries.2)
  exact_polled (Some t) (Ready (Ok k)) p = (p.wakes_are ∙ ap (λ es. front_wakers es) p.entries, p.entries)
  exact_polled (Some t) (Ready (Err e)) p = absurd p.full
  exact_polled (Some t) (Waits t2) p = (p.wakes_are, p.entries.1)

-- the end of a request that waits
module _ {W : Type 0} (t : ℕ) (s s2 : Fair W) (e : s2.entries ≡ left_by t s.entries) (m : s2.permits ≡ s.permits) where
  pub allowed_ended : Leaves (object_of s) (Some t) (object_of s2)
  allowed_ended = (m, ap (λ es. numbers es) e ∙ numbers-left_by t s.entries)

  pub fits_ended : (h : Held) → FitsFor s h → Differ (Some t) (ticket_of h) → FitsFor s2 h
  fits_ended (Releaser k) f d = tt
  fits_ended (Waiting amount None) f d = tt
  fits_ended (Waiting amount (Some u)) f d = (stays_left u s.entries s2.entries f t d e).number

  module _ (eq : W → W → Bool) (wakes : List W) (ws : wakes ≡ woken_if (is_front t (numbers s.entries)) (front_wakers s2.entries)) where
    ended_ticket : (amount : Amount) (u : ℕ) (v : W) → is_in u (numbers s.entries) ≡ true → (t ≡ u → ⊥) → OwesTicket eq s amount (Some u) v → IsAmong eq v wakes ⊎ OwesTicket eq s2 amount (Some u) v
    ended_ticket amount u v h d o =
        let stays = stays_left u s.entries s2.entries h t d e in
        elim (true_or_false (is_front t (numbers s.entries))) [
          | inl i ↦ told_or_owed eq s s2 amount u v stays o wakes (ws ∙ ap (λ b. woken_if b (front_wakers s2.entries)) i)
          | inr i ↦ inr (owes_same eq s s2 amount u v stays o (ap (λ es. is_front u (numbers es)) e ∙ ap (λ xs. is_front u xs) (numbers-left_by t s.entries) ∙ is_front-without t u (numbers s.entries) i) (omega arith))
        ]

    pub kept_ended : (h : Held) (v : W) → FitsFor s h → Differ (Some t) (ticket_of h) → OwesFor eq s h v → IsAmong eq v wakes ⊎ OwesFor eq s2 h v
    kept_ended (Releaser k) v f d o = absurd o
    kept_ended (Waiting amount None) v f d o = absurd o
    kept_ended (Waiting amount (Some u)) v f d o = ended_ticket amount u v f d o
