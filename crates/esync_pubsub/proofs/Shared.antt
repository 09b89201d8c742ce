-- Steps of the shared form: an empty list has room for their wakers, a request that waits stays, and who is there takes the state's step.
use Rattle.std.proofs.Common.{◌≡◌, ℕ, ◌+◌, ◌<◌, ◌≤◌, Bool, true, false, not, List, [], ◌++◌, length, refl, sym, subst, ◌∙◌, ap, arith}
use Rattle.std.specs.Prelude.{max, Option, Some, None, Result, Ok, Err, IfSome, IfOk, OnErr, nat_eq}
use Rattle.std.proofs.lemmas.Bool.Decides.{nat_tests}
use Rattle.esync_base.specs.declared.waitqueue.Poll.{Poll}
use Rattle.esync_base.specs.declared.waitqueue.Poll.TheVariants.{Pending}
use Rattle.esync_log.specs.Log.{Log, has_subscribers, is_live, position, lags, caught, Publishes, Reads, ReadsOn, Streams, IsRefused}
use Rattle.esync_pubsub.specs.PubSub.{PubSub, Lists, frees, heard, tried, still, lists_after_publish, wakes_of_publish, lists_after_read, wakes_of_read, lists_after_stream, wakes_of_stream}
use Rattle.esync_pubsub.specs.Steps.{IfThere, answered, Reading, PollingPublish, ReadingNext, ReadingOn, Streaming}
use Rattle.esync_log.specs.declared.log.Exhausted.{Exhausted as NoNumber}
use Rattle.esync_log.specs.declared.log.WaitResult.{WaitResult}
use Rattle.esync_pubsub.proofs.Reading.{alone}

module _ {W : Type 0} (subs pubs k : ℕ) (wakes : List W) where
  pub room_subscribers : max (max subs pubs) 1 ≤ k → wakes ≡ [] → length wakes + subs ≤ k
  room_subscribers h e = (let l : length wakes ≡ 0 = ap length e in omega (arith, h, l))

  pub room_publishers : max (max subs pubs) 1 ≤ k → wakes ≡ [] → length wakes + pubs ≤ k
  room_publishers h e = (let l : length wakes ≡ 0 = ap length e in omega (arith, h, l))

  pub room_one : max (max subs pubs) 1 ≤ k → wakes ≡ [] → length wakes + 1 ≤ k
  room_one h e = (let l : length wakes ≡ 0 = ap length e in omega (arith, h, l))

pub still_there : {T : Type 0} (request : Option T) → IfSome request (λ message. request ≡ still {A = Result (Unit {0}) (NoNumber T)} message Pending)
still_there None = tt
still_there (Some message) = refl

-- who is there, and who isn't
there : (A B : Type 0) (b : Bool) → b ≡ true → A → IfThere b A B
there A B b e a = subst (λ x. IfThere x A B) (sym e) a

not_there : (A B : Type 0) (b : Bool) → b ≡ false → B → IfThere b A B
not_there A B b e a = subst (λ x. IfThere x A B) (sym e) a

-- some publisher is counted, or none
pub counted : (n : ℕ) → 0 < n → not (nat_eq n 0) ≡ true
counted n l = (let e : nat_eq n 0 ≡ false = grind (arith, nat_tests) in ap not e)

pub uncounted : (n : ℕ) → n ≡ 0 → not (nat_eq n 0) ≡ false
uncounted n e = ap (λ m. not (nat_eq m 0)) e

-- what a read of the state says, of the list of wakers that it was given
pub record IsRead {T W A E : Type 0} (Does : A → Log T → Type 0) (Refused : Type 0) (after : A → Bool → Lists W → Lists W) (handed : A → Bool → Lists W → List W) (s s2 : PubSub T W) (ws wakes : List W) (result : Result A E) : Type 0 where
  pub ok : IfOk result (λ answer. Does answer s2.log)
  pub rest : IfOk result (λ answer. s2 ≡ record s { log = s2.log; lists = after answer (frees s.log s2.log) s.lists })
  pub woken : IfOk result (λ answer. wakes ≡ ws ++ handed answer (frees s.log s2.log) s.lists)
  pub refused : OnErr result Refused
  pub unchanged : OnErr result (s2 ≡ s)
  pub unwoken : OnErr result (wakes ≡ ws)

module _ {T W A E : Type 0} (Refused : Type 0) (s s2 : PubSub T W) (ws wakes : List W) (empty : ws ≡ []) where
  reading : (Does : A → Log T → Type 0) (after : A → Bool → Lists W → Lists W) (handed : A → Bool → Lists W → List W) (result : Result A E) → IsRead Does Refused after handed s s2 ws wakes result → Reading Does Refused after handed s result s2 wakes
  reading Does after handed (Ok answer) r = (r.ok, r.rest, alone ws wakes (handed answer (frees s.log s2.log) s.lists) r.woken empty)
  reading Does after handed (Err e) r = (r.refused, (r.unchanged, r.unwoken ∙ empty))

  -- a poll, by what it read
  polling : (Does : Option A → Log T → Type 0) (after : Option A → Bool → Lists W → Lists W) (handed : Option A → Bool → Lists W → List W) (result : Result (Poll A) E) → IsRead (λ answer. Does (heard answer)) Refused (λ answer. after (heard answer)) (λ answer. handed (heard answer)) s s2 ws wakes result → Reading Does Refused after handed s (answered result) s2 wakes
  polling Does after handed (Ok answer) r = (r.ok, r.rest, alone ws wakes (handed (heard answer) (frees s.log s2.log) s.lists) r.woken empty)
  polling Does after handed (Err e) r = (r.refused, (r.unchanged, r.unwoken ∙ empty))

-- the reads of the subscriber at the place
module _ {T W E : Type 0} (eq : W → W → Bool) (IsClone : T → T → Type 0) (IsInfallible : T → Type 0) (n place : ℕ) (s s2 : PubSub T W) (ws wakes : List W) (empty : ws ≡ []) (live : is_live place s.log ≡ true) where
  pub reads_next : (w : Option W) (result : Result (Option (WaitResult T)) E) → IsRead (Reads IsClone place s.log) (IsRefused IsInfallible place (position place s.log) s.log) (lists_after_read eq n w) (wakes_of_read eq n w) s s2 ws wakes result → ReadingNext eq IsClone IsInfallible n place w s result s2 wakes
  reads_next w result r = there _ _ (is_live place s.log) live (reading (IsRefused IsInfallible place (position place s.log) s.log) s s2 ws wakes empty (Reads IsClone place s.log) (lists_after_read eq n w) (wakes_of_read eq n w) result r)

  pub polls_next : (w : W) (result : Result (Poll (WaitResult T)) E) → IsRead (λ answer. Reads IsClone place s.log (heard answer)) (IsRefused IsInfallible place (position place s.log) s.log) (λ answer. lists_after_read eq n (Some w) (heard answer)) (λ answer. wakes_of_read eq n (Some w) (heard answer)) s s2 ws wakes result → ReadingNext eq IsClone IsInfallible n place (Some w) s (answered result) s2 wakes
  polls_next w result r = there _ _ (is_live place s.log) live (polling (IsRefused IsInfallible place (position place s.log) s.log) s s2 ws wakes empty (Reads IsClone place s.log) (lists_after_read eq n (Some w)) (wakes_of_read eq n (Some w)) result r)

  pub reads_on : (w : Option W) (result : Result (Option T) E) → IsRead (ReadsOn IsClone place s.log) (IsRefused IsInfallible place (position place (caught place s.log)) s.log) (lists_after_read eq n w) (wakes_of_read eq n w) s s2 ws wakes result → ReadingOn eq IsClone IsInfallible n place w s result s2 wakes
  reads_on w result r = there _ _ (is_live place s.log) live (reading (IsRefused IsInfallible place (position place (caught place s.log)) s.log) s s2 ws wakes empty (ReadsOn IsClone place s.log) (lists_after_read eq n w) (wakes_of_read eq n w) result r)

  pub polls_on : (w : W) (result : Result (Poll T) E) → IsRead (λ answer. ReadsOn IsClone place s.log (heard answer)) (IsRefused IsInfallible place (position place (caught place s.log)) s.log) (λ answer. lists_after_read eq n (Some w) (heard answer)) (λ answer. wakes_of_read eq n (Some w) (heard answer)) s s2 ws wakes result → ReadingOn eq IsClone IsInfallible n place (Some w) s (answered result) s2 wakes
  polls_on w result r = there _ _ (is_live place s.log) live (polling (IsRefused IsInfallible place (position place (caught place s.log)) s.log) s s2 ws wakes empty (ReadsOn IsClone place s.log) (lists_after_read eq n (Some w)) (wakes_of_read eq n (Some w)) result r)

  pub streams : (w : W) (result : Result (Poll (Option T)) E) → IsRead (Streams IsClone place s.log) (IsRefused IsInfallible place (position place s.log) s.log) (lists_after_stream eq n w (lags place s.log)) (wakes_of_stream eq n w (lags place s.log)) s s2 ws wakes result → Streaming eq IsClone IsInfallible n place w s result s2 wakes
  streams w result r = there _ _ (is_live place s.log) live (reading (IsRefused IsInfallible place (position place s.log) s.log) s s2 ws wakes empty (Streams IsClone place s.log) (lists_after_stream eq n w (lags place s.log)) (wakes_of_stream eq n w (lags place s.log)) result r)

-- a poll of a publish, by a publisher that is counted or where none is
module _ {T W : Type 0} (eq : W → W → Bool) (cap n : ℕ) (w : W) (s s2 : PubSub T W) (ws wakes : List W) (empty : ws ≡ []) (answer : Poll (Result (Unit {0}) (NoNumber T))) where
  pub polling_publish : (request : Option T) → not (nat_eq s.publishers 0) ≡ true
      → IfSome request (λ message. Publishes cap message s.log (tried message answer) s2.log)
      → IfSome request (λ message. s2 ≡ record s { log = s2.log; lists = lists_after_publish eq n (Some w) (has_subscribers s.log) (tried message answer) s.lists })
      → IfSome request (λ message. wakes ≡ ws ++ wakes_of_publish eq n (Some w) (has_subscribers s.log) (tried message answer) s.lists)
      → IfSome request (λ message. PollingPublish eq cap n message w s answer s2 wakes)
  polling_publish None e log rest woken = tt
  polling_publish (Some message) e log rest woken = there _ _ (not (nat_eq s.publishers 0)) e (log, rest, alone ws wakes (wakes_of_publish eq n (Some w) (has_subscribers s.log) (tried message answer) s.lists) woken empty)

  pub waiting_publish : (request : Option T) → not (nat_eq s.publishers 0) ≡ false → answer ≡ Pending → s2 ≡ s → wakes ≡ [] → IfSome request (λ message. PollingPublish eq cap n message w s answer s2 wakes)
  waiting_publish None e pending same woken = tt
  waiting_publish (Some message) e pending same woken = not_there _ _ (not (nat_eq s.publishers 0)) e (pending, (same, woken))
