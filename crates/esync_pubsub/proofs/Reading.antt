-- What a read tells of where its subscriber stood, and what it hands out.
use Rattle.std.proofs.Common.{◌≡◌, ℕ, zero, suc, ◌-◌, ◌<◌, ◌≤◌, Bool, true, false, List, [], ◌∷◌, ◌++◌, length, Option, Some, None, refl, ap, arith, ◌∙◌}
use Rattle.std.specs.Prelude.{nat_lt, slice_get}
use Rattle.std.proofs.lemmas.Bool.Decides.{nat_tests}
use Rattle.esync_base.specs.declared.waitqueue.Poll.{Poll}
use Rattle.esync_base.specs.declared.waitqueue.Poll.TheVariants.{Pending as NotYet, Ready}
use Rattle.esync_machine.specs.Wakings.{IsHanded}
use Rattle.esync_log.specs.Log.{Log, oldest, position, lags, caught, caught_if, found, Gives, Reads, ReadsOn, Streams, IsRefused}
use Rattle.esync_pubsub.specs.PubSub.{Lists, frees, lists_after_read, wakes_of_read, lists_after_stream, wakes_of_stream}
use Rattle.esync_pubsub.specs.PubSubRules.{IsBelow, read_hands, pure_hands, stream_hands}
use Rattle.esync_pubsub.proofs.Kept.{read_is}
use Rattle.esync_log.specs.declared.log.WaitResult.{WaitResult}
use Rattle.esync_log.specs.declared.log.WaitResult.TheVariants.{Lagged, Message as Given}

got_below : {T : Type 0} (xs : List T) (k : ℕ) (x : T) → slice_get xs k ≡ Some x → k < length xs
got_below [] k x e = absurd cc
got_below (y ∷ xs) zero x e = omega arith
got_below (y ∷ xs) (suc k) x e = omega (arith, got_below xs k x e)

module _ {T : Type 0} where
  given_below : (C : T → T → Type 0) (b : Bool) (k : ℕ) (held : List T) (given : T) → Gives C b k held given → k < length held
  given_below C true k held given h = got_below held k given h
  given_below C false k held given h = got_below held k h.message h.here

  pub read_below : (C : T → T → Type 0) (place : ℕ) (log log2 : Log T) (answer : Option (WaitResult T)) → length log.held ≤ log.next → Reads C place log answer log2 → IsBelow answer (position place log) log
  read_below C place log log2 None n h = tt
  read_below C place log log2 (Some (Lagged k)) n h = omega (arith, h.0)
  read_below C place log log2 (Some (Given v)) n h = (let k = given_below C _ (position place log - oldest log) log.held v h.gives in omega (arith, k, h.from, n))

  -- a lag that was read frees nothing
  pub lag_frees : (place : ℕ) (log : Log T) (C : T → T → Type 0) (log2 : Log T) (k : ℕ) → Reads C place log (Some (Lagged k)) log2 → frees log log2 ≡ false
  lag_frees place log C log2 k r = rw r.2 (let e : nat_lt (length log.held) (length log.held) ≡ false = grind (arith, nat_tests) in e)

  pub refused_below : (I : T → Type 0) (place n : ℕ) (log : Log T) → length log.held ≤ log.next → IsRefused I place n log → n < log.next
  refused_below I place n log m h = (let k = got_below log.held (n - oldest log) h.fails.message h.fails.here in omega (arith, k, h.from, m))

  caught_numbered : (b : Bool) (place : ℕ) (log : Log T) → length log.held ≤ log.next → length (caught_if b place log).held ≤ (caught_if b place log).next
  caught_numbered true place log n = n
  caught_numbered false place log n = n

  caught_next : (b : Bool) (place : ℕ) (log : Log T) → (caught_if b place log).next ≡ log.next
  caught_next true place log = refl
  caught_next false place log = refl

  found_below : (answer : Option T) (p : ℕ) (log log2 : Log T) → log2.next ≡ log.next → IsBelow (found answer) p log2 → IsBelow answer p log
  found_below None p log log2 e b = tt
  found_below (Some a) p log log2 e b = omega (arith, b, e)

  pub pure_below : (C : T → T → Type 0) (place : ℕ) (log log2 : Log T) (answer : Option T) → length log.held ≤ log.next → ReadsOn C place log answer log2 → IsBelow answer (position place (caught place log)) log
  pure_below C place log log2 answer n h =
      let b = lags place log in
      found_below answer (position place (caught place log)) log (caught place log) (caught_next b place log) (read_below C place (caught place log) log2 (found answer) (caught_numbered b place log n) h)

  pub stream_below : (C : T → T → Type 0) (place : ℕ) (log log2 : Log T) (answer : Option T) → length log.held ≤ log.next → Streams C place log (Ready answer) log2 → IsBelow answer (position place log) log
  stream_below C place log log2 (Some v) n h = read_below C place log log2 (Some (Given v)) n h
  stream_below C place log log2 None n h = absurd h

module _ {T W : Type 0} (eq : W → W → Bool) (n pubs : ℕ) (place : ℕ) (log log2 : Log T) (l l2 : Lists W) (wakes : List W) (C : T → T → Type 0) where
  pub read_handed : (w : Option W) (answer : Option (WaitResult T)) → Reads C place log answer log2 → wakes ≡ wakes_of_read eq n w answer (frees log log2) l → l2 ≡ lists_after_read eq n w answer (frees log log2) l → IsHanded (read_hands eq n pubs place log w answer l) wakes l2
  read_handed w answer h e f = (
    e ∙ ap (λ x. wakes_of_read eq n w answer (frees log x) l) (read_is C place log answer log2 h),
    f ∙ ap (λ x. lists_after_read eq n w answer (frees log x) l) (read_is C place log answer log2 h),
  )

  pub pure_handed : (w : Option W) (answer : Option T) → ReadsOn C place log answer log2 → wakes ≡ wakes_of_read eq n w answer (frees log log2) l → l2 ≡ lists_after_read eq n w answer (frees log log2) l → IsHanded (pure_hands eq n pubs place log w answer l) wakes l2
  pure_handed w answer h e f = (
    e ∙ ap (λ x. wakes_of_read eq n w answer (frees log x) l) (read_is C place (caught place log) (found answer) log2 h),
    f ∙ ap (λ x. lists_after_read eq n w answer (frees log x) l) (read_is C place (caught place log) (found answer) log2 h),
  )

  waits_same : (w : W) (b f g : Bool) → lists_after_stream eq {A = Option T} n w b NotYet f l ≡ lists_after_stream eq {A = Option T} n w b NotYet g l
  waits_same w true f g = refl
  waits_same w false f g = refl

  wakes_same : (w : W) (b f g : Bool) → wakes_of_stream eq {A = Option T} n w b NotYet f l ≡ wakes_of_stream eq {A = Option T} n w b NotYet g l
  wakes_same w true f g = refl
  wakes_same w false f g = refl

  pub stream_handed : (w : W) (answer : Poll (Option T)) → Streams C place log answer log2 → wakes ≡ wakes_of_stream eq n w (lags place log) answer (frees log log2) l → l2 ≡ lists_after_stream eq n w (lags place log) answer (frees log log2) l → IsHanded (stream_hands eq n pubs place log w answer l) wakes l2
  stream_handed w (Ready (Some v)) h e f = read_handed (Some w) (Some (Given v)) h e f
  stream_handed w (Ready None) h e f = absurd h
  stream_handed w NotYet h e f = (e ∙ wakes_same w (lags place log) (frees log log2) _, f ∙ waits_same w (lags place log) (frees log log2) _)

-- what is handed out alone
pub alone : {W : Type 0} (old new xs : List W) → new ≡ old ++ xs → old ≡ [] → new ≡ xs
alone old new xs e h = e ∙ ap (λ l. l ++ xs) h
