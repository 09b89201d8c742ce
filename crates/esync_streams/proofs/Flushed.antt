-- A poll of an adapter says what that of its sink said: one that went well leaves no message stored.
use Rattle.std.proofs.Common.{◌≡◌, refl, sym, ap, ◌∙◌, subst}
use Rattle.std.specs.Prelude.{Option, Some, None, Result, Ok, Err, OnOk}
use Rattle.esync_base.specs.declared.waitqueue.Poll.{Poll}
use Rattle.esync_base.specs.declared.waitqueue.Poll.TheVariants.{Pending, Ready}
use Rattle.esync_pubsub.specs.PubSub.{Flushes}
use Rattle.esync_log.specs.declared.log.Exhausted.{Exhausted as NoNumber}
use Rattle.esync_streams.specs.Told.{told, as_poll}
use Rattle.futures.specs.Poll.{IfReady, OnPending}
use Rattle.futures.specs.Sent.{UnlessFailed}
use Rattle.futures.specs.declared.task.Poll.{Poll as TaskPoll}
use Rattle.futures.specs.declared.task.Poll.TheVariants.{Pending as StillPending, Ready as NowReady}

as_told : {A : Type 0} (answer : Poll A) → as_poll (told answer) ≡ answer
as_told (Ready a) = refl
as_told Pending = refl

module _ {T : Type 0} (stored : Option T) where
  pub flushes_as : (answer : Poll (Result (Unit {0}) (NoNumber T))) (rest : Option T) (tells : TaskPoll (Result (Unit {0}) (NoNumber T))) → tells ≡ told answer → Flushes stored answer rest → Flushes stored (as_poll tells) rest
  flushes_as answer rest tells e h = subst (λ x. Flushes stored x rest) (sym (ap as_poll e ∙ as_told answer)) h

pub flushed : {T : Type 0} (stored : Option T) (tells : TaskPoll (Result (Unit {0}) (NoNumber T))) (rest : Option T) → Flushes stored (as_poll tells) rest → IfReady tells (λ r. OnOk r (rest ≡ None))
flushed None (NowReady (Ok done)) rest h = h
flushed None (NowReady (Err back)) rest h = absurd h
flushed None StillPending rest h = tt
flushed (Some message) (NowReady (Ok done)) rest h = h.0
flushed (Some message) (NowReady (Err back)) rest h = tt
flushed (Some message) StillPending rest h = tt

-- what holds whatever the answer is
module _ {A E : Type 0} (P : Type 0) (p : P) where
  pub on_ok : (r : Result A E) → OnOk r P
  on_ok (Ok a) = p
  on_ok (Err e) = tt

  pub on_ready : (answer : TaskPoll (Result A E)) → IfReady answer (λ r. OnOk r P)
  on_ready (NowReady r) = on_ok r
  on_ready StillPending = tt

  pub on_pending : (answer : TaskPoll (Result A E)) → OnPending answer P
  on_pending (NowReady r) = tt
  on_pending StillPending = p

  pub unless_failed : (answer : TaskPoll (Result A E)) → UnlessFailed answer P
  unless_failed (NowReady r) = on_ok r
  unless_failed StillPending = p
