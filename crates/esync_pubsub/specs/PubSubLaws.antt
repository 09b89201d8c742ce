-- The laws that the steps of a pub-sub channel keep.
use Rattle.std.proofs.Common.{◌≡◌, ℕ, ◌-◌, ◌<◌, ◌≤◌, Bool, true, false, Some, None, refl, sym, ap, subst, arith, ◌∙◌}
use Rattle.std.specs.Prelude.{Ok, Err}
use Rattle.std.proofs.lemmas.Bool.Decides.{nat_tests}
use Rattle.esync_base.specs.declared.waitqueue.Poll.TheVariants.{Ready}
use Rattle.esync_machine.specs.Names.{Where}
use Rattle.esync_machine.specs.Rules.{IsIdle, IdleIsPending}
use Rattle.esync_machine.specs.declared.primitive.Answer.{Answer}
use Rattle.esync_machine.specs.declared.primitive.Answer.TheVariants.{Pending, NoMemory, Gives}
use Rattle.esync_log.specs.Log.{Log, oldest, position, lags, caught_if, gap, Publishes, Reads}
use Rattle.esync_pubsub.specs.PubSub.{Lists, tried}
use Rattle.esync_pubsub.specs.PubSubRules.{Topic, pubsub_rules, place_at, names_it, WithLog, PollsLog, PollsMessage, PollsPure, PollsStream, PollsPublish, OwesFor, rest_of}
use Rattle.esync_log.specs.declared.log.TryPublishError.TheVariants.{Full, Exhausted}
use Rattle.esync_pubsub.specs.declared.pubsub.machine.PubSubAsk.{PubSubAsk}
use Rattle.esync_pubsub.specs.declared.pubsub.machine.PubSubAsk.TheVariants.{Publish, Message, MessagePure, Stream}
use Rattle.esync_pubsub.specs.declared.pubsub.machine.PubSubHeard.{PubSubHeard}
use Rattle.esync_pubsub.specs.declared.pubsub.machine.PubSubHeard.TheVariants.{Published, Read, ReadPure, Streamed}

-- a subscriber that has read all messages doesn't lag
pub no_lag : {T : Type 0} (place : ℕ) (log : Log T) → position place log ≡ log.next → lags place log ≡ false
no_lag place log e = grind (arith, nat_tests)

module _ {T : Type 0} (C : T → T → Type 0) (I : T → Type 0) (cap : ℕ) where
  -- a poll of a request that is owed its waker may be Pending and keep the log
  idle_log : {W : Type 0} (eq : W → W → Bool) (o : Topic T) (l : Lists W) (ask : PubSubAsk T) (w : W) → OwesFor eq cap o l ask w → PollsLog C I cap o ask Pending o.log
  idle_log eq o l (Publish p message) w h = (h.0, h.1, refl, refl)
  idle_log eq o l (Message s) w h = (h.0, refl)
  idle_log eq o l (MessagePure s) w h =
      let place = place_at s o in
      let e : lags place o.log ≡ false = no_lag place o.log h.0 in
      rw (e, caught_if) (h.0, refl)
  idle_log eq o l (Stream s) w h =
      let place = place_at s o in
      let e : lags place o.log ≡ false = no_lag place o.log h.0 in
      rw (e, gap) (h.0, refl)

  pub pubsub_idle : {W : Type 0} (pubs : ℕ) (eq : W → W → Bool) (o : Topic T) (l : Lists W) (ask : PubSubAsk T) (w : W) → names_it ask o ≡ true → OwesFor eq cap o l ask w → IsIdle (pubsub_rules C I cap pubs) o ask
  pubsub_idle pubs eq o l ask w f h =
      (subst (λ b. Where {A = PubSubHeard T} b o (PollsLog C I cap o ask Pending o.log × WithLog o o) Pending o) (sym f) (idle_log eq o l ask w h, refl), refl)

  -- the answer is Pending, and the log stays
  abbrev pub Idles : Log T → Answer (PubSubHeard T) → Log T → Type 0
  Idles log a log2 = (a ≡ Pending) × (log2 ≡ log)

  full_waits : (message : T) (log log2 : Log T) (r : _) → Publishes cap message log (Err (Full message)) log → Publishes cap message log r log2 → r ≡ Err (Full message) → log2 ≡ log
  full_waits message log log2 (Ok done) h j e = absurd cc
  full_waits message log log2 (Err (Full back)) h j e = j.3
  full_waits message log log2 (Err (Exhausted back)) h j e = absurd cc

  not_published : (message : T) (log log2 : Log T) (r : _) → Publishes cap message log (Err (Full message)) log → Publishes cap message log (tried message (Ready r)) log2 → ⊥
  not_published message log log2 (Ok done) h j = omega (arith, h.1, j.0 h.0)
  not_published message log log2 (Err refused) h j = omega (arith, h.1, j.1)

  pending_publish : (message : T) (log log2 : Log T) (a : Answer (PubSubHeard T)) → PollsPublish cap message log Pending log → PollsPublish cap message log a log2 → Idles log a log2
  pending_publish message log log2 Pending h j = (refl, full_waits message log log2 (Err (Full message)) h j refl)
  pending_publish message log log2 (Gives (Published r)) h j = absurd (not_published message log log2 r h j)
  pending_publish message log log2 a h j = absurd j

  pending_message : (place : ℕ) (log log2 : Log T) (a : Answer (PubSubHeard T)) → PollsMessage C I place log Pending log → PollsMessage C I place log a log2 → Idles log a log2
  pending_message place log log2 Pending h j = (refl, j.1)
  pending_message place log log2 (Gives (Read r)) h j = absurd (omega (arith, h.0, j.0))
  pending_message place log log2 NoMemory h j = absurd (omega (arith, h.0, j.0))
  pending_message place log log2 a h j = absurd j

  same_next : (b : Bool) (place : ℕ) (log : Log T) → (caught_if b place log).next ≡ log.next
  same_next true place log = refl
  same_next false place log = refl

  pending_pure : (place : ℕ) (log log2 : Log T) (a : Answer (PubSubHeard T)) → PollsPure C I place log Pending log → PollsPure C I place log a log2 → Idles log a log2
  pending_pure place log log2 Pending h j = (refl, j.1 ∙ sym h.1)
  pending_pure place log log2 (Gives (ReadPure given)) h j = absurd (omega (arith, h.0, j.0, same_next (lags place log) place log))
  pending_pure place log log2 NoMemory h j = absurd (omega (arith, h.0, j.0, same_next (lags place log) place log))
  pending_pure place log log2 a h j = absurd j

  -- a stream that hears nothing new has read all messages, or is where its lag leaves it
  waits_log : (b : Bool) (k place : ℕ) (log log2 : Log T) → Reads C place log (gap b k) log → Reads C place log (gap b k) log2 → log2 ≡ log
  waits_log true k place log log2 h j = j.2 ∙ sym h.2
  waits_log false k place log log2 h j = j.1

  -- a subscriber that doesn't lag and has a message to read hears something new
  nothing_read : (b : Bool) (k place : ℕ) (log : Log T) → Reads C place log (gap b k) log → position place log < log.next → oldest log ≤ position place log → ⊥
  nothing_read true k place log h below from = omega (arith, h.0)
  nothing_read false k place log h below from = omega (arith, h.0)

  pending_stream : (place : ℕ) (log log2 : Log T) (a : Answer (PubSubHeard T)) → PollsStream C I place log Pending log → PollsStream C I place log a log2 → Idles log a log2
  pending_stream place log log2 Pending h j = (refl, waits_log (lags place log) (oldest log - position place log) place log log2 h j)
  pending_stream place log log2 (Gives (Streamed None)) h j = absurd j.1
  pending_stream place log log2 (Gives (Streamed (Some v))) h j = absurd (nothing_read (lags place log) (oldest log - position place log) place log h j.0 j.1.from)
  pending_stream place log log2 NoMemory h j = absurd (nothing_read (lags place log) (oldest log - position place log) place log h j.0 j.1.from)
  pending_stream place log log2 a h j = absurd j

  pending_log : (o : Topic T) (ask : PubSubAsk T) (a : Answer (PubSubHeard T)) (log2 : Log T) → PollsLog C I cap o ask Pending o.log → PollsLog C I cap o ask a log2 → Idles o.log a log2
  pending_log o (Publish p message) a log2 h j = pending_publish message o.log log2 a h j
  pending_log o (Message s) a log2 h j = pending_message (place_at s o) o.log log2 a h j
  pending_log o (MessagePure s) a log2 h j = pending_pure (place_at s o) o.log log2 a h j
  pending_log o (Stream s) a log2 h j = pending_stream (place_at s o) o.log log2 a h j

  pending_named : (b : Bool) (o : Topic T) (ask : PubSubAsk T) (a : Answer (PubSubHeard T)) (o2 : Topic T) → Where {A = PubSubHeard T} b o (PollsLog C I cap o ask Pending o.log × WithLog o o) Pending o → Where b o (PollsLog C I cap o ask a o2.log × WithLog o o2) a o2 → (a ≡ Pending) × (o2 ≡ o)
  pending_named true o ask a o2 h j =
      let i = pending_log o ask a o2.log h.0 j.0 in
      (i.0, j.1 ∙ ap (λ log. record o { log = log }) i.1)
  pending_named false o ask a o2 h j = (let e = h.0 in absurd cc)

  pub pubsub_pending : (pubs : ℕ) → IdleIsPending (pubsub_rules C I cap pubs)
  pubsub_pending pubs o ask a o2 p h j =
      let i = pending_named (names_it ask o) o ask a o2 h.0 j.0 in
      (i.0, i.1, j.1 ∙ ap (λ x. rest_of ask x) i.0)
