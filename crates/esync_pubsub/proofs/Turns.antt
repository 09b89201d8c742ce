-- What a poll of a request and a call of a pub-sub channel leave, from what its log allows and what they hand out.
use Rattle.std.proofs.Common.{◌≡◌, ℕ, ◌+◌, ◌-◌, Bool, true, false, List, [], Option, Some, None, refl, sym, ap, subst, arith, ◌∙◌, ◌⊎◌, inl, inr}
use Rattle.std.specs.Prelude.{is_some, IfSome}
use Rattle.std.proofs.lemmas.List.{get_or-set_same}
use Rattle.esync_base.specs.Registration.{IsAmong, registered}
use Rattle.esync_base.specs.RegistrationLaws.{has_registered, not_displaced}
use Rattle.esync_base.specs.declared.waitqueue.Poll.TheVariants.{Pending as NotYet, Ready}
use Rattle.esync_machine.specs.declared.primitive.Answer.{Answer}
use Rattle.esync_machine.specs.declared.primitive.Answer.TheVariants.{Pending, NoMemory, Gives}
use Rattle.esync_machine.specs.Numbers.{at_number}
use Rattle.esync_machine.specs.Names.{Where}
use Rattle.esync_machine.specs.Rules.{IsApart, IsOwed}
use Rattle.esync_machine.specs.Wakings.{Handed, IsHanded, unless_refused}
use Rattle.esync_log.specs.Log.{Log, is_live, position, oldest, moved, lags, gap, settled, Reads, number_of}
use Rattle.esync_pubsub.specs.PubSub.{Lists, tried, frees, lists_after_stream, wakes_of_stream}
use Rattle.esync_pubsub.specs.PubSubRules.{Topic, IsBelow, WithLog, PollsLog, Polls, names_it, place_at, is_subscriber, rest_of, poll_hands, OwesNews, OwesRoom, OwesFor, PollsMessage, PollsPure, PollsStream, read_hands, pure_hands, stream_hands, read_of, pure_of, stream_of}
use Rattle.esync_pubsub.proofs.Kept.{Keeps, keeps_same, keeps_publish, keeps_read, keeps_pure, keeps_stream}
use Rattle.esync_log.specs.LogLaws.{place_below, some_number}
use Rattle.esync_pubsub.specs.declared.pubsub.machine.PubSubAsk.{PubSubAsk}
use Rattle.esync_pubsub.specs.declared.pubsub.machine.PubSubAsk.TheVariants.{Publish, Message, MessagePure, Stream}
use Rattle.esync_pubsub.specs.declared.pubsub.machine.PubSubHeard.{PubSubHeard}
use Rattle.esync_pubsub.specs.declared.pubsub.machine.PubSubHeard.TheVariants.{Published, Read, ReadPure, Streamed}

-- nothing has to be told of any two requests
pub all_apart : {H : Type 0} (p : Option H) (other : H) → IsApart (λ h k. Unit {0}) p other
all_apart None other = tt
all_apart (Some h) other = tt

-- each subscriber with a number is live
abbrev pub AreHere : {T : Type 0} → Topic T → Type 0
AreHere o = (s : ℕ) → is_subscriber s o ≡ true → is_live (place_at s o) o.log ≡ true

pub here_by : {T : Type 0} (o : Topic T) → ((s place : ℕ) → at_number o.subscribers s ≡ Some place → is_live place o.log ≡ true) → AreHere o
here_by o h s e = (let n : at_number o.subscribers s ≡ Some (place_at s o) = some_number (at_number o.subscribers s) e in h s (place_at s o) n)

-- where the log alone changes, the numbers name whom they named
pub log_names : {T : Type 0} (o o2 : Topic T) → WithLog o o2 → (ask : PubSubAsk T) → names_it ask o ≡ true → names_it ask o2 ≡ true
log_names o o2 e (Publish p message) g = ap (λ x. names_it (Publish p message) x) e ∙ g
log_names o o2 e (Message s) g = ap (λ x. is_subscriber s x) e ∙ g
log_names o o2 e (MessagePure s) g = ap (λ x. is_subscriber s x) e ∙ g
log_names o o2 e (Stream s) g = ap (λ x. is_subscriber s x) e ∙ g

module _ {T : Type 0} (C : T → T → Type 0) (I : T → Type 0) (cap : ℕ) where
  -- of a number in use
  pub polls_log : (o o2 : Topic T) (ask : PubSubAsk T) (a : Answer (PubSubHeard T)) (p : Option (PubSubAsk T)) → names_it ask o ≡ true → Polls C I cap o ask a o2 p → PollsLog C I cap o ask a o2.log × WithLog o o2
  polls_log o o2 ask a p f h = subst (λ b. Where b o (PollsLog C I cap o ask a o2.log × WithLog o o2) a o2) f h.0

  pub polls_by : (o o2 : Topic T) (ask : PubSubAsk T) (a : Answer (PubSubHeard T)) (p : Option (PubSubAsk T)) → names_it ask o ≡ true → PollsLog C I cap o ask a o2.log → WithLog o o2 → p ≡ rest_of ask a → Polls C I cap o ask a o2 p
  polls_by o o2 ask a p f h e r = (subst (λ b. Where b o (PollsLog C I cap o ask a o2.log × WithLog o o2) a o2) (sym f) (h, e), r)

  module _ {W : Type 0} (eq : W → W → Bool) (subs pubs : ℕ) (o : Topic T) (l : Lists W) (w : W) where
    -- what a poll with that answer hands out
    abbrev hands : PubSubAsk T → Answer (PubSubHeard T) → Handed (Lists W) W
    hands ask a = unless_refused a l (poll_hands eq subs pubs o l ask w a)

    keeps_ask : AreHere o → (ask : PubSubAsk T) (a : Answer (PubSubHeard T)) (log2 : Log T) → names_it ask o ≡ true → PollsLog C I cap o ask a log2 → Keeps eq cap o.log log2 l (hands ask a).after (hands ask a).wakes
    keeps_ask here (Publish p message) Pending log2 f h = keeps_publish eq cap l message pubs (Some w) o.log log2 (tried message NotYet) h
    keeps_ask here (Publish p message) (Gives (Published r)) log2 f h = keeps_publish eq cap l message pubs (Some w) o.log log2 (tried message (Ready r)) h
    keeps_ask here (Publish p message) a log2 f h = absurd h
    keeps_ask here (Message s) Pending log2 f h = keeps_read eq cap l C subs (Some w) (place_at s o) o.log (here s f) None log2 tt h
    keeps_ask here (Message s) (Gives (Read answer)) log2 f h = keeps_read eq cap l C subs (Some w) (place_at s o) o.log (here s f) (Some answer) log2 h.0 h.1
    keeps_ask here (Message s) NoMemory log2 f h = keeps_same eq cap l o.log log2 [] h.2
    keeps_ask here (Message s) a log2 f h = absurd h
    keeps_ask here (MessagePure s) Pending log2 f h = keeps_pure eq cap l C subs (place_at s o) o.log (here s f) (Some w) None log2 tt h
    keeps_ask here (MessagePure s) (Gives (ReadPure answer)) log2 f h = keeps_pure eq cap l C subs (place_at s o) o.log (here s f) (Some w) (Some answer) log2 h.0 h.1
    keeps_ask here (MessagePure s) NoMemory log2 f h = keeps_same eq cap l o.log log2 [] h.2
    keeps_ask here (MessagePure s) a log2 f h = absurd h
    keeps_ask here (Stream s) Pending log2 f h = keeps_stream eq cap l C subs (place_at s o) o.log (here s f) w NotYet log2 (λ a e. absurd cc) h
    keeps_ask here (Stream s) (Gives (Streamed None)) log2 f h = absurd h.1
    keeps_ask here (Stream s) (Gives (Streamed (Some v))) log2 f h = keeps_stream eq cap l C subs (place_at s o) o.log (here s f) w (Ready (Some v)) log2 (λ a e. (let g : a ≡ Some v = cc in subst (λ x. IsBelow x (position (place_at s o) o.log) o.log) (sym g) h.0)) h.1
    keeps_ask here (Stream s) NoMemory log2 f h = keeps_same eq cap l o.log log2 [] h.2
    keeps_ask here (Stream s) a log2 f h = absurd h

    -- a request that waits is registered, or has its waker back
    module _ (same : (x : W) → eq x x ≡ true) where
      waits_news : (q : ℕ) (log : Log T) → position q log ≡ log.next → OwesNews eq q log (record l { subscribers = registered eq subs l.subscribers w }) w
      waits_news q log e = (e, has_registered eq same subs l.subscribers w)

      waits_stream : (b : Bool) (k place : ℕ) (log log2 : Log T) (freed : Bool) → Reads C place log (gap b k) log2 → IsAmong eq w (wakes_of_stream eq {A = Option T} subs w b NotYet freed l) ⊎ OwesNews eq place log2 (lists_after_stream eq {A = Option T} subs w b NotYet freed l) w
      waits_stream true k place log log2 freed h = inl (rw (same w) refl)
      waits_stream false k place log log2 freed h = inr (waits_news place log2 (subst (λ x. position place x ≡ x.next) (sym h.1) h.0))

      owed_ask : (ask : PubSubAsk T) (log2 : Log T) → PollsLog C I cap o ask Pending log2 → IsAmong eq w (hands ask Pending).wakes ⊎ OwesFor eq cap (record o { log = log2 }) (hands ask Pending).after ask w
      owed_ask (Publish p message) log2 h = inr (subst (λ x. OwesRoom eq cap x (record l { publishers = registered eq pubs l.publishers w }) w) (sym h.3) (h.0, h.1, has_registered eq same pubs l.publishers w))
      owed_ask (Message s) log2 h = inr (waits_news (place_at s o) log2 (subst (λ x. position (place_at s o) x ≡ x.next) (sym h.1) h.0))
      owed_ask (MessagePure s) log2 h = inr (waits_news (place_at s o) log2 (subst (λ x. position (place_at s o) x ≡ x.next) (sym h.1) h.0))
      owed_ask (Stream s) log2 h = waits_stream (lags (place_at s o) o.log) (oldest o.log - position (place_at s o) o.log) (place_at s o) o.log log2 (frees o.log (settled (moved (place_at s o) (position (place_at s o) o.log + 1) o.log))) h

    -- and no poll that changes nothing hands its waker back
    lag_moves : (place : ℕ) (log : Log T) → is_live place log ≡ true → position place (moved place (oldest log) log) ≡ oldest log
    lag_moves place log h = ap number_of (get_or-set_same log.positions place (Some (oldest log)) None (place_below log.positions place h))

    quiet_stream : (b : Bool) (k place : ℕ) (log : Log T) (freed : Bool) → is_live place log ≡ true → Reads C place log (gap b k) log → IsAmong eq w (wakes_of_stream eq {A = Option T} subs w b NotYet freed l) → ⊥
    quiet_stream true k place log freed here h i = (let e : position place log ≡ oldest log = ap (λ x. position place x) h.2 ∙ lag_moves place log here in omega (arith, e, h.0))
    quiet_stream false k place log freed here h i = not_displaced eq subs l.subscribers w i

    quiet_ask : AreHere o → (ask : PubSubAsk T) → names_it ask o ≡ true → PollsLog C I cap o ask Pending o.log → IsAmong eq w (hands ask Pending).wakes → ⊥
    quiet_ask here (Publish p message) f h i = not_displaced eq pubs l.publishers w i
    quiet_ask here (Message s) f h i = not_displaced eq subs l.subscribers w i
    quiet_ask here (MessagePure s) f h i = not_displaced eq subs l.subscribers w i
    quiet_ask here (Stream s) f h i = quiet_stream (lags (place_at s o) o.log) (oldest o.log - position (place_at s o) o.log) (place_at s o) o.log (frees o.log (settled (moved (place_at s o) (position (place_at s o) o.log + 1) o.log))) (here s f) h i

    -- what is owed to another request, where the log alone changes
    keeps_other : (o2 : Topic T) (l2 : Lists W) (wakes : List W) → Keeps eq cap o.log o2.log l l2 wakes → WithLog o o2 → (other : PubSubAsk T) (v : W) → OwesFor eq cap o l other v → IsAmong eq v wakes ⊎ OwesFor eq cap o2 l2 other v
    keeps_other o2 l2 wakes k e (Publish p message) v h = k.room v h
    keeps_other o2 l2 wakes k e (Message s) v h = subst (λ n. IsAmong eq v wakes ⊎ OwesNews eq n o2.log l2 v) (ap (λ x. place_at s x) (sym e)) (k.news (place_at s o) v h)
    keeps_other o2 l2 wakes k e (MessagePure s) v h = subst (λ n. IsAmong eq v wakes ⊎ OwesNews eq n o2.log l2 v) (ap (λ x. place_at s x) (sym e)) (k.news (place_at s o) v h)
    keeps_other o2 l2 wakes k e (Stream s) v h = subst (λ n. IsAmong eq v wakes ⊎ OwesNews eq n o2.log l2 v) (ap (λ x. place_at s x) (sym e)) (k.news (place_at s o) v h)

    -- the same of what is handed out
    to_handed : (o2 : Topic T) (ask : PubSubAsk T) (a : Answer (PubSubHeard T)) (wakes : List W) (l2 : Lists W) → IsHanded (hands ask a) wakes l2 → Keeps eq cap o.log o2.log l (hands ask a).after (hands ask a).wakes → Keeps eq cap o.log o2.log l l2 wakes
    to_handed o2 ask a wakes l2 e k =
        subst (λ x. Keeps eq cap o.log o2.log l x wakes) (sym e.1) (subst (λ ws. Keeps eq cap o.log o2.log l (hands ask a).after ws) (sym e.0) k)

    module _ (o2 : Topic T) (ask : PubSubAsk T) (a : Answer (PubSubHeard T)) (p : Option (PubSubAsk T)) (wakes : List W) (l2 : Lists W) (here : AreHere o) (f : names_it ask o ≡ true) (h : Polls C I cap o ask a o2 p) (e : IsHanded (hands ask a) wakes l2) where
      pub polled_keeps : Keeps eq cap o.log o2.log l l2 wakes
      polled_keeps = to_handed o2 ask a wakes l2 e (keeps_ask here ask a o2.log f (polls_log o o2 ask a p f h).0)

      pub polled_kept : (other : PubSubAsk T) (v : W) → OwesFor eq cap o l other v → IsAmong eq v wakes ⊎ OwesFor eq cap o2 l2 other v
      polled_kept = keeps_other o2 l2 wakes polled_keeps (polls_log o o2 ask a p f h).1

      pub polled_quiet : a ≡ Pending → o2 ≡ o → IsAmong eq w wakes → ⊥
      polled_quiet pending unchanged i =
          let j : IsAmong eq w (hands ask a).wakes = subst (λ ws. IsAmong eq w ws) e.0 i in
          let k : IsAmong eq w (hands ask Pending).wakes = subst (λ x. IsAmong eq w (hands ask x).wakes) pending j in
          quiet_ask here ask f (subst (λ x. PollsLog C I cap o ask x o.log) pending (subst (λ x. PollsLog C I cap o ask a x.log) unchanged (polls_log o o2 ask a p f h).0)) k

      at_rest : (x : Answer (PubSubHeard T)) → x ≡ Pending → rest_of ask x ≡ Some ask
      at_rest x q = ap (λ y. rest_of ask y) q

      pub polled_registered : ((x : W) → eq x x ≡ true) → a ≡ Pending → IsAmong eq w wakes ⊎ IsOwed (λ x k v. OwesFor eq cap o2 x k v) l2 p w
      polled_registered same pending =
          let k = polls_log o o2 ask a p f h in
          let r = owed_ask same ask o2.log (subst (λ x. PollsLog C I cap o ask x o2.log) pending k.0) in
          let wakes_are : wakes ≡ (hands ask Pending).wakes = e.0 ∙ ap (λ x. (hands ask x).wakes) pending in
          let lists_are : l2 ≡ (hands ask Pending).after = e.1 ∙ ap (λ x. (hands ask x).after) pending in
          let place_is : p ≡ Some ask = h.1 ∙ at_rest a pending in
          elim r [
            | inl i ↦ inl (subst (λ ws. IsAmong eq w ws) (sym wakes_are) i)
            | inr i ↦ inr (subst (λ q. IsOwed (λ x k v. OwesFor eq cap o2 x k v) l2 q w) (sym place_is) (subst (λ x. OwesFor eq cap o2 x ask w) (sym lists_are) (subst (λ x. OwesFor eq cap x (hands ask Pending).after ask w) (sym k.1) i)))
          ]

      fits_rest : (x : Answer (PubSubHeard T)) → names_it ask o2 ≡ true → IfSome (rest_of ask x) (λ after. names_it after o2 ≡ true)
      fits_rest (Gives heard) g = tt
      fits_rest x g = g

      pub polled_names : (other : PubSubAsk T) → names_it other o ≡ true → names_it other o2 ≡ true
      polled_names other g = log_names o o2 (polls_log o o2 ask a p f h).1 other g

      pub polled_fits : IfSome p (λ after. names_it after o2 ≡ true)
      polled_fits = subst (λ q. IfSome q (λ after. names_it after o2 ≡ true)) (sym h.1) (fits_rest a (polled_names ask f))

-- a request of the subscriber with this number, who is at this place
module _ {T W : Type 0} (C : T → T → Type 0) (I : T → Type 0) (cap subs pubs : ℕ) (eq : W → W → Bool) (o : Topic T) (l l2 : Lists W) (w : W) (wakes : List W) (a : Answer (PubSubHeard T)) (log2 : Log T) (ask : PubSubAsk T) (s place : ℕ) (there : at_number o.subscribers s ≡ Some place) where
  at_place : place_at s o ≡ place
  at_place = ap number_of there

  pub message_log : ask ≡ Message s → PollsMessage C I place o.log a log2 → PollsLog C I cap o ask a log2
  message_log e h = subst (λ x. PollsLog C I cap o x a log2) (sym e) (subst (λ n. PollsMessage C I n o.log a log2) (sym at_place) h)

  pub message_hands : ask ≡ Message s → IsHanded (unless_refused a l (read_hands eq subs pubs place o.log (Some w) (read_of a) l)) wakes l2 → IsHanded (unless_refused a l (poll_hands eq subs pubs o l ask w a)) wakes l2
  message_hands e h = subst (λ x. IsHanded (unless_refused a l (poll_hands eq subs pubs o l x w a)) wakes l2) (sym e) (subst (λ n. IsHanded (unless_refused a l (read_hands eq subs pubs n o.log (Some w) (read_of a) l)) wakes l2) (sym at_place) h)

  pub pure_log : ask ≡ MessagePure s → PollsPure C I place o.log a log2 → PollsLog C I cap o ask a log2
  pure_log e h = subst (λ x. PollsLog C I cap o x a log2) (sym e) (subst (λ n. PollsPure C I n o.log a log2) (sym at_place) h)

  pub pure_poll_hands : ask ≡ MessagePure s → IsHanded (unless_refused a l (pure_hands eq subs pubs place o.log (Some w) (pure_of a) l)) wakes l2 → IsHanded (unless_refused a l (poll_hands eq subs pubs o l ask w a)) wakes l2
  pure_poll_hands e h = subst (λ x. IsHanded (unless_refused a l (poll_hands eq subs pubs o l x w a)) wakes l2) (sym e) (subst (λ n. IsHanded (unless_refused a l (pure_hands eq subs pubs n o.log (Some w) (pure_of a) l)) wakes l2) (sym at_place) h)

  pub stream_log : ask ≡ Stream s → PollsStream C I place o.log a log2 → PollsLog C I cap o ask a log2
  stream_log e h = subst (λ x. PollsLog C I cap o x a log2) (sym e) (subst (λ n. PollsStream C I n o.log a log2) (sym at_place) h)

  pub stream_poll_hands : ask ≡ Stream s → IsHanded (unless_refused a l (stream_hands eq subs pubs place o.log w (stream_of a) l)) wakes l2 → IsHanded (unless_refused a l (poll_hands eq subs pubs o l ask w a)) wakes l2
  stream_poll_hands e h = subst (λ x. IsHanded (unless_refused a l (poll_hands eq subs pubs o l x w a)) wakes l2) (sym e) (subst (λ n. IsHanded (unless_refused a l (stream_hands eq subs pubs n o.log w (stream_of a) l)) wakes l2) (sym at_place) h)

-- what is told of the place that a number names
pub at_named : {T : Type 0} (o : Topic T) (s place : ℕ) (D : ℕ → Type 0) → at_number o.subscribers s ≡ Some place → D place → D (place_at s o)
at_named o s place D e d = subst (λ q. D (number_of q)) (sym e) d

pub where_named : {T : Type 0} (o o2 : Topic T) (a : Answer (PubSubHeard T)) (s place : ℕ) (D : ℕ → Type 0) → at_number o.subscribers s ≡ Some place → D place → Where (is_subscriber s o) o (D (place_at s o)) a o2
where_named o o2 a s place D e d = subst (λ q. Where (is_some q) o (D (number_of q)) a o2) (sym e) d

pub where_true : {T : Type 0} (b : Bool) (o o2 : Topic T) (a : Answer (PubSubHeard T)) (D : Type 0) → b ≡ true → D → Where b o D a o2
where_true b o o2 a D e d = subst (λ x. Where x o D a o2) (sym e) d
