-- What the answers tell of the channel is the channel.
use Rattle.std.proofs.Common.{◌≡◌, ℕ, zero, suc, ◌-◌, ◌<◌, Bool, true, false, List, [], ◌∷◌, Option, Some, None, inl, inr, refl, sym, ap, ◌∙◌, subst, arith}
use Rattle.std.specs.Prelude.{is_some, slice_get, slice_set, slice_index_or, if◌then◌else◌, Ok, Err}
use Rattle.esync_machine.specs.Names.{is_free}
use Rattle.esync_machine.specs.declared.primitive.Answer.{Answer}
use Rattle.esync_machine.specs.declared.primitive.Answer.TheVariants.{Done, Pending, NoSuch, NoMemory, Gives}
use Rattle.esync_log.specs.Log.{Log, oldest, has_subscribers, position, published, with_room, moved, lags, caught, caught_if, gap, found, Accepts}
use Rattle.esync_pubsub.specs.Advance.{least_free, log_after_poll, topic_after_poll, topic_after_call}
use Rattle.esync_pubsub.specs.PubSubRules.{Topic, place_at, is_subscriber, is_publisher, names_it, departed, read_log, WithLog, PollsLog, Polls, Comes, Counts, TriesPublish, AtOnce, Tries, TriesPure, Calls}
use Rattle.esync_log.specs.declared.log.TryPublishError.TheVariants.{Full, Exhausted}
use Rattle.esync_pubsub.specs.declared.pubsub.Error.TheVariants.{MaximumSubscribersReached, MaximumPublishersReached}
use Rattle.esync_log.specs.declared.log.WaitResult.TheVariants.{Message as Given}
use Rattle.esync_pubsub.specs.declared.pubsub.machine.PubSubAsk.{PubSubAsk}
use Rattle.esync_pubsub.specs.declared.pubsub.machine.PubSubAsk.TheVariants.{Publish, Message, MessagePure, Stream}
use Rattle.esync_pubsub.specs.declared.pubsub.machine.PubSubCall.{PubSubCall}
use Rattle.esync_pubsub.specs.declared.pubsub.machine.PubSubCall.TheVariants.{Join, Leave, Publisher, Retire, TryPublish, Immediate, Next, NextPure, Available, Clear, Len, FreeCapacity}
use Rattle.esync_pubsub.specs.declared.pubsub.machine.PubSubHeard.{PubSubHeard}
use Rattle.esync_pubsub.specs.declared.pubsub.machine.PubSubHeard.TheVariants.{Published, Read, ReadPure, Streamed, Came, TriedPublish, PublishedAtOnce, Tried, TriedPure}
use Rattle.esync_pubsub.proofs.Calls.{where_done}
use Rattle.esync_pubsub.proofs.Kept.{read_is}

-- the least place where nobody is
least_is : (place : ℕ) (ps : List (Option ℕ)) → slice_get ps place ≡ Some None → ((k : ℕ) → k < place → is_some (slice_index_or ps k None) ≡ true) → least_free ps ≡ place
least_is place [] free least = absurd cc
least_is zero (None ∷ ps) free least = refl
least_is (suc place) (None ∷ ps) free least = absurd (let e = least 0 (omega arith) in cc)
least_is zero (Some p ∷ ps) free least = absurd cc
least_is (suc place) (Some p ∷ ps) free least = ap suc (least_is place ps free (λ k l. least (suc k) (omega (arith, l))))

module _ {T : Type 0} where
  accepted_is : (message : T) (log log2 room : Log T) (b : Bool) → Accepts b log log2 (published message room) → (if b then published message room else log) ≡ log2
  accepted_is message log log2 room true h = sym h.1
  accepted_is message log log2 room false h = sym h

  gap_log : (b : Bool) (k place : ℕ) (log : Log T) → read_log place log (gap b k) ≡ caught_if b place log
  gap_log true k place log = refl
  gap_log false k place log = refl

  pub no_poll : (o : Topic T) (ask : Option (PubSubAsk T)) → topic_after_poll o ask NoSuch ≡ o
  no_poll o None = refl
  no_poll o (Some (Publish p message)) = refl
  no_poll o (Some (Message s)) = refl
  no_poll o (Some (MessagePure s)) = refl
  no_poll o (Some (Stream s)) = refl

  pub no_call : (cap : ℕ) (o : Topic T) (call : PubSubCall T) → topic_after_call cap o call NoSuch ≡ o
  no_call cap o (Join s) = refl
  no_call cap o (Leave s) = refl
  no_call cap o (Publisher p) = refl
  no_call cap o (Retire p) = refl
  no_call cap o (TryPublish p message) = refl
  no_call cap o (Immediate message) = refl
  no_call cap o (Next s) = refl
  no_call cap o (NextPure s) = refl
  no_call cap o (Available s) = refl
  no_call cap o Clear = refl
  no_call cap o Len = refl
  no_call cap o FreeCapacity = refl

  with_log : (o o2 : Topic T) (log : Log T) → log ≡ o2.log → WithLog o o2 → record o { log = log } ≡ o2
  with_log o o2 log e f = ap (λ x. record o { log = x }) e ∙ sym f

module _ {T : Type 0} (C : T → T → Type 0) (I : T → Type 0) (cap : ℕ) (o : Topic T) where
  polled_log : (ask : PubSubAsk T) (a : Answer (PubSubHeard T)) (log2 : Log T) → PollsLog C I cap o ask a log2 → log_after_poll o ask a ≡ log2
  polled_log (Publish p message) Pending log2 h = sym h.3
  polled_log (Publish p message) (Gives (Published (Ok done))) log2 h = accepted_is message o.log log2 o.log (has_subscribers o.log) h.1
  polled_log (Publish p message) (Gives (Published (Err refused))) log2 h = sym h.4
  polled_log (Publish p message) a log2 h = absurd h
  polled_log (Message s) Pending log2 h = sym h.1
  polled_log (Message s) (Gives (Read answer)) log2 h = sym (read_is C (place_at s o) o.log (Some answer) log2 h.1)
  polled_log (Message s) NoMemory log2 h = sym h.2
  polled_log (Message s) a log2 h = absurd h
  polled_log (MessagePure s) Pending log2 h = sym (read_is C (place_at s o) (caught (place_at s o) o.log) None log2 h)
  polled_log (MessagePure s) (Gives (ReadPure given)) log2 h = sym (read_is C (place_at s o) (caught (place_at s o) o.log) (Some (Given given)) log2 h.1)
  polled_log (MessagePure s) NoMemory log2 h = sym h.2
  polled_log (MessagePure s) a log2 h = absurd h
  polled_log (Stream s) Pending log2 h =
      let place = place_at s o in
      let k = oldest o.log - position place o.log in
      sym (read_is C place o.log (gap (lags place o.log) k) log2 h ∙ gap_log (lags place o.log) k place o.log)
  polled_log (Stream s) (Gives (Streamed None)) log2 h = absurd h.1
  polled_log (Stream s) (Gives (Streamed (Some given))) log2 h = sym (read_is C (place_at s o) o.log (Some (Given given)) log2 h.1)
  polled_log (Stream s) NoMemory log2 h = sym h.2
  polled_log (Stream s) a log2 h = absurd h

  module _ (o2 : Topic T) where
    pub topic_polled : (ask : PubSubAsk T) (a : Answer (PubSubHeard T)) (p : Option (PubSubAsk T)) → Polls C I cap o ask a o2 p → topic_after_poll o (Some ask) a ≡ o2
    topic_polled ask a p h = elim (where_done (names_it ask o) o (PollsLog C I cap o ask a o2.log × WithLog o o2) a o2 h.0) [
      | inl d ↦ with_log o o2 (log_after_poll o ask a) (polled_log ask a o2.log d.1.0) d.1.1
      | inr n ↦ subst (λ x. topic_after_poll o (Some ask) x ≡ o2) (sym n.0) (no_poll o (Some ask) ∙ sym n.1)
    ]

    topic_came : (s : ℕ) (a : Answer (PubSubHeard T)) → Comes s o a o2 → topic_after_call cap o (Join s) a ≡ o2
    topic_came s (Gives (Came (Ok done))) h =
        let at : Topic T → ℕ → Topic T = λ o place. record o { log = moved place o.log.next o.log; subscribers = slice_set o.subscribers s (Some place) } in
        let l : least_free o.log.positions ≡ h.0 = least_is h.0 o.log.positions h.1.0.free h.1.0.least in
        ap (at o) l ∙ ap (λ x. record o { log = x; subscribers = slice_set o.subscribers s (Some h.0) }) (sym h.1.1) ∙ sym h.2
    topic_came s (Gives (Came (Err MaximumSubscribersReached))) h = with_log o o2 o.log (sym h.0.1) h.1
    topic_came s (Gives (Came (Err MaximumPublishersReached))) h = absurd h.0
    topic_came s a h = absurd h

    module _ (pubs : ℕ) where
      topic_counted : (p : ℕ) (a : Answer (PubSubHeard T)) → Counts pubs p o a o2 → topic_after_call cap o (Publisher p) a ≡ o2
      topic_counted p (Gives (Came (Ok done))) h = sym h.1
      topic_counted p (Gives (Came (Err MaximumPublishersReached))) h = sym h.1
      topic_counted p a h = absurd h

      topic_tried : (p : ℕ) (message : T) (a : Answer (PubSubHeard T)) → TriesPublish cap message o.log a o2.log → WithLog o o2 → topic_after_call cap o (TryPublish p message) a ≡ o2
      topic_tried p message (Gives (TriedPublish (Ok done))) h w = with_log o o2 _ (accepted_is message o.log o2.log o.log (has_subscribers o.log) h.1) w
      topic_tried p message (Gives (TriedPublish (Err (Full back)))) h w = with_log o o2 o.log (sym h.3) w
      topic_tried p message (Gives (TriedPublish (Err (Exhausted back)))) h w = with_log o o2 o.log (sym h.4) w
      topic_tried p message a h w = absurd h

      topic_at_once : (message : T) (a : Answer (PubSubHeard T)) → AtOnce cap message o.log a o2.log → WithLog o o2 → topic_after_call cap o (Immediate message) a ≡ o2
      topic_at_once message (Gives (PublishedAtOnce (Ok done))) h w = with_log o o2 _ (accepted_is message o.log o2.log (with_room cap o.log) (has_subscribers o.log) h) w
      topic_at_once message (Gives (PublishedAtOnce (Err refused))) h w = with_log o o2 o.log (sym h.3) w
      topic_at_once message a h w = absurd h

      topic_next : (s : ℕ) (a : Answer (PubSubHeard T)) → Tries C I (place_at s o) o.log a o2.log → WithLog o o2 → topic_after_call cap o (Next s) a ≡ o2
      topic_next s (Gives (Tried answer)) h w = with_log o o2 _ (sym (read_is C (place_at s o) o.log answer o2.log h.1)) w
      topic_next s NoMemory h w = with_log o o2 o.log (sym h.2) w
      topic_next s a h w = absurd h

      topic_next_pure : (s : ℕ) (a : Answer (PubSubHeard T)) → TriesPure C I (place_at s o) o.log a o2.log → WithLog o o2 → topic_after_call cap o (NextPure s) a ≡ o2
      topic_next_pure s (Gives (TriedPure given)) h w = with_log o o2 _ (sym (read_is C (place_at s o) (caught (place_at s o) o.log) (found given) o2.log h.1)) w
      topic_next_pure s NoMemory h w = with_log o o2 o.log (sym h.2) w
      topic_next_pure s a h w = absurd h

      module _ (a : Answer (PubSubHeard T)) where
        unchanged : (call : PubSubCall T) → (a ≡ NoSuch) × (o2 ≡ o) → topic_after_call cap o call a ≡ o2
        unchanged call n = subst (λ x. topic_after_call cap o call x ≡ o2) (sym n.0) (no_call cap o call ∙ sym n.1)

        topic_done : (call : PubSubCall T) → a ≡ Done → o2 ≡ topic_after_call cap o call Done → topic_after_call cap o call a ≡ o2
        topic_done call e f = subst (λ x. topic_after_call cap o call x ≡ o2) (sym e) (sym f)

        pub topic_called : (call : PubSubCall T) → Calls C I cap pubs o call a o2 → topic_after_call cap o call a ≡ o2
        topic_called (Join s) h = elim (where_done (is_free s o.subscribers) o (Comes s o a o2) a o2 h) [
          | inl d ↦ topic_came s a d.1
          | inr n ↦ unchanged (Join s) n
        ]
        topic_called (Leave s) h = elim (where_done (is_subscriber s o) o ((a ≡ Done) × (o2 ≡ departed s o)) a o2 h) [
          | inl d ↦ topic_done (Leave s) d.1.0 d.1.1
          | inr n ↦ unchanged (Leave s) n
        ]
        topic_called (Publisher p) h = elim (where_done (is_free p o.publishers) o (Counts pubs p o a o2) a o2 h) [
          | inl d ↦ topic_counted p a d.1
          | inr n ↦ unchanged (Publisher p) n
        ]
        topic_called (Retire p) h = elim (where_done (is_publisher p o) o ((a ≡ Done) × (o2 ≡ record o { publishers = slice_set o.publishers p None })) a o2 h) [
          | inl d ↦ topic_done (Retire p) d.1.0 d.1.1
          | inr n ↦ unchanged (Retire p) n
        ]
        topic_called (TryPublish p message) h = elim (where_done (is_publisher p o) o (TriesPublish cap message o.log a o2.log × WithLog o o2) a o2 h) [
          | inl d ↦ topic_tried p message a d.1.0 d.1.1
          | inr n ↦ unchanged (TryPublish p message) n
        ]
        topic_called (Immediate message) h = topic_at_once message a h.0 h.1
        topic_called (Next s) h = elim (where_done (is_subscriber s o) o (Tries C I (place_at s o) o.log a o2.log × WithLog o o2) a o2 h) [
          | inl d ↦ topic_next s a d.1.0 d.1.1
          | inr n ↦ unchanged (Next s) n
        ]
        topic_called (NextPure s) h = elim (where_done (is_subscriber s o) o (TriesPure C I (place_at s o) o.log a o2.log × WithLog o o2) a o2 h) [
          | inl d ↦ topic_next_pure s a d.1.0 d.1.1
          | inr n ↦ unchanged (NextPure s) n
        ]
        topic_called (Available s) h = elim (where_done (is_subscriber s o) o _ a o2 h) [
          | inl d ↦ sym d.1.1
          | inr n ↦ unchanged (Available s) n
        ]
        topic_called Clear h = topic_done Clear h.0 h.1
        topic_called Len h = sym h.1
        topic_called FreeCapacity h = sym h.3
