-- The numbers name all subscribers and publishers, as these come and go.
use Rattle.std.proofs.Common.{◌≡◌, ℕ, zero, suc, ◌+◌, ◌-◌, ◌<◌, ◌≤◌, true, false, List, replicate, Option, Some, None, refl, sym, ap, subst, arith, ◌∙◌, inl, inr}
use Rattle.std.specs.Prelude.{Err, is_some, slice_get, slice_set, slice_index_or}
use Rattle.std.proofs.lemmas.List.{length-set, length-replicate}
use Rattle.esync_base.specs.ListedLaws.{same_or_not}
use Rattle.esync_machine.specs.Numbers.{at_number}
use Rattle.esync_machine.specs.NumbersLaws.{there_of, at_set, at_set_here, at_set_other, nothing_there}
use Rattle.esync_machine.specs.Names.{is_free, used}
use Rattle.esync_machine.specs.NamesLaws.{free_is, free_number, used_none, used_some, used_taken, used_freed}
use Rattle.esync_pubsub.specs.Events.{Tables, AreNamed}
use Rattle.esync_log.specs.Log.{Log, is_live, left, Joins}
use Rattle.esync_pubsub.specs.PubSub.{PubSub, fresh, Subscribes, Adds}
use Rattle.esync_pubsub.specs.PubSubRules.{topic_of, Counts}
use Rattle.esync_machine.specs.declared.primitive.Answer.TheVariants.{Gives}
use Rattle.esync_pubsub.specs.declared.pubsub.Error.{Error}
use Rattle.esync_pubsub.specs.declared.pubsub.Error.TheVariants.{MaximumSubscribersReached, MaximumPublishersReached}
use Rattle.esync_pubsub.specs.declared.pubsub.machine.PubSubHeard.TheVariants.{Came}
use Rattle.esync_pubsub.proofs.Kept.{left_live, gone_live, join_here, join_live}
use Rattle.esync_log.specs.LogLaws.{free_there}

-- no place of a new channel has a subscriber
abbrev no_subscriber : Option ℕ
no_subscriber = None

nobody_live : (n q : ℕ) → is_some (slice_index_or (replicate n no_subscriber) q None) ≡ false
nobody_live zero q = refl
nobody_live (suc n) zero = refl
nobody_live (suc n) (suc q) = nobody_live n q

module _ {T W : Type 0} (cap pubs names : ℕ) where
  pub named_new : (subs next : ℕ) → 1 ≤ cap → AreNamed {T = T} {W = W} cap pubs names (fresh subs next) (record { subscribers = replicate names None; publishers = replicate names None })
  named_new subs next h = record {
    room = h;
    at_most = omega arith;
    subscribers = length-replicate names None;
    publishers = length-replicate names None;
    live = λ s place e. absurd (nothing_there names s place e);
    apart = λ s t place e f. absurd (nothing_there names s place e);
    named = λ place h. absurd (let f = nobody_live subs place in cc);
    counted = sym (used_none (λ x. true) names);
  }

  module _ (s s2 : PubSub T W) (ns : List (Option ℕ)) (ps : List (Option (Unit {0}))) (m : AreNamed cap pubs names (s) (record { subscribers = ns; publishers = ps })) where
    -- the same subscribers and publishers
    pub named_same : s2.publishers ≡ s.publishers → ((q : ℕ) → is_live q s2.log ≡ is_live q s.log) → AreNamed cap pubs names (s2) (record { subscribers = ns; publishers = ps })
    named_same e l = record {
      room = m.room;
      at_most = omega (arith, m.at_most, e);
      subscribers = m.subscribers;
      publishers = m.publishers;
      live = λ r place h. l place ∙ m.live r place h;
      apart = m.apart;
      named = λ place h. m.named place (sym (l place) ∙ h);
      counted = e ∙ m.counted;
    }

    module _ (r place : ℕ) (h : Joins s.log (Some place) s2.log) (f : is_free r ns ≡ true) where
      there : slice_get ns r ≡ Some None
      there = free_is (slice_get ns r) f

      was_free : is_live place s.log ≡ false
      was_free = ap is_some (free_there s.log.positions place h.0.free)

      other_place : (t q : ℕ) → at_number ns t ≡ Some q → q ≡ place → ⊥
      other_place t q e i = (let a : is_live q s.log ≡ true = m.live t q e in let b : is_live q s.log ≡ false = subst (λ x. is_live x s.log ≡ false) (sym i) was_free in cc)

      joined_live : (t q : ℕ) → at_number (slice_set ns r (Some place)) t ≡ Some q → is_live q s2.log ≡ true
      joined_live t q e = elim (at_set ns r None (Some place) t q there e) [
        | inl i ↦ (let w : place ≡ q = (let j = i.1 in cc) in subst (λ x. is_live x s2.log ≡ true) w (join_here place s.log s2.log h))
        | inr i ↦ join_live place s.log s2.log h q (other_place t q i.1) ∙ m.live t q i.1
      ]

      joined_apart : (t u q : ℕ) → at_number (slice_set ns r (Some place)) t ≡ Some q → at_number (slice_set ns r (Some place)) u ≡ Some q → t ≡ u
      joined_apart t u q e g = elim (at_set ns r None (Some place) t q there e) [
        | inl i ↦ elim (at_set ns r None (Some place) u q there g) [
          | inl j ↦ i.0 ∙ sym j.0
          | inr j ↦ absurd (other_place u q j.1 (let k = i.1 in cc))
        ]
        | inr i ↦ elim (at_set ns r None (Some place) u q there g) [
          | inl j ↦ absurd (other_place t q i.1 (let k = j.1 in cc))
          | inr j ↦ m.apart t u q i.1 j.1
        ]
      ]

      joined_named : (q : ℕ) → is_live q s2.log ≡ true → (t : ℕ) × (at_number (slice_set ns r (Some place)) t ≡ Some q)
      joined_named q l = elim (same_or_not q place) [
        | inl i ↦ (r, at_set_here ns r None (Some place) there ∙ ap Some (sym i))
        | inr n ↦ (let k = m.named q (sym (join_live place s.log s2.log h q n) ∙ l) in (k.0, at_set_other ns r k.0 (Some place) (λ i. (let a : at_number ns r ≡ Some q = subst (λ x. at_number ns x ≡ Some q) (sym i) k.1 in let b = free_number ns r f in cc)) ∙ k.1))
      ]

      pub named_join : s2.publishers ≡ s.publishers → AreNamed cap pubs names (s2) (record { subscribers = slice_set ns r (Some place); publishers = ps })
      named_join e = record {
        room = m.room;
        at_most = omega (arith, m.at_most, e);
        subscribers = length-set ns r (Some place) ∙ m.subscribers;
        publishers = m.publishers;
        live = joined_live;
        apart = joined_apart;
        named = joined_named;
        counted = e ∙ m.counted;
      }

    module _ (r place : ℕ) (f : at_number ns r ≡ Some place) (h : s2.log ≡ left place s.log) where
      stood : slice_get ns r ≡ Some (Some place)
      stood = there_of ns r place f

      others_place : (t q : ℕ) → (r ≡ t → ⊥) → at_number ns t ≡ Some q → q ≡ place → ⊥
      others_place t q n e i = n (m.apart r t place f (e ∙ ap Some i))

      others_live : (q : ℕ) → (q ≡ place → ⊥) → is_live q s2.log ≡ is_live q s.log
      others_live q n = ap (λ x. is_live q x) h ∙ left_live place q s.log n

      left_here : (t q : ℕ) → at_number (slice_set ns r None) t ≡ Some q → is_live q s2.log ≡ true
      left_here t q e = elim (at_set ns r (Some place) None t q stood e) [
        | inl i ↦ absurd (let j = i.1 in cc)
        | inr i ↦ others_live q (others_place t q i.0 i.1) ∙ m.live t q i.1
      ]

      left_apart : (t u q : ℕ) → at_number (slice_set ns r None) t ≡ Some q → at_number (slice_set ns r None) u ≡ Some q → t ≡ u
      left_apart t u q e g = elim (at_set ns r (Some place) None t q stood e) [
        | inl i ↦ absurd (let j = i.1 in cc)
        | inr i ↦ elim (at_set ns r (Some place) None u q stood g) [
          | inl j ↦ absurd (let k = j.1 in cc)
          | inr j ↦ m.apart t u q i.1 j.1
        ]
      ]

      not_gone : (q : ℕ) → is_live q s2.log ≡ true → q ≡ place → ⊥
      not_gone q l i = (let a : is_live place s2.log ≡ true = subst (λ x. is_live x s2.log ≡ true) i l in let b : is_live place s2.log ≡ false = ap (λ x. is_live place x) h ∙ gone_live place s.log (m.live r place f) in cc)

      left_named : (q : ℕ) → is_live q s2.log ≡ true → (t : ℕ) × (at_number (slice_set ns r None) t ≡ Some q)
      left_named q l =
          let n = not_gone q l in
          let k = m.named q (sym (others_live q n) ∙ l) in
          (k.0, at_set_other ns r k.0 None (λ i. n (let a : at_number ns r ≡ Some q = subst (λ x. at_number ns x ≡ Some q) (sym i) k.1 in cc)) ∙ k.1)

      pub named_leave : s2.publishers ≡ s.publishers → AreNamed cap pubs names (s2) (record { subscribers = slice_set ns r None; publishers = ps })
      named_leave e = record {
        room = m.room;
        at_most = omega (arith, m.at_most, e);
        subscribers = length-set ns r None ∙ m.subscribers;
        publishers = m.publishers;
        live = left_here;
        apart = left_apart;
        named = left_named;
        counted = e ∙ m.counted;
      }

    pub named_publisher : (p : ℕ) → is_free p ps ≡ true → s.publishers < pubs → s2 ≡ record s { publishers = s.publishers + 1 } → AreNamed cap pubs names (s2) (record { subscribers = ns; publishers = slice_set ps p (Some tt) })
    named_publisher p f l e =
        let n : s2.publishers ≡ s.publishers + 1 = ap (λ x. x.publishers) e in
        let log : s2.log ≡ s.log = ap (λ x. x.log) e in
        record {
          room = m.room;
          at_most = omega (arith, n, l);
          subscribers = m.subscribers;
          publishers = length-set ps p (Some tt) ∙ m.publishers;
          live = λ r place h. ap (λ x. is_live place x) log ∙ m.live r place h;
          apart = m.apart;
          named = λ place h. m.named place (sym (ap (λ x. is_live place x) log) ∙ h);
          counted = omega (arith, n, m.counted, used_taken (λ x. true) ps p tt f);
        }

    pub named_retire : (p : ℕ) (x : Unit {0}) → at_number ps p ≡ Some x → s2 ≡ record s { publishers = s.publishers - 1 } → AreNamed cap pubs names (s2) (record { subscribers = ns; publishers = slice_set ps p None })
    named_retire p x f e =
        let n : s2.publishers ≡ s.publishers - 1 = ap (λ x. x.publishers) e in
        let log : s2.log ≡ s.log = ap (λ x. x.log) e in
        record {
          room = m.room;
          at_most = omega (arith, n, m.at_most);
          subscribers = m.subscribers;
          publishers = length-set ps p None ∙ m.publishers;
          live = λ r place h. ap (λ x. is_live place x) log ∙ m.live r place h;
          apart = m.apart;
          named = λ place h. m.named place (sym (ap (λ x. is_live place x) log) ∙ h);
          counted = omega (arith, n, m.counted, used_freed (λ x. true) ps p x f);
        }

pub some_there : {N : Type 0} (q : Option N) → is_some q ≡ true → (x : N) × (q ≡ Some x)
some_there (Some x) e = (x, refl)
some_there None e = absurd cc

-- where a number names a publisher, one is counted
pub one_counted : {T W : Type 0} (cap pubs names : ℕ) (s : PubSub T W) (t : Tables) → AreNamed cap pubs names s t → (p : ℕ) → is_some (at_number t.publishers p) ≡ true → 1 ≤ s.publishers
one_counted cap pubs names s t m p e = (let k = some_there (at_number t.publishers p) e in omega (arith, used_some (λ x. true) t.publishers p k.0 k.1 refl, m.counted))

-- who is refused changes nothing
pub refused_same : {T : Type 0} (e : Error) (log log2 : Log T) → Subscribes log (Err e) log2 → log2 ≡ log
refused_same MaximumSubscribersReached log log2 h = h.1
refused_same MaximumPublishersReached log log2 h = absurd h

module _ {T W : Type 0} (pubs : ℕ) (s s2 : PubSub T W) (rest : s2 ≡ record s { publishers = s2.publishers }) where
  pub counted_as : (n : ℕ) → s2.publishers ≡ n → s2 ≡ record s { publishers = n }
  counted_as n e = rest ∙ ap (λ k. record s { publishers = k }) e

  pub refused_count : (e : Error) → Adds pubs s.publishers (Err e) s2.publishers → s2.publishers ≡ s.publishers
  refused_count MaximumSubscribersReached h = absurd h
  refused_count MaximumPublishersReached h = h.1

  pub refused_publisher : (t : Tables) (p : ℕ) (e : Error) → s.publishers ≡ used t.publishers → Adds pubs s.publishers (Err e) s2.publishers → Counts pubs p (topic_of s t) (Gives (Came (Err e))) (topic_of s2 t)
  refused_publisher t p MaximumSubscribersReached c h = absurd h
  refused_publisher t p MaximumPublishersReached c h = (sym c ∙ h.0, ap (λ x. topic_of x t) rest)
