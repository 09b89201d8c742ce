-- What a poll and a call keep of a machine over a pub-sub channel whose subscribers and publishers have numbers.
use Rattle.std.proofs.Common.{◌≡◌, ℕ, Bool, true, false, List, Option, Some, None, sym, ap, subst, ◌∙◌, ◌⊎◌, inl, inr}
use Rattle.std.specs.Prelude.{IfSome}
use Rattle.esync_base.specs.Registration.{IsAmong}
use Rattle.esync_machine.specs.declared.primitive.Answer.{Answer}
use Rattle.esync_machine.specs.declared.primitive.Answer.TheVariants.{Pending}
use Rattle.esync_machine.specs.Numbers.{at_number}
use Rattle.esync_machine.specs.Rules.{IsOwed, ended}
use Rattle.esync_machine.specs.Wakings.{IsHanded, unless_refused}
use Rattle.esync_pubsub.specs.Events.{Tables, AreNamed}
use Rattle.esync_pubsub.specs.PubSub.{PubSub}
use Rattle.esync_pubsub.specs.PubSubRules.{Topic, topic_of, names_it, place_at, is_subscriber, reach, Polls, Calls, poll_hands, call_hands, pubsub_rules, OwesFor}
use Rattle.esync_pubsub.proofs.Calls.{Stays, stays_called}
use Rattle.esync_log.specs.LogLaws.{some_number}
use Rattle.esync_pubsub.proofs.Turns.{AreHere, here_by, polled_kept, polled_quiet, polled_registered, polled_names, polled_fits}
use Rattle.esync_pubsub.specs.declared.pubsub.machine.PubSubAsk.{PubSubAsk}
use Rattle.esync_pubsub.specs.declared.pubsub.machine.PubSubCall.{PubSubCall}
use Rattle.esync_pubsub.specs.declared.pubsub.machine.PubSubHeard.{PubSubHeard}

-- what is owed to what stands at a number
is_owed : {S H W : Type 0} (Owes : S → H → W → Type 0) (s : S) (p : Option H) (h : H) (w : W) → p ≡ Some h → Owes s h w → IsOwed Owes s p w
is_owed Owes s p h w e k = subst (λ q. IsOwed Owes s q w) (sym e) k

-- the same, told in other words
owed_as : {S Z H W : Type 0} (A : S → H → W → Type 0) (B : Z → H → W → Type 0) (s : S) (z : Z) (p : Option H) (w : W) → ((h : H) → A s h w → B z h w) → IsOwed A s p w → IsOwed B z p w
owed_as A B s z None w f k = k
owed_as A B s z (Some h) w f k = f h k

module _ {T W : Type 0} (C : T → T → Type 0) (I : T → Type 0) (cap subs pubs names : ℕ) (eq : W → W → Bool) (s s2 : PubSub T W) (t : Tables) (m : AreNamed cap pubs names s t) (wakes : List W) where
  abbrev at : Topic T
  at = topic_of s t

  here : AreHere at
  here = here_by at m.live

  other_places : (r u : ℕ) → (r ≡ u → ⊥) → is_subscriber r at ≡ true → is_subscriber u at ≡ true → place_at u at ≡ place_at r at → ⊥
  other_places r u n e f p = n (m.apart r u (place_at r at) (some_number (at_number t.subscribers r) e) (some_number (at_number t.subscribers u) f ∙ ap Some p))

  module _ (ask : PubSubAsk T) (w : W) (a : Answer (PubSubHeard T)) (p : Option (PubSubAsk T)) (f : names_it ask at ≡ true) (h : Polls C I cap at ask a (topic_of s2 t) p) (e : IsHanded (unless_refused a s.lists (poll_hands eq subs pubs at s.lists ask w a)) wakes s2.lists) where
    pub turn_kept : (other : PubSubAsk T) (v : W) → OwesFor eq cap at s.lists other v → IsAmong eq v wakes ⊎ OwesFor eq cap (topic_of s2 t) s2.lists other v
    turn_kept = polled_kept C I cap eq subs pubs at s.lists w (topic_of s2 t) ask a p wakes s2.lists here f h e

    pub turn_quiet : a ≡ Pending → topic_of s2 t ≡ at → IsAmong eq w wakes → ⊥
    turn_quiet = polled_quiet C I cap eq subs pubs at s.lists w (topic_of s2 t) ask a p wakes s2.lists here f h e

    pub turn_registered : {Z : Type 0} (Owes : Z → PubSubAsk T → W → Type 0) (z : Z) → ((k : PubSubAsk T) → OwesFor eq cap (topic_of s2 t) s2.lists k w → Owes z k w) → ((x : W) → eq x x ≡ true) → a ≡ Pending → IsAmong eq w wakes ⊎ IsOwed Owes z p w
    turn_registered Owes z f2 same pending =
        elim (polled_registered C I cap eq subs pubs at s.lists w (topic_of s2 t) ask a p wakes s2.lists here f h e same pending) [
          | inl i ↦ inl i
          | inr i ↦ inr (owed_as (λ x k v. OwesFor eq cap (topic_of s2 t) x k v) Owes s2.lists z p w f2 i)
        ]

    pub turn_names : (other : PubSubAsk T) → names_it other at ≡ true → names_it other (topic_of s2 t) ≡ true
    turn_names = polled_names C I cap eq subs pubs at s.lists w (topic_of s2 t) ask a p wakes s2.lists here f h e

    pub turn_fits : IfSome p (λ after. names_it after (topic_of s2 t) ≡ true)
    turn_fits = polled_fits C I cap eq subs pubs at s.lists w (topic_of s2 t) ask a p wakes s2.lists here f h e

  module _ (t2 : Tables) (call : PubSubCall T) (a : Answer (PubSubHeard T)) (h : Calls C I cap pubs at call a (topic_of s2 t2)) (e : IsHanded (unless_refused a s.lists (call_hands eq subs pubs at s.lists call a)) wakes s2.lists) where
    pub call_stays : (other : PubSubAsk T) → names_it other at ≡ true → ended (pubsub_rules C I cap pubs) at (reach call) call other ≡ false → Stays eq cap at (topic_of s2 t2) s.lists s2.lists wakes other
    call_stays other f n =
        let k = stays_called C I cap subs pubs eq at s.lists other f m.room here other_places a (topic_of s2 t2) call h n in
        subst (λ x. Stays eq cap at (topic_of s2 t2) s.lists x wakes other) (sym e.1) (subst (λ ws. Stays eq cap at (topic_of s2 t2) s.lists (unless_refused a s.lists (call_hands eq subs pubs at s.lists call a)).after ws other) (sym e.0) k)
