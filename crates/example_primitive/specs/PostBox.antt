-- The post box: its object, its rules, and its table of wakes.
use Rattle.std.specs.Prelude.{◌≡◌, ℕ, Bool, true, false, List, Option, Some, None, refl}
use Rattle.esync_base.specs.Registration.{IsAmong}
use Rattle.esync_machine.specs.declared.primitive.Answer.{Answer}
use Rattle.esync_machine.specs.declared.primitive.Answer.TheVariants.{Done, Pending, Gives}
use Rattle.esync_machine.specs.declared.primitive.Reach.{Reach}
use Rattle.esync_machine.specs.declared.primitive.Reach.TheVariants.{Nobody, Leavers}
use Rattle.esync_machine.specs.Wakings.{Wakings, Handed, nothing, registers, hands_out}
use Rattle.esync_machine.specs.Rules.{Rules, Alone, IsIdle, IdleIsPending}
use Rattle.example_primitive.specs.declared.post_box.NextMessage.{NextMessage}
use Rattle.example_primitive.specs.declared.post_box.PostCall.{PostCall}
use Rattle.example_primitive.specs.declared.post_box.PostCall.TheVariants.{Join, Leave, Post}

-- whether the subscriber is there, and the message that it has not read
pub record Posted : Type 0 where
  pub is_live : Bool
  pub message : Option ℕ

-- a start is refused while the subscriber isn't there
abbrev pub Begins : Bool → NextMessage → Option NextMessage → Type 0
Begins true ask p = p ≡ Some ask
Begins false ask p = p ≡ None

-- a poll takes the message, if there is one, and otherwise waits
abbrev pub Polls : Option ℕ → Posted → NextMessage → Answer ℕ → Posted → Option NextMessage → Type 0
Polls None o h a o2 p = (a ≡ Pending) × (o2 ≡ o) × (p ≡ Some h)
Polls (Some x) o h a o2 p = (a ≡ Gives x) × (o2 ≡ record o { message = None }) × (p ≡ None)

-- a message that is posted without a subscriber is dropped
abbrev pub Posts : Bool → Posted → ℕ → Posted
Posts true o x = record o { message = Some x }
Posts false o x = o

abbrev pub Calls : Posted → PostCall → Answer ℕ → Posted → Type 0
Calls o Join a o2 = (a ≡ Done) × (o2 ≡ record o { is_live = true })
Calls o Leave a o2 = (a ≡ Done) × (o2 ≡ record { is_live = false; message = None })
Calls o (Post x) a o2 = (a ≡ Done) × (o2 ≡ Posts o.is_live o x)

abbrev pub reach_of_call : PostCall → Reach
reach_of_call Join = Nobody
reach_of_call Leave = Leavers
reach_of_call (Post x) = Nobody

abbrev pub post_rules : Rules NextMessage NextMessage PostCall ℕ
post_rules = record {
  Core = Posted;
  begins = λ o ask p. Begins o.is_live ask p;
  polls = λ o h a o2 p. Polls o.message o h a o2 p;
  ends = λ o h o2. o2 ≡ o;
  reach = reach_of_call;
  calls = Alone Calls;
  leaves = λ o call h. true;
  IsRequest = λ h. Unit {0};
  WakesItself = ⊥;
}

-- a post hands out the subscriber's waker, and a leave keeps it registered
abbrev pub poll_hands : {W : Type 0} → (W → W → Bool) → Option ℕ → List W → W → Handed (List W) W
poll_hands eq None reader w = registers eq reader w
poll_hands eq (Some x) reader w = nothing reader

abbrev pub post_hands : {W : Type 0} → Bool → List W → Handed (List W) W
post_hands true reader = hands_out reader
post_hands false reader = nothing reader

abbrev pub call_hands : {W : Type 0} → Posted → List W → PostCall → Handed (List W) W
call_hands o reader Join = nothing reader
call_hands o reader Leave = nothing reader
call_hands o reader (Post x) = post_hands o.is_live reader

abbrev pub post_wakings : {W : Type 0} → (W → W → Bool) → Wakings Posted NextMessage PostCall ℕ W
post_wakings {W} eq = record {
  Registered = List W;
  polls = λ o reader h w a p. poll_hands eq o.message reader w;
  ends = λ o reader h. nothing reader;
  calls = λ o reader call p a. call_hands o reader call;
}

-- the registered waker is owed to a request while there is no message
abbrev pub OwesReader : {W : Type 0} → (W → W → Bool) → Option ℕ → List W → W → Type 0
OwesReader eq message reader w = (message ≡ None) × IsAmong eq w reader

-- the two laws to be shown: a request that is owed a waker may be answered Pending, and then no other answer is allowed
pub post_idle : (o : Posted) (h : NextMessage) → o.message ≡ None → IsIdle post_rules o h
post_idle o h e = rw (e, Polls) (refl, refl, refl)

pending_at : (m : Option ℕ) (o : Posted) (h : NextMessage) (a : Answer ℕ) (o2 : Posted) (p : Option NextMessage) → Polls m o h Pending o (Some h) → Polls m o h a o2 p → (a ≡ Pending) × (o2 ≡ o) × (p ≡ Some h)
pending_at None o h a o2 p i k = k
pending_at (Some x) o h a o2 p i k = (let f = i.0 in absurd cc)

pub post_pending : IdleIsPending post_rules
post_pending o h a o2 p i k = pending_at o.message o h a o2 p i k
