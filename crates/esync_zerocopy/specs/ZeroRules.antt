-- What a zero-copy channel allows, and which wakers it hands out: for each request and each call.
use Rattle.std.specs.Prelude.{◌≡◌, ℕ, Bool, true, false, List, [], ◌∷◌, Option, Some, None, Ok, Err, length, slice_get}
use Rattle.esync_base.specs.Registration.{registered, displaced}
use Rattle.esync_machine.specs.declared.primitive.Answer.{Answer}
use Rattle.esync_machine.specs.declared.primitive.Answer.TheVariants.{Done, Pending, NoSuch, Gives}
use Rattle.esync_machine.specs.Rules.{Rules, asked_rules}
use Rattle.esync_machine.specs.Wakings.{Wakings, Handed, nothing, is_pending}
use Rattle.esync_zerocopy.specs.Slots.{Waiting, before, is_out, with_out, other, done_by, all_spare, count, waits_at, with_waits}
use Rattle.esync_zerocopy.specs.Lending.{Slots, first_written}
use Rattle.esync_zerocopy.specs.declared.zerocopy_channel.Side.{Side}
use Rattle.esync_zerocopy.specs.declared.zerocopy_channel.Side.TheVariants.{Sender, Receiver}
use Rattle.esync_zerocopy.specs.declared.zerocopy_channel.machine.Lent.{Lent}
use Rattle.esync_zerocopy.specs.declared.zerocopy_channel.machine.Lent.TheVariants.{Spare, Held}
use Rattle.esync_zerocopy.specs.declared.zerocopy_channel.machine.ZeroCall.{ZeroCall}
use Rattle.esync_zerocopy.specs.declared.zerocopy_channel.machine.ZeroCall.TheVariants.{Try, Write, Done as IsDone, EndLoan, Clear, Len, FreeCapacity}
use Rattle.esync_zerocopy.specs.declared.zerocopy_channel.machine.ZeroHeard.{ZeroHeard}
use Rattle.esync_zerocopy.specs.declared.zerocopy_channel.machine.ZeroHeard.TheVariants.{Lends, Tried, Cleared, Count}

module _ {T : Type 0} where
  -- a sender is told the number of its slot, and a receiver the number and the value
  abbrev pub spare_slot : List ℕ → Option (Lent T)
  spare_slot [] = None
  spare_slot (i ∷ is) = Some (Spare i)

  abbrev pub held_with : ℕ → Option T → Option (Lent T)
  held_with i None = None
  held_with i (Some v) = Some (Held i v)

  abbrev pub held_slot : List ℕ → List T → Option (Lent T)
  held_slot [] values = None
  held_slot (i ∷ is) values = held_with i (slice_get values i)

  -- the slot that a side is lent, if it has one
  abbrev pub lent_to : Side → Slots T → Option (Lent T)
  lent_to Sender s = spare_slot s.sides.spare
  lent_to Receiver s = held_slot s.sides.held s.values

  -- the slots after a side's slot was marked as out, or as in
  abbrev pub out_of : Side → Bool → Slots T → Slots T
  out_of side out s = record { sides = with_out side out s.sides; values = s.values }

  -- a poll, and a try, by the slot that is lent
  abbrev pub PollsLent : Option (Lent T) → Slots T → Side → Answer (ZeroHeard T) → Slots T → Option Side → Type 0
  PollsLent None s side a s2 p = (a ≡ Pending) × (s2 ≡ s) × (p ≡ Some side)
  PollsLent (Some lent) s side a s2 p = (a ≡ Gives (Lends lent)) × (s2 ≡ out_of side true s) × (p ≡ None)

  abbrev pub Polls : Slots T → Side → Answer (ZeroHeard T) → Slots T → Option Side → Type 0
  Polls s side a s2 p = PollsLent (lent_to side s) s side a s2 p

  abbrev pub TriesLent : Option (Lent T) → Slots T → Side → Answer (ZeroHeard T) → Slots T → Type 0
  TriesLent None s side a s2 = (a ≡ Gives (Tried None)) × (s2 ≡ s)
  TriesLent (Some lent) s side a s2 = (a ≡ Gives (Tried (Some lent))) × (s2 ≡ out_of side true s)

  -- a write into the sender's slot, by whether that slot is out
  abbrev pub Writes : Bool → T → Slots T → Answer (ZeroHeard T) → Slots T → Type 0
  Writes true v s a s2 = (a ≡ Done) × (s2 ≡ record { sides = s.sides; values = first_written s.sides.spare s.values v })
  Writes false v s a s2 = (a ≡ NoSuch) × (s2 ≡ s)

  -- a side is done with its next slot, by the slots before it
  abbrev pub IsDoneBy : List ℕ → Side → Slots T → Answer (ZeroHeard T) → Slots T → Type 0
  IsDoneBy [] side s a s2 = (a ≡ NoSuch) × (s2 ≡ s)
  IsDoneBy (i ∷ is) side s a s2 = (a ≡ Done) × (s2 ≡ record { sides = done_by side s.sides; values = s.values })

  -- the end of a loan, by whether the side's slot is out
  abbrev pub EndsLoan : Bool → Side → Slots T → Answer (ZeroHeard T) → Slots T → Type 0
  EndsLoan true side s a s2 = (a ≡ Done) × (s2 ≡ out_of side false s)
  EndsLoan false side s a s2 = (a ≡ NoSuch) × (s2 ≡ s)

  -- a clear, by whether the opposite side's slot is out
  abbrev pub Clears : Bool → Slots T → Answer (ZeroHeard T) → Slots T → Type 0
  Clears true s a s2 = (a ≡ Gives (Cleared (Err (record {})))) × (s2 ≡ s)
  Clears false s a s2 = (a ≡ Gives (Cleared (Ok tt))) × (s2 ≡ record { sides = all_spare (count s.sides); values = s.values })

  abbrev pub Calls : Slots T → ZeroCall T → Answer (ZeroHeard T) → Slots T → Type 0
  Calls s (Try side) a s2 = TriesLent (lent_to side s) s side a s2
  Calls s (Write v) a s2 = Writes s.sides.sending v s a s2
  Calls s (IsDone side) a s2 = IsDoneBy (before side s.sides) side s a s2
  Calls s (EndLoan side) a s2 = EndsLoan (is_out side s.sides) side s a s2
  Calls s (Clear side) a s2 = Clears (is_out (other side) s.sides) s a s2
  Calls s Len a s2 = (a ≡ Gives (Count (length s.sides.held))) × (s2 ≡ s)
  Calls s FreeCapacity a s2 = (a ≡ Gives (Count (length s.sides.spare))) × (s2 ≡ s)

-- the object is the slots with their values, and a request is a side that waits for its next slot
abbrev pub zero_rules : (T : Type 0) → Rules Side Side (ZeroCall T) (ZeroHeard T)
zero_rules T = asked_rules Polls Calls

-- a poll that isn't granted registers its waker; a slot handed on, or a clear, hands out the waker that waits for it
abbrev pub poll_hands : {W : Type 0} → (W → W → Bool) → Side → Waiting W → W → Bool → Handed (Waiting W) W
poll_hands eq side g w true = record { wakes = displaced eq 1 (waits_at side g) w; after = with_waits side (registered eq 1 (waits_at side g) w) g }
poll_hands eq side g w false = nothing g

abbrev pub hands_out_at : {W : Type 0} → Side → Waiting W → Handed (Waiting W) W
hands_out_at side g = record { wakes = waits_at side g; after = with_waits side [] g }

abbrev pub clear_hands : {W : Type 0} → Bool → Waiting W → Handed (Waiting W) W
clear_hands true g = nothing g
clear_hands false g = hands_out_at Sender g

module _ {T W : Type 0} where
  abbrev pub call_hands : Slots T → Waiting W → ZeroCall T → Handed (Waiting W) W
  call_hands s g (Try side) = nothing g
  call_hands s g (Write v) = nothing g
  call_hands s g (IsDone side) = hands_out_at (other side) g
  call_hands s g (EndLoan side) = nothing g
  call_hands s g (Clear side) = clear_hands (is_out (other side) s.sides) g
  call_hands s g Len = nothing g
  call_hands s g FreeCapacity = nothing g

  -- at most one waker is registered for each side
  abbrev pub zero_wakings : (W → W → Bool) → Wakings (Slots T) Side (ZeroCall T) (ZeroHeard T) W
  zero_wakings eq = record {
    Registered = Waiting W;
    polls = λ s g side w a p. poll_hands eq side g w (is_pending a);
    ends = λ s g side. nothing g;
    calls = λ s g call p a. call_hands s g call;
  }
