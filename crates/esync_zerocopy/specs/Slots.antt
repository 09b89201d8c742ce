-- Slots that one side writes and another reads where they stand: which are spare, which are held, and whose is out.
use Rattle.std.specs.Prelude.{◌≡◌, ℕ, zero, suc, ◌+◌, Bool, true, false, List, [], ◌∷◌, ◌++◌, Option, Some, None, Result, Ok, Err, take, drop, length, slice_get, refl}
use Rattle.std.specs.List.Sorted.{IsPermutation}
use Rattle.std.specs.Coded.{Coded, code_by, coded×, coded_list, coded_ℕ, coded_bool}
use Rattle.esync_base.specs.Registration.{registered, displaced}
use Rattle.esync_base.specs.Ring.{next, slot}
use Rattle.esync_zerocopy.specs.declared.zerocopy_channel.Side.{Side}
use Rattle.esync_zerocopy.specs.declared.zerocopy_channel.Side.TheVariants.{Sender, Receiver}
use Rattle.esync_zerocopy.specs.declared.zerocopy_channel.SlotLent.{SlotLent}

-- the numbers of the slots, each once
pub record Sides : Type 0 where
  -- the slots that can be written, the next one first
  pub spare : List ℕ
  -- the slots with a message, the oldest first
  pub held : List ℕ
  -- whether the sender's slot, which is the first spare one, is out
  pub sending : Bool
  -- whether the receiver's slot, which is the first held one, is out
  pub receiving : Bool

abbrev pub sides_code : Coded Sides
sides_code =
    code_by (List ℕ × (List ℕ × (Bool × Bool))) (coded× (coded_list coded_ℕ) (coded× (coded_list coded_ℕ) (coded× coded_bool coded_bool)))
    (λ s. (s.spare, (s.held, (s.sending, s.receiving))))
    (λ p. record { spare = p.0; held = p.1.0; sending = p.1.1.0; receiving = p.1.1.1 })
    (λ _. refl)

-- the wakers of the sides that wait for a slot, at most one of each side
pub record Waiting (W : Type 0) : Type 0 where
  -- the waker of a sender that waits for a spare slot
  pub senders : List W
  -- the waker of a receiver that waits for a held slot
  pub receivers : List W

-- the slots, and the wakers of the sides that wait for one
pub record Turning (W : Type 0) : Type 0 where
  pub sides : Sides
  pub waiting : Waiting W

abbrev pub waiting_code : {W : Type 0} → Coded W → Coded (Waiting W)
waiting_code {W} w =
    code_by (List W × List W) (coded× (coded_list w) (coded_list w)) (λ a. (a.senders, a.receivers)) (λ p. record { senders = p.0; receivers = p.1 }) (λ _. refl)

abbrev pub turning_code : {W : Type 0} → Coded W → Coded (Turning W)
turning_code {W} w =
    code_by (Sides × Waiting W) (coded× sides_code (waiting_code w)) (λ t. (t.sides, t.waiting)) (λ p. record { sides = p.0; waiting = p.1 }) (λ _. refl)

-- n numbers, counted up from i
abbrev pub numbers_from : ℕ → ℕ → List ℕ
numbers_from i zero = []
numbers_from i (suc k) = i ∷ numbers_from (i + 1) k

-- n slots, all spare and none out
abbrev pub all_spare : ℕ → Sides
all_spare n = record { spare = numbers_from 0 n; held = []; sending = false; receiving = false }

-- how many slots there are
abbrev pub count : Sides → ℕ
count s = length s.spare + length s.held

-- each slot stands once in one of the two lists, so no slot is next, or lent, on both sides
pub record EachOnce (s : Sides) : Type 0 where
  pub all : IsPermutation (numbers_from 0 (count s)) (s.spare ++ s.held)
  pub apart : (i : ℕ) → slice_get s.spare 0 ≡ Some i → slice_get s.held 0 ≡ Some i → ⊥

abbrev pub other : Side → Side
other Sender = Receiver
other Receiver = Sender

-- the slots that a side has before it, its next one first
abbrev pub before : Side → Sides → List ℕ
before Sender s = s.spare
before Receiver s = s.held

-- whether a side's slot is out
abbrev pub is_out : Side → Sides → Bool
is_out Sender s = s.sending
is_out Receiver s = s.receiving

-- the slots after a side's slot was marked as out, or as in
abbrev pub with_out : Side → Bool → Sides → Sides
with_out Sender out s = record s { sending = out }
with_out Receiver out s = record s { receiving = out }

-- the slots after a side tried to take its next one out, by whether it has one
abbrev pub out_if : {A : Type 0} → Option A → Side → Sides → Sides
out_if None side s = s
out_if (Some x) side s = with_out side true s

-- the slots after a side is done with its next one, which goes behind the opposite side's slots and is out no more
abbrev pub done_by : Side → Sides → Sides
done_by Sender s = record s { spare = drop 1 s.spare; held = s.held ++ take 1 s.spare; sending = false }
done_by Receiver s = record s { held = drop 1 s.held; spare = s.spare ++ take 1 s.held; receiving = false }

-- what a clear answers, by whether the opposite side's slot is out
abbrev pub cleared : Bool → Result (Unit {0}) SlotLent
cleared true = Err (record {})
cleared false = Ok tt

-- the slots after a clear, by whether it was granted
abbrev pub cleared_if : Bool → Sides → Sides
cleared_if true s = all_spare (count s)
cleared_if false s = s

module _ {W : Type 0} where
  -- the waker that is registered for a side
  abbrev pub waits_at : Side → Waiting W → List W
  waits_at Sender w = w.senders
  waits_at Receiver w = w.receivers

  abbrev pub with_waits : Side → List W → Waiting W → Waiting W
  with_waits Sender ws w = record w { senders = ws }
  with_waits Receiver ws w = record w { receivers = ws }

  -- the wakers after a poll of a side: without a slot for it, its own waker registers
  abbrev pub waiting_unless : {A : Type 0} → (W → W → Bool) → Option A → Side → W → Waiting W → Waiting W
  waiting_unless eq None side w waiting = with_waits side (registered eq 1 (waits_at side waiting) w) waiting
  waiting_unless eq (Some x) side w waiting = waiting

  abbrev pub wakes_unless : {A : Type 0} → (W → W → Bool) → Option A → Side → W → Waiting W → List W
  wakes_unless eq None side w waiting = displaced eq 1 (waits_at side waiting) w
  wakes_unless eq (Some x) side w waiting = []

  -- the wakers after a clear, by whether it was granted, and those that it hands out
  abbrev pub waiting_if_cleared : Bool → Waiting W → Waiting W
  waiting_if_cleared true w = record w { senders = [] }
  waiting_if_cleared false w = w

  abbrev pub wakes_if_cleared : Bool → Waiting W → List W
  wakes_if_cleared true w = w.senders
  wakes_if_cleared false w = []

-- n numbers of a ring, counted up from i
abbrev pub ring_from : ℕ → ℕ → ℕ → List ℕ
ring_from n i zero = []
ring_from n i (suc k) = i ∷ ring_from n (next n i) k

-- two runs of numbers that lie round a ring of n, each behind its predecessor
pub record IsRound (n first many first2 many2 : ℕ) : Type 0 where
  pub behind : slot n first many ≡ first2
  pub behind2 : slot n first2 many2 ≡ first
  pub all : many + many2 ≡ n
