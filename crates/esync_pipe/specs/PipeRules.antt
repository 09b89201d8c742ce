-- What a pipe of n places allows for each request and each call, and which wakers it hands out. The rows of answers
-- have room for all bytes that the pipe holds.
use Rattle.std.specs.Prelude.{◌≡◌, ℕ, ◌+◌, min, Bool, true, false, not, ◌&&◌, List, [], length, take, drop, Option, Some, None, Result, Ok, Err, nat_lt}
use Rattle.esync_base.specs.Ring.{Ringed}
use Rattle.esync_pipe.specs.Piped.{Slots}
use Rattle.esync_pipe.specs.Pipe.{behind, without, puts, shown, Writes, is_empty, is_full, out_if, left_if, slots_after_write, wakes_of_write, slots_after_read, wakes_of_read, slots_after_fill, wakes_of_fill, slots_after_write_all, wakes_of_write_all}
use Rattle.esync_pipe.specs.declared.pipe.TryReadError.{TryReadError}
use Rattle.esync_pipe.specs.declared.pipe.TryWriteError.{TryWriteError}
use Rattle.esync_machine.specs.declared.primitive.Answer.{Answer}
use Rattle.esync_machine.specs.declared.primitive.Answer.TheVariants.{Done, Pending, NoSuch, Gives}
use Rattle.esync_machine.specs.Rules.{Rules, asked_rules}
use Rattle.esync_machine.specs.Wakings.{Wakings, Handed, nothing}
use Rattle.esync_pipe.specs.declared.pipe.machine.PipeAsk.{PipeAsk}
use Rattle.esync_pipe.specs.declared.pipe.machine.PipeAsk.TheVariants.{Write, WriteAll, Read, Fill}
use Rattle.esync_pipe.specs.declared.pipe.machine.PipeCall.{PipeCall}
use Rattle.esync_pipe.specs.declared.pipe.machine.PipeCall.TheVariants.{TryWrite, TryRead, TryFill, Consume, Clear, Len, FreeCapacity}
use Rattle.esync_pipe.specs.declared.pipe.machine.PipeHeard.{PipeHeard}
use Rattle.esync_pipe.specs.declared.pipe.machine.PipeHeard.TheVariants.{Wrote, WroteAll, HasRead, Filled, TryWrote, HasTriedRead, TryFilled, Number}

-- how many bytes a read of at most k takes
abbrev pub taken : Ringed ℕ → ℕ → ℕ
taken o k = min k (length o.items)

module _ (n : ℕ) where
  -- the request waits, and nothing changes
  abbrev pub Waits : Ringed ℕ → PipeAsk (List ℕ) → Answer (PipeHeard (List ℕ)) → Ringed ℕ → Option (PipeAsk (List ℕ)) → Type 0
  Waits o ask a o2 p = (a ≡ Pending) × (o2 ≡ o) × (p ≡ Some ask)

  -- the request is over, and hears this
  abbrev pub Hears : PipeHeard (List ℕ) → Ringed ℕ → Answer (PipeHeard (List ℕ)) → Ringed ℕ → Option (PipeAsk (List ℕ)) → Type 0
  Hears heard after a o2 p = (a ≡ Gives heard) × (o2 ≡ after) × (p ≡ None)

  -- a write into a pipe that is full, or isn't
  abbrev pub PollsWrite : Ringed ℕ → List ℕ → Bool → Answer (PipeHeard (List ℕ)) → Ringed ℕ → Option (PipeAsk (List ℕ)) → Type 0
  PollsWrite o bytes true a o2 p = Waits o (Write bytes) a o2 p
  PollsWrite o bytes false a o2 p = Hears (Wrote (puts n o bytes)) (behind o (take (puts n o bytes) bytes)) a o2 p

  -- a write of all, by whether some bytes are left: if so, the pipe is full then
  abbrev pub PollsWriteAll : Ringed ℕ → List ℕ → Bool → Answer (PipeHeard (List ℕ)) → Ringed ℕ → Option (PipeAsk (List ℕ)) → Type 0
  PollsWriteAll o bytes true a o2 p =
      (a ≡ Pending) × (o2 ≡ behind o (take (puts n o bytes) bytes)) × (p ≡ Some (WriteAll (drop (puts n o bytes) bytes))) × (is_full n o2 ≡ true)
  PollsWriteAll o bytes false a o2 p = Hears WroteAll (behind o bytes) a o2 p

  -- a read from a pipe that is empty, or isn't
  abbrev pub PollsRead : Ringed ℕ → ℕ → Bool → Answer (PipeHeard (List ℕ)) → Ringed ℕ → Option (PipeAsk (List ℕ)) → Type 0
  PollsRead o k true a o2 p = Waits o (Read k) a o2 p
  PollsRead o k false a o2 p = Hears (HasRead (take (taken o k) o.items)) (without n o (taken o k)) a o2 p

  abbrev pub PollsFill : Ringed ℕ → Bool → Answer (PipeHeard (List ℕ)) → Ringed ℕ → Option (PipeAsk (List ℕ)) → Type 0
  PollsFill o true a o2 p = Waits o Fill a o2 p
  PollsFill o false a o2 p = Hears (Filled (shown n o)) o a o2 p

  abbrev pub Polls : Ringed ℕ → PipeAsk (List ℕ) → Answer (PipeHeard (List ℕ)) → Ringed ℕ → Option (PipeAsk (List ℕ)) → Type 0
  Polls o (Write bytes) a o2 p = PollsWrite o bytes (is_full n o) a o2 p
  Polls o (WriteAll bytes) a o2 p = PollsWriteAll o bytes (nat_lt (puts n o bytes) (length bytes)) a o2 p
  Polls o (Read k) a o2 p = PollsRead o k (is_empty o) a o2 p
  Polls o Fill a o2 p = PollsFill o (is_empty o) a o2 p

  -- a read of at most k bytes, which is refused if the pipe is empty
  abbrev pub TakesOut : Ringed ℕ → ℕ → Result (List ℕ) TryReadError → Ringed ℕ → Type 0
  TakesOut o k (Ok bytes) o2 = (is_empty o ≡ false) × (bytes ≡ take (taken o k) o.items) × (o2 ≡ without n o (taken o k))
  TakesOut o k (Err e) o2 = (is_empty o ≡ true) × (o2 ≡ o)

  -- a fill, which is refused if the pipe is empty
  abbrev pub Fills : Ringed ℕ → Result (List ℕ) TryReadError → Ringed ℕ → Type 0
  Fills o (Ok bytes) o2 = (is_empty o ≡ false) × (bytes ≡ shown n o) × (o2 ≡ o)
  Fills o (Err e) o2 = (is_empty o ≡ true) × (o2 ≡ o)

  -- a consume of more bytes than a fill shows names what isn't there
  abbrev pub Consumes : Ringed ℕ → ℕ → Bool → Answer (PipeHeard (List ℕ)) → Ringed ℕ → Type 0
  Consumes o k true a o2 = (a ≡ NoSuch) × (o2 ≡ o)
  Consumes o k false a o2 = (a ≡ Done) × (o2 ≡ without n o k)

  abbrev pub Calls : Ringed ℕ → PipeCall (List ℕ) → Answer (PipeHeard (List ℕ)) → Ringed ℕ → Type 0
  Calls o (TryWrite bytes) a o2 = (done : Result ℕ TryWriteError) × (a ≡ Gives (TryWrote done)) × Writes n o bytes done o2
  Calls o (TryRead k) a o2 = (done : Result (List ℕ) TryReadError) × (a ≡ Gives (HasTriedRead done)) × TakesOut o k done o2
  Calls o TryFill a o2 = (done : Result (List ℕ) TryReadError) × (a ≡ Gives (TryFilled done)) × Fills o done o2
  Calls o (Consume k) a o2 = Consumes o k (nat_lt (length (shown n o)) k) a o2
  Calls o Clear a o2 = (a ≡ Done) × (o2 ≡ record { items = []; front = 0 })
  Calls o Len a o2 = (a ≡ Gives (Number (length o.items))) × (o2 ≡ o)
  Calls o FreeCapacity a o2 = (free : ℕ) × (a ≡ Gives (Number free)) × (free + length o.items ≡ n) × (o2 ≡ o)

  -- the object is the list of the bytes that are held, with the place of the oldest
  abbrev pub pipe_rules : Rules (PipeAsk (List ℕ)) (PipeAsk (List ℕ)) (PipeCall (List ℕ)) (PipeHeard (List ℕ))
  pipe_rules = asked_rules Polls Calls

module _ {W : Type 0} (eq : W → W → Bool) (n : ℕ) where
  -- the wakes of a write, with a waker or without
  abbrev pub write_hands : Ringed ℕ → Option W → Slots W → Handed (Slots W) W
  write_hands o w s = record { wakes = wakes_of_write eq o w (not (is_full n o)) s; after = slots_after_write eq o w (not (is_full n o)) s }

  abbrev pub read_hands : Ringed ℕ → Option W → Slots W → Handed (Slots W) W
  read_hands o w s = record { wakes = wakes_of_read eq n o w (not (is_empty o)) s; after = slots_after_read eq n o w (not (is_empty o)) s }

  abbrev pub fill_hands : Ringed ℕ → Option W → Slots W → Handed (Slots W) W
  fill_hands o w s = record { wakes = wakes_of_fill eq w (not (is_empty o)) s; after = slots_after_fill eq w (not (is_empty o)) s }

  abbrev pub poll_hands : Ringed ℕ → Slots W → PipeAsk (List ℕ) → W → Handed (Slots W) W
  poll_hands o s (Write bytes) w = write_hands o (Some w) s
  poll_hands o s (WriteAll bytes) w = record {
    wakes = wakes_of_write_all eq o (puts n o bytes) (length bytes) w s;
    after = slots_after_write_all eq o (puts n o bytes) (length bytes) w s;
  }
  poll_hands o s (Read k) w = read_hands o (Some w) s
  poll_hands o s Fill w = fill_hands o (Some w) s

  -- a try registers no waker, and a consume from a full pipe makes room
  abbrev pub call_hands : Ringed ℕ → Slots W → PipeCall (List ℕ) → Handed (Slots W) W
  call_hands o s (TryWrite bytes) = write_hands o None s
  call_hands o s (TryRead k) = read_hands o None s
  call_hands o s TryFill = nothing s
  call_hands o s (Consume k) = record {
    wakes = out_if (nat_lt 0 k && is_full n o) s.writers;
    after = record s { writers = left_if (nat_lt 0 k && is_full n o) s.writers };
  }
  call_hands o s Clear = record { wakes = s.writers; after = record s { writers = [] } }
  call_hands o s Len = nothing s
  call_hands o s FreeCapacity = nothing s

  -- at most one waker is registered in each slot
  abbrev pub pipe_wakings : Wakings (Ringed ℕ) (PipeAsk (List ℕ)) (PipeCall (List ℕ)) (PipeHeard (List ℕ)) W
  pipe_wakings = record {
    Registered = Slots W;
    polls = λ o s ask w a p. poll_hands o s ask w;
    ends = λ o s ask. nothing s;
    calls = λ o s call p a. call_hands o s call;
  }
