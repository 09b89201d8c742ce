-- What was written comes out in order, and sizes add up. This is told of the commands and their answers alone.
use Rattle.std.specs.Prelude.{◌≡◌, ℕ, ◌+◌, ◌-◌, min, List, [], ◌∷◌, ◌++◌, length, take, drop, Option, Some, None, Ok}
use Rattle.esync_machine.specs.Account.{account, ask_of, asked_from, asked_after}
use Rattle.esync_machine.specs.Sizes.{SizesAddUp as AddUpInRun}
use Rattle.esync_machine.specs.declared.run.Reply.{Reply}
use Rattle.esync_machine.specs.declared.primitive.Answer.{Answer}
use Rattle.esync_machine.specs.declared.primitive.Answer.TheVariants.{Done, Pending, Gives}
use Rattle.esync_machine.specs.declared.primitive.Command.{Command}
use Rattle.esync_machine.specs.declared.primitive.Command.TheVariants.{Poll, Call}
use Rattle.esync_pipe.specs.declared.pipe.machine.PipeAsk.{PipeAsk}
use Rattle.esync_pipe.specs.declared.pipe.machine.PipeAsk.TheVariants.{Write, WriteAll, Read, Fill}
use Rattle.esync_pipe.specs.declared.pipe.machine.PipeCall.{PipeCall}
use Rattle.esync_pipe.specs.declared.pipe.machine.PipeCall.TheVariants.{TryWrite, TryRead, Consume, Clear, Len, FreeCapacity}
use Rattle.esync_pipe.specs.declared.pipe.machine.PipeHeard.{PipeHeard}
use Rattle.esync_pipe.specs.declared.pipe.machine.PipeHeard.TheVariants.{Wrote, WroteAll, HasRead, TryWrote, HasTriedRead, Number}

-- what is known of a pipe from its commands and answers
pub record Account : Type 0 where
  -- what each request still asks for
  pub asked : List (ℕ × PipeAsk (List ℕ))
  -- the bytes that were written, in order
  pub written : List ℕ
  -- the bytes that were read, consumed or cleared, in order
  pub taken : List ℕ

-- the bytes that a request was started to write
abbrev pub bytes_of : Option (PipeAsk (List ℕ)) → List ℕ
bytes_of (Some (Write bytes)) = bytes
bytes_of (Some (WriteAll bytes)) = bytes
bytes_of (Some (Read count)) = []
bytes_of (Some Fill) = []
bytes_of None = []

-- held counts the bytes that were written and not taken
abbrev pub IsHeld : Account → ℕ → Type 0
IsHeld k held = held + length k.taken ≡ length k.written

-- A pipe of n places.
module _ (n : ℕ) where
  -- as many of the bytes as there is room for: what was written and not taken fills the pipe
  abbrev pub room_for : Account → List ℕ → ℕ
  room_for k bytes = min (length bytes) (n - (length k.written - length k.taken))

  -- a write of all that hears Pending has written as many of its bytes as there was room for
  abbrev pub written_meanwhile : Account → Option (PipeAsk (List ℕ)) → List ℕ
  written_meanwhile k (Some (WriteAll bytes)) = take (room_for k bytes) bytes
  written_meanwhile k (Some (Write bytes)) = []
  written_meanwhile k (Some (Read count)) = []
  written_meanwhile k (Some Fill) = []
  written_meanwhile k None = []

  -- a write of all that hears Pending asks for the rest of its bytes
  abbrev pub asked_meanwhile : Account → ℕ → Option (PipeAsk (List ℕ)) → List (ℕ × PipeAsk (List ℕ))
  asked_meanwhile k r (Some (WriteAll bytes)) = (r, WriteAll (drop (room_for k bytes) bytes)) ∷ k.asked
  asked_meanwhile k r (Some (Write bytes)) = k.asked
  asked_meanwhile k r (Some (Read count)) = k.asked
  asked_meanwhile k r (Some Fill) = k.asked
  asked_meanwhile k r None = k.asked

  -- what the requests ask for after a command and its answer
  abbrev pub asked_then : {W : Type 0} → Account → Command (PipeAsk (List ℕ)) W (PipeCall (List ℕ)) → Answer (PipeHeard (List ℕ)) → List (ℕ × PipeAsk (List ℕ))
  asked_then k (Poll r w) Pending = asked_meanwhile k r (ask_of k.asked r)
  asked_then k c a = asked_after k.asked c a

  -- the bytes that were written, after a command and its answer
  abbrev pub written_after : {W : Type 0} → Account → Command (PipeAsk (List ℕ)) W (PipeCall (List ℕ)) → Answer (PipeHeard (List ℕ)) → List ℕ
  written_after k (Poll r w) (Gives (Wrote count)) = k.written ++ take count (bytes_of (ask_of k.asked r))
  written_after k (Poll r w) (Gives WroteAll) = k.written ++ bytes_of (ask_of k.asked r)
  written_after k (Poll r w) Pending = k.written ++ written_meanwhile k (ask_of k.asked r)
  written_after k (Call (TryWrite bytes)) (Gives (TryWrote (Ok count))) = k.written ++ take count bytes
  written_after k _ _ = k.written

  -- the bytes that were taken, after a command and its answer: a clear takes all that were written and not taken
  abbrev pub taken_after : {W : Type 0} → Account → Command (PipeAsk (List ℕ)) W (PipeCall (List ℕ)) → Answer (PipeHeard (List ℕ)) → List ℕ
  taken_after k (Poll r w) (Gives (HasRead bytes)) = k.taken ++ bytes
  taken_after k (Call (TryRead count)) (Gives (HasTriedRead (Ok bytes))) = k.taken ++ bytes
  taken_after k (Call (Consume count)) Done = k.taken ++ take count (drop (length k.taken) k.written)
  taken_after k (Call Clear) Done = k.taken ++ drop (length k.taken) k.written
  taken_after k _ _ = k.taken

  abbrev pub after : {W : Type 0} → Account → Command (PipeAsk (List ℕ)) W (PipeCall (List ℕ)) → Answer (PipeHeard (List ℕ)) → Account
  after k c a = record { asked = asked_then k c a; written = written_after k c a; taken = taken_after k c a }

  -- what is known at first of a pipe with these requests that holds these bytes
  abbrev pub at_first : List (Option (PipeAsk (List ℕ))) → List ℕ → Account
  at_first requests held = record { asked = asked_from 0 requests; written = held; taken = [] }

  -- A pipe with these requests holds these bytes at first, and those at last. The bytes that were taken, and then those
  -- held at last, are those held at first and those that were written since, in order.
  abbrev pub InOrder : {W : Type 0} {K : ℕ} → List (Option (PipeAsk (List ℕ))) → List ℕ → List (Command (PipeAsk (List ℕ)) W (PipeCall (List ℕ))) → List (Reply (Answer (PipeHeard (List ℕ))) W K) → List ℕ → Type 0
  InOrder requests held commands replies held2 =
      let k = account (λ k c a. after k c a.answer) (at_first requests held) commands replies in
      k.taken ++ held2 ≡ k.written

  -- the sizes add up in a run of a pipe that has these requests and bytes at first
  abbrev pub SizesAddUp : {W : Type 0} {K : ℕ} → List (Option (PipeAsk (List ℕ))) → List ℕ → List (Command (PipeAsk (List ℕ)) W (PipeCall (List ℕ))) → List (Reply (Answer (PipeHeard (List ℕ))) W K) → Type 0
  SizesAddUp requests held commands replies = AddUpInRun Len FreeCapacity Number n IsHeld after (at_first requests held) commands replies
