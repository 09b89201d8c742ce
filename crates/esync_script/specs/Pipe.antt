-- The words of a pipe, and the text of what it tells.
use Rattle.std.specs.Prelude.{ℕ, suc, List, ◌++◌, codes, decimal, Option, None, Result, Ok, Err, if◌then◌else◌, []}
use Rattle.std.specs.Option.{option_map}
use Rattle.std.proofs.Common.{nat_eq}
use Rattle.esync_pipe.specs.declared.pipe.TryReadError.{TryReadError}
use Rattle.esync_pipe.specs.declared.pipe.TryReadError.TheVariants.{Empty}
use Rattle.esync_pipe.specs.declared.pipe.TryWriteError.TheVariants.{Full}
use Rattle.esync_pipe.specs.declared.pipe.machine.PipeAsk.{PipeAsk}
use Rattle.esync_pipe.specs.declared.pipe.machine.PipeAsk.TheVariants.{Write, WriteAll, Read, Fill}
use Rattle.esync_pipe.specs.declared.pipe.machine.PipeCall.{PipeCall}
use Rattle.esync_pipe.specs.declared.pipe.machine.PipeCall.TheVariants.{TryWrite, TryRead, TryFill, Consume, Clear, Len, FreeCapacity}
use Rattle.esync_pipe.specs.declared.pipe.machine.PipeHeard.{PipeHeard}
use Rattle.esync_pipe.specs.declared.pipe.machine.PipeHeard.TheVariants.{Wrote, WroteAll, HasRead, Filled, TryWrote, HasTriedRead, TryFilled, Number}
use Rattle.esync_words.specs.Words.{is_text, nothing, one, row, and_then, below}
use Rattle.esync_words.specs.Text.{bytes_text}
use Rattle.esync_base.specs.Ring.{Ringed}
use Rattle.esync_pipe.specs.PipeRules.{pipe_rules, pipe_wakings}
use Rattle.esync_pipe.specs.Piped.{Slots as PipeSlots}
use Rattle.esync_script.specs.Setting.{Setting, setting_of}

-- how many bytes a read asks for: at most so many
abbrev pub a_count : ℕ → List (List ℕ) → Option ℕ
a_count most words = and_then (one 64 words) (below (suc most))

abbrev pub pipe_asks : ℕ → List ℕ → List (List ℕ) → Option (PipeAsk (List ℕ))
pipe_asks most name words =
    if is_text name (codes "write") then option_map (λ b. Write b) (row most words)
    else if is_text name (codes "write-all") then option_map (λ b. WriteAll b) (row most words)
    else if is_text name (codes "read") then option_map (λ n. Read n) (a_count most words)
    else if is_text name (codes "fill") then option_map (λ x. Fill) (nothing words)
    else None

abbrev pub pipe_calls : ℕ → List ℕ → List (List ℕ) → Option (PipeCall (List ℕ))
pipe_calls most name words =
    if is_text name (codes "try-write") then option_map (λ b. TryWrite b) (row most words)
    else if is_text name (codes "try-read") then option_map (λ n. TryRead n) (a_count most words)
    else if is_text name (codes "try-fill") then option_map (λ x. TryFill) (nothing words)
    else if is_text name (codes "consume") then option_map (λ n. Consume n) (one 64 words)
    else if is_text name (codes "clear") then option_map (λ x. Clear) (nothing words)
    else if is_text name (codes "len") then option_map (λ x. Len) (nothing words)
    else if is_text name (codes "free") then option_map (λ x. FreeCapacity) (nothing words)
    else None

-- the bytes that a request hears
abbrev pub ready_text : List ℕ → List ℕ
ready_text bytes = codes "Ready(" ++ bytes_text bytes ++ codes ")"

-- the bytes that a call answers at once
abbrev pub tried_text : Result (List ℕ) TryReadError → List ℕ
tried_text (Ok bytes) = codes "Ok(" ++ bytes_text bytes ++ codes ")"
tried_text (Err Empty) = codes "Err(Empty)"

abbrev pub pipe_text : PipeHeard (List ℕ) → List ℕ
pipe_text (Wrote count) = codes "Ready(" ++ decimal count ++ codes ")"
pipe_text WroteAll = codes "Ready"
pipe_text (HasRead bytes) = ready_text bytes
pipe_text (Filled bytes) = ready_text bytes
pipe_text (TryWrote (Ok count)) = codes "Ok(" ++ decimal count ++ codes ")"
pipe_text (TryWrote (Err Full)) = codes "Err(Full)"
pipe_text (HasTriedRead tried) = tried_text tried
pipe_text (TryFilled tried) = tried_text tried
pipe_text (Number number) = decimal number

-- no byte, and no waker in either slot
abbrev pub an_empty_pipe : Ringed ℕ
an_empty_pipe = record { items = []; front = 0 }

abbrev pub no_slot : PipeSlots ℕ
no_slot = record { readers = []; writers = [] }

-- a pipe, whose steps hand out two wakers at most; a command writes or reads at most so many bytes
abbrev pub pipe_setting : ℕ → ℕ → Setting
pipe_setting most places = setting_of 2 (pipe_rules places) (pipe_wakings nat_eq places) (pipe_asks most) (pipe_calls most) pipe_text an_empty_pipe no_slot
