-- What a line says: a name and its words, and the commands that every machine has.
use Rattle.std.specs.Prelude.{ℕ, Bool, false, List, [], ◌∷◌, length, Option, None, if◌then◌else◌, nat_lt, codes}
use Rattle.std.specs.Str.{is_utf8}
use Rattle.esync_machine.specs.declared.primitive.Command.{Command}
use Rattle.esync_machine.specs.declared.primitive.Command.TheVariants.{Start, Poll, End, Call}
use Rattle.esync_words.specs.Words.{words_of, first_number, behind, and_then, one, two, is_text}
use Rattle.std.specs.Option.{option_map}

-- a text of at most so many bytes
abbrev pub is_readable : ℕ → List ℕ → Bool
is_readable longest line = if nat_lt longest (length line) then false else is_utf8 line

abbrev pub named : {C : Type 0} → (List ℕ → List (List ℕ) → Option C) → List (List ℕ) → Option C
named said [] = None
named said (name ∷ words) = said name words

-- what a line of at most so many bytes says, if `said` reads a name with the words behind it
abbrev pub says : {C : Type 0} → ℕ → (List ℕ → List (List ℕ) → Option C) → List ℕ → Option C
says longest said line = if is_readable longest line then named said (words_of line) else None

-- A command of a primitive whose asks and calls are read by these two functions.
module _ {Ask Calls : Type 0} (asks : List ℕ → List (List ℕ) → Option Ask) (calls : List ℕ → List (List ℕ) → Option Calls) where
  abbrev pub start_at : ℕ → List ℕ → List (List ℕ) → Option (Command Ask ℕ Calls)
  start_at r name words = option_map (λ ask. Start r ask) (asks name words)

  abbrev pub start : List (List ℕ) → Option (Command Ask ℕ Calls)
  start words = and_then (first_number 64 words) (λ r. named (start_at r) (behind words))

  abbrev pub command : List ℕ → List (List ℕ) → Option (Command Ask ℕ Calls)
  command name words =
      if is_text name (codes "start") then start words
      else if is_text name (codes "poll") then option_map (λ p. Poll p.0 p.1) (two 64 64 words)
      else if is_text name (codes "end") then option_map (λ r. End r) (one 64 words)
      else option_map (λ call. Call call) (calls name words)
