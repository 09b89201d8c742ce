-- The outcome of a script.
use Rattle.std.specs.Prelude.{ℕ, Result, Ok, Err}
use Rattle.esync_words.specs.declared.fault.Fault.{Fault}
use Rattle.esync_words.specs.declared.fault.Fault.TheVariants.{NotACommand, InputOutput, OutOfMemory}

-- the number of the line that is no command, or 0
abbrev pub line_of : Result (Unit {0}) Fault → ℕ
line_of (Ok _) = 0
line_of (Err (NotACommand number)) = number
line_of (Err InputOutput) = 0
line_of (Err OutOfMemory) = 0
