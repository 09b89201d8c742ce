use Rattle.std.specs.Prelude.{ℕ, List, ◌++◌, codes, decimal}
use Rattle.esync_words.specs.declared.fault.Fault.{Fault}
use Rattle.esync_words.specs.declared.fault.Fault.TheVariants.{NotACommand, InputOutput, OutOfMemory}

-- the status of a script that ends with a fault
abbrev pub status_of : Fault → ℕ
status_of (NotACommand _) = 2
status_of InputOutput = 3
status_of OutOfMemory = 4

-- what is written to the errors of a script that ends with a fault
abbrev pub message_of : Fault → List ℕ
message_of (NotACommand number) = codes "line " ++ decimal number ++ codes ": not a command"
message_of InputOutput = codes "input or output failed"
message_of OutOfMemory = codes "out of memory"
