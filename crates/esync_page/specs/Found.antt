-- What a page is told of a recorded run.
use Rattle.std.specs.Prelude.{◌≡◌, ℕ, Bool, true, false, List, take, Err}
use Rattle.esync_words.specs.Fault.{status_of}
use Rattle.esync_check.specs.Checked.{IsRun, IsAnother}
use Rattle.esync_check.specs.declared.Verdict.{Verdict}
use Rattle.esync_check.specs.declared.Verdict.TheVariants.{Run, Another}
use Rattle.esync_check.specs.declared.fault.Unchecked.{Unchecked}
use Rattle.esync_check.specs.declared.fault.Unchecked.TheVariants.{NoReply, Script}
use Rattle.esync_page.specs.declared.found.Found.{Found}
use Rattle.esync_page.specs.declared.row.Row.{Row}
use Rattle.esync_page.specs.Ended.{line_of}

-- what is written in a row
abbrev pub written : Row → List ℕ
written row = take row.len row.bytes

-- the verdict is stored, and `is_run` says whether it is a run
abbrev pub Stores : Verdict → Bool → Found → Type 0
Stores (Run commands) is_run found = (is_run ≡ true) × (found.commands ≡ commands)
Stores (Another d) is_run found =
    (is_run ≡ false) × (found.line ≡ d.line) × (written found.recorded ≡ d.recorded.now) × (written found.given ≡ d.given.now)

-- The stored verdict is true of the text: it is a run, or the reply of this line is the first that isn't given.
abbrev pub IsFound : List ℕ → Bool → Found → Type 0
IsFound text true found = IsRun text found.commands
IsFound text false found = IsAnother text found.line (written found.recorded) (written found.given)

-- the status of a check that ends without a verdict
abbrev pub status_of_unchecked : Unchecked → ℕ
status_of_unchecked (NoReply _) = 2
status_of_unchecked (Script fault) = status_of fault

-- the number of the line that is no command, or 0
abbrev pub bad_line_of : Unchecked → ℕ
bad_line_of (NoReply _) = 0
bad_line_of (Script fault) = line_of (Err fault)

-- the number of the line that has no reply, or 0
abbrev pub unanswered_line_of : Unchecked → ℕ
unanswered_line_of (NoReply number) = number
unanswered_line_of (Script _) = 0
