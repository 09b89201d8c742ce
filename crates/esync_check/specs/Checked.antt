-- The verdict on a recorded run.
use Rattle.std.specs.Prelude.{◌≡◌, ℕ, Bool, true, false, ◌==◌, List, [], ◌++◌, Some, Result, Ok, codes, decimal}
use Rattle.esync_words.specs.declared.fault.Fault.{Fault}
use Rattle.esync_words.specs.Fault.{message_of as fault_message}
use Rattle.esync_words.specs.Story.{replies_story}
use Rattle.esync_words.specs.Played.{IsJudged}
use Rattle.esync_script.specs.Opening.{runs, PlaysScript}
use Rattle.esync_check.specs.Recorded.{Records, DiffersAt, line_text}
use Rattle.esync_check.specs.declared.difference.Difference.{Difference}
use Rattle.esync_check.specs.declared.fault.Unchecked.{Unchecked}
use Rattle.esync_check.specs.declared.fault.Unchecked.TheVariants.{NoReply, Script}
use Rattle.esync_check.specs.declared.Verdict.{Verdict}
use Rattle.esync_check.specs.declared.Verdict.TheVariants.{Run, Another}

-- A script is played with this outcome, and its replies have this text: a line each, of the answer and all its wakers.
abbrev pub Replies : List ℕ → List ℕ → Result (Unit {0}) Fault → Type 0
Replies script replies outcome =
    PlaysScript runs replies_story (Some script) (Some []) (Some replies) outcome

-- A text is the record of a run of so many commands, of the primitive that its line 1 names: its script is played to
-- its end, and the replies are those that were recorded.
pub record IsRun (text : List ℕ) (commands : ℕ) : Type 0 where
  pub script : List ℕ
  pub replies : List ℕ
  pub records : Records text script replies commands []
  pub played : Replies script replies (Ok tt)

-- Among the replies that a text records up to its first line without one, the one of this line is the first that the
-- primitive doesn't give. It is `other`, and the primitive gives `own`.
pub record IsAnother (text : List ℕ) (line : ℕ) (other own : List ℕ) : Type 0 where
  pub script : List ℕ
  pub recorded : List ℕ
  pub commands : ℕ
  pub rest : List ℕ
  pub records : Records text script recorded commands rest
  pub given : List ℕ
  pub outcome : Result (Unit {0}) Fault
  pub played : Replies script given outcome
  pub judged : IsJudged outcome
  pub differs : DiffersAt recorded given line other own

abbrev pub Finds : List ℕ → Verdict → Type 0
Finds text (Run commands) = IsRun text commands
Finds text (Another d) = IsAnother text d.line d.recorded.now d.given.now

-- the verdict on so many recorded replies, the whole record or a part, beside those that a play with this outcome gave
abbrev pub Judges : ℕ → Bool → List ℕ → List ℕ → Result (Unit {0}) Fault → Verdict → Type 0
Judges count is_whole recorded given outcome (Run commands) = (commands ≡ count) × (is_whole ≡ true) × (outcome ≡ Ok tt) × (given ≡ recorded)
Judges count is_whole recorded given outcome (Another d) = IsJudged outcome × DiffersAt recorded given d.line d.recorded.now d.given.now

-- the text of the error of a check that ends before its verdict
abbrev pub message_of : Unchecked → List ℕ
message_of (NoReply number) = codes "line " ++ decimal number ++ codes ": no reply"
message_of (Script fault) = fault_message fault

-- the text of a reply that differs: its line, the recorded reply, and the one that the primitive gives
abbrev pub heading_text : ℕ → List ℕ → List ℕ
heading_text line name = codes "line " ++ decimal line ++ codes ": not a run of " ++ line_text name

abbrev pub recorded_text : List ℕ → List ℕ
recorded_text reply = codes "recorded: " ++ line_text reply

abbrev pub given_text : List ℕ → List ℕ
given_text reply = codes "given: " ++ line_text reply

abbrev pub difference_text : List ℕ → Difference → List ℕ
difference_text name d = (heading_text d.line name ++ recorded_text d.recorded.now) ++ given_text d.given.now

-- the text of a run of n commands, in the singular or the plural
abbrev pub run_text : Bool → List ℕ → ℕ → List ℕ
run_text true name n = codes "1 command: a run of " ++ line_text name
run_text false name n = decimal n ++ codes " commands: a run of " ++ line_text name

-- the text of a verdict on a record with this line 1
abbrev pub verdict_text : List ℕ → Verdict → List ℕ
verdict_text name (Run commands) = run_text (commands == 1) name commands
verdict_text name (Another d) = difference_text name d
