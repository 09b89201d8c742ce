-- The words of a signal, and the text of what it tells.
use Rattle.std.specs.Prelude.{ℕ, List, ◌++◌, codes, decimal, true, false, Option, None, if◌then◌else◌, []}
use Rattle.std.specs.Option.{option_map}
use Rattle.std.proofs.Common.{nat_eq}
use Rattle.esync_cells.specs.declared.signal.machine.Wait.{Wait}
use Rattle.esync_cells.specs.declared.signal.machine.SignalCall.{SignalCall}
use Rattle.esync_cells.specs.declared.signal.machine.SignalCall.TheVariants.{Signal, Reset, TryTake, Signaled as AskSignaled}
use Rattle.esync_cells.specs.declared.signal.machine.SignalHeard.{SignalHeard}
use Rattle.esync_cells.specs.declared.signal.machine.SignalHeard.TheVariants.{Waited, Taken, Signaled}
use Rattle.esync_words.specs.Words.{is_text, nothing, one}
use Rattle.esync_words.specs.Text.{option_text}
use Rattle.esync_cells.specs.SignalRules.{signal_rules, signal_wakings}
use Rattle.esync_script.specs.Setting.{Setting, setting_of}

abbrev pub a_wait : Wait
a_wait = record {}

abbrev pub signal_asks : List ℕ → List (List ℕ) → Option Wait
signal_asks name words = if is_text name (codes "wait") then option_map (λ x. a_wait) (nothing words) else None

abbrev pub signal_calls : ℕ → List ℕ → List (List ℕ) → Option (SignalCall ℕ)
signal_calls k name words =
    if is_text name (codes "signal") then option_map (λ v. Signal v) (one k words)
    else if is_text name (codes "reset") then option_map (λ x. Reset) (nothing words)
    else if is_text name (codes "try-take") then option_map (λ x. TryTake) (nothing words)
    else if is_text name (codes "signaled") then option_map (λ x. AskSignaled) (nothing words)
    else None

abbrev pub signal_text : SignalHeard ℕ → List ℕ
signal_text (Waited value) = codes "Ready(" ++ decimal value ++ codes ")"
signal_text (Taken taken) = option_text taken
signal_text (Signaled true) = codes "true"
signal_text (Signaled false) = codes "false"

abbrev pub signal_setting : ℕ → Setting
signal_setting k = setting_of 1 (signal_rules ℕ) (signal_wakings nat_eq) signal_asks (signal_calls k) signal_text None []
