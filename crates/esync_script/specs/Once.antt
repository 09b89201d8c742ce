-- The words of a value that is set once, and the text of what it tells.
use Rattle.std.specs.Prelude.{ℕ, List, ◌++◌, codes, decimal, true, false, Option, None, Ok, Err, if◌then◌else◌}
use Rattle.std.specs.Option.{option_map}
use Rattle.esync_cells.specs.declared.once_lock.InitError.TheVariants.{Set}
use Rattle.esync_cells.specs.declared.once_lock.machine.Get.{Get}
use Rattle.esync_cells.specs.declared.once_lock.machine.OnceCall.{OnceCall}
use Rattle.esync_cells.specs.declared.once_lock.machine.OnceCall.TheVariants.{TryGet, Init, GetOrInit, Take, IsSet as AskSet}
use Rattle.esync_cells.specs.declared.once_lock.machine.OnceHeard.{OnceHeard}
use Rattle.esync_cells.specs.declared.once_lock.machine.OnceHeard.TheVariants.{Got, Found, HasSet, Shown, IsSet}
use Rattle.esync_words.specs.Words.{is_text, nothing, one}
use Rattle.esync_words.specs.Text.{option_text}
use Rattle.esync_cells.specs.OnceRules.{once_rules, once_wakings}
use Rattle.esync_script.specs.Setting.{Setting, setting_of}

abbrev pub a_get : Get
a_get = record {}

abbrev pub once_asks : List ℕ → List (List ℕ) → Option Get
once_asks name words = if is_text name (codes "get") then option_map (λ x. a_get) (nothing words) else None

abbrev pub once_calls : ℕ → List ℕ → List (List ℕ) → Option (OnceCall ℕ)
once_calls k name words =
    if is_text name (codes "try-get") then option_map (λ x. TryGet) (nothing words)
    else if is_text name (codes "init") then option_map (λ v. Init v) (one k words)
    else if is_text name (codes "get-or-init") then option_map (λ v. GetOrInit v) (one k words)
    else if is_text name (codes "take") then option_map (λ x. Take) (nothing words)
    else if is_text name (codes "is-set") then option_map (λ x. AskSet) (nothing words)
    else None

abbrev pub once_text : OnceHeard ℕ → List ℕ
once_text (Got value) = codes "Ready(" ++ decimal value ++ codes ")"
once_text (Found value) = option_text value
once_text (HasSet (Ok _)) = codes "Ok"
once_text (HasSet (Err (Set value))) = codes "Err(Set(" ++ decimal value ++ codes "))"
once_text (Shown value) = decimal value
once_text (IsSet true) = codes "true"
once_text (IsSet false) = codes "false"

abbrev pub once_setting : ℕ → Setting
once_setting k = setting_of 1 (once_rules ℕ) (once_wakings ℕ ℕ) once_asks (once_calls k) once_text None tt
