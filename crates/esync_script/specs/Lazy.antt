-- The words of a value that is made when a call first asks for it.
use Rattle.std.specs.Prelude.{ℕ, List, codes, Option, None, if◌then◌else◌, ◌≡◌, Some, decimal}
use Rattle.std.specs.Option.{option_map}
use Rattle.esync_cells.specs.declared.lazy_lock.machine.NoAsk.{NoAsk}
use Rattle.esync_cells.specs.declared.lazy_lock.machine.LazyCall.{LazyCall}
use Rattle.esync_cells.specs.declared.lazy_lock.machine.LazyCall.TheVariants.{Get, Into}
use Rattle.esync_words.specs.Words.{is_text, nothing}
use Rattle.esync_cells.specs.declared.lazy_lock.Given.{Given}
use Rattle.esync_cells.specs.LazyLock.{Lazy}
use Rattle.esync_cells.specs.LazyRules.{lazy_rules, lazy_wakings}
use Rattle.esync_script.specs.Setting.{Setting, setting_of}

-- a lazy value has no requests
abbrev pub lazy_asks : List ℕ → List (List ℕ) → Option NoAsk
lazy_asks name words = None

abbrev pub lazy_calls : List ℕ → List (List ℕ) → Option LazyCall
lazy_calls name words =
    if is_text name (codes "get") then option_map (λ x. Get) (nothing words)
    else if is_text name (codes "into") then option_map (λ x. Into) (nothing words)
    else None

-- the only value that is made is the given one
abbrev pub IsGiven : Given ℕ → ℕ → Type 0
IsGiven given v = v ≡ given.value

-- a value that isn't made yet, and will be v
abbrev pub not_made : ℕ → Option (Lazy ℕ (Given ℕ))
not_made v = Some (record { value = None; maker = record { value = v } })

abbrev pub lazy_setting : ℕ → Setting
lazy_setting v = setting_of 1 (lazy_rules IsGiven) (lazy_wakings (Option (Lazy ℕ (Given ℕ))) ℕ ℕ) lazy_asks lazy_calls decimal (not_made v) tt
