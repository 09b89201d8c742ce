-- The words of a mutex of two values, and the text of what it tells.
use Rattle.std.specs.Prelude.{ℕ, List, ◌++◌, codes, decimal, Option, None, Ok, Err, if◌then◌else◌, [], false}
use Rattle.std.specs.Option.{option_map}
use Rattle.std.proofs.Common.{nat_eq}
use Rattle.esync_guards.specs.declared.mutex.machine.Lock.{Lock}
use Rattle.esync_guards.specs.declared.mutex.machine.MutexCall.{MutexCall}
use Rattle.esync_guards.specs.declared.mutex.machine.MutexCall.TheVariants.{TryLock, Read, Write, Map, WritePart}
use Rattle.esync_guards.specs.declared.mutex.machine.MutexHeard.{MutexHeard}
use Rattle.esync_guards.specs.declared.mutex.machine.MutexHeard.TheVariants.{Locked, Tried, Value, Part}
use Rattle.esync_words.specs.Words.{is_text, nothing, one, two, number_and_values}
use Rattle.esync_guards.specs.MutexRules.{Lock as LockObject, mutex_rules, mutex_wakings}
use Rattle.esync_script.specs.Setting.{Setting, setting_of}

abbrev pub a_lock : Lock
a_lock = record {}

abbrev pub mutex_asks : List ℕ → List (List ℕ) → Option Lock
mutex_asks name words = if is_text name (codes "lock") then option_map (λ x. a_lock) (nothing words) else None

abbrev pub mutex_calls : ℕ → List ℕ → List (List ℕ) → Option (MutexCall (ℕ × ℕ) ℕ)
mutex_calls k name words =
    if is_text name (codes "try-lock") then option_map (λ r. TryLock r) (one 64 words)
    else if is_text name (codes "read") then option_map (λ r. Read r) (one 64 words)
    else if is_text name (codes "write") then option_map (λ p. Write p.0 (p.1, p.2)) (number_and_values k words)
    else if is_text name (codes "map") then option_map (λ r. Map r) (one 64 words)
    else if is_text name (codes "write-part") then option_map (λ p. WritePart p.0 p.1) (two 64 k words)
    else None

abbrev pub mutex_text : MutexHeard (ℕ × ℕ) ℕ → List ℕ
mutex_text Locked = codes "Ready"
mutex_text (Tried (Ok _)) = codes "Ok"
mutex_text (Tried (Err _)) = codes "Err(TryLockError)"
mutex_text (Value v) = codes "(" ++ decimal v.0 ++ codes "," ++ decimal v.1 ++ codes ")"
mutex_text (Part x) = codes "(" ++ decimal x ++ codes ")"

-- an unlocked mutex of two values
abbrev pub a_free_lock : ℕ → ℕ → LockObject (ℕ × ℕ)
a_free_lock v x = record { held = false; value = (v, x) }

-- the second of two values, and the two values with another second
abbrev pub second : ℕ × ℕ → ℕ
second v = v.1

abbrev pub with_second : ℕ × ℕ → ℕ → ℕ × ℕ
with_second v x = (v.0, x)

abbrev pub mutex_setting : ℕ → ℕ → ℕ → Setting
mutex_setting k v x = setting_of 1 (mutex_rules second with_second) (mutex_wakings nat_eq) mutex_asks (mutex_calls k) mutex_text (a_free_lock v x) []
