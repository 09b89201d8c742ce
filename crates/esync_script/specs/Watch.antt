-- The words of a watch, the text of what it tells, and what its changes and tests mean.
use Rattle.std.specs.Prelude.{◌≡◌, ℕ, ◌+◌, ◌%◌, ◌^◌, ◌==◌, Bool, true, false, List, ◌++◌, codes, decimal, Option, Some, None, Ok, Err, if◌then◌else◌, refl, [], nat_lt}
use Rattle.std.specs.Option.{option_map}
use Rattle.std.proofs.Common.{nat_eq}
use Rattle.esync_cells.specs.declared.watch.machine.Await.{Await}
use Rattle.esync_cells.specs.declared.watch.machine.Reading.TheVariants.{Get, Changed, GetAnd, ChangedAnd}
use Rattle.esync_cells.specs.declared.watch.machine.WatchCall.{WatchCall}
use Rattle.esync_cells.specs.declared.watch.machine.WatchCall.TheVariants.{Receiver, Anon, Leave, Clear, Send, Modify, ModifyIf, TryGet, Read, Id, Contains}
use Rattle.esync_cells.specs.declared.watch.machine.WatchHeard.{WatchHeard}
use Rattle.esync_cells.specs.declared.watch.machine.WatchHeard.TheVariants.{Waited, Counted, Sent, Modified, Found, Version, HasValue}
use Rattle.esync_script.specs.declared.watch.Adds.{Adds}
use Rattle.esync_script.specs.declared.watch.Below.{Below}
use Rattle.esync_words.specs.Words.{is_text, nothing, one, two}
use Rattle.esync_words.specs.Text.{option_text}
use Rattle.std.proofs.Math.ListN.{replicate}
use Rattle.esync_cells.specs.WatchRules.{Watch, watch_rules, watch_wakings}
use Rattle.esync_script.specs.Setting.{Setting, setting_of, IsSame, NeedsNone}

-- a value of k bits with this much added, modulo 2^k; no value stays none
abbrev pub added : (k amount : ℕ) → Option ℕ → Option ℕ
added k amount None = None
added k amount (Some v) = if amount == 0 then Some v else Some ((v + amount) % 2 ^ k)

-- whether there is a value to add to, and an amount to add
abbrev pub adds : ℕ → Option ℕ → Bool
adds amount None = false
adds amount (Some v) = if amount == 0 then false else true

adds_by : (zero : Bool) (v w : ℕ) → (if zero then false else true) ≡ false → (if zero then Some v else Some w) ≡ Some v
adds_by true v w told = refl
adds_by false v w told = cc

-- a value to which nothing is added is unchanged
pub adds_tells : (k amount : ℕ) (v : Option ℕ) → adds amount v ≡ false → added k amount v ≡ v
adds_tells k amount None told = refl
adds_tells k amount (Some v) told = adds_by (amount == 0) v ((v + amount) % 2 ^ k) told

abbrev pub watch_asks : ℕ → List ℕ → List (List ℕ) → Option (Await Below)
watch_asks k name words =
    if is_text name (codes "get") then option_map (λ h. record { receiver = h; read = Get }) (one 64 words)
    else if is_text name (codes "changed") then option_map (λ h. record { receiver = h; read = Changed }) (one 64 words)
    else if is_text name (codes "get-below") then option_map (λ p. record { receiver = p.0; read = GetAnd (record { limit = p.1 }) }) (two 64 k words)
    else if is_text name (codes "changed-below") then option_map (λ p. record { receiver = p.0; read = ChangedAnd (record { limit = p.1 }) }) (two 64 k words)
    else None

-- the try forms have the words of the asks
abbrev pub watch_reads : ℕ → List ℕ → List (List ℕ) → Option (WatchCall ℕ Adds Below)
watch_reads k name words = option_map (λ (ask : Await Below). Read ask.receiver ask.read) (watch_asks k name words)

abbrev pub watch_calls : ℕ → List ℕ → List (List ℕ) → Option (WatchCall ℕ Adds Below)
watch_calls k name words =
    if is_text name (codes "receiver") then option_map (λ h. Receiver h) (one 64 words)
    else if is_text name (codes "anon") then option_map (λ h. Anon h) (one 64 words)
    else if is_text name (codes "leave") then option_map (λ h. Leave h) (one 64 words)
    else if is_text name (codes "clear") then option_map (λ x. Clear) (nothing words)
    else if is_text name (codes "send") then option_map (λ v. Send v) (one k words)
    else if is_text name (codes "modify") then option_map (λ v. Modify (record { bits = k; amount = v })) (one k words)
    else if is_text name (codes "modify-if") then option_map (λ v. ModifyIf (record { bits = k; amount = v })) (one k words)
    else if is_text name (codes "try-get") then option_map (λ x. TryGet) (nothing words)
    else if is_text name (codes "id") then option_map (λ x. Id) (nothing words)
    else if is_text name (codes "contains") then option_map (λ x. Contains) (nothing words)
    else watch_reads k name words

abbrev pub watch_text : WatchHeard ℕ → List ℕ
watch_text (Waited value) = codes "Ready(" ++ decimal value ++ codes ")"
watch_text (Counted true) = codes "Ok"
watch_text (Counted false) = codes "None"
watch_text (Sent (Ok _)) = codes "Ok"
watch_text (Sent (Err back)) = codes "Err(Exhausted(" ++ decimal back.0 ++ codes "))"
watch_text (Modified (Ok _)) = codes "Ok"
watch_text (Modified (Err _)) = codes "Err(Exhausted)"
watch_text (Found found) = option_text found
watch_text (Version version) = decimal version
watch_text (HasValue true) = codes "true"
watch_text (HasValue false) = codes "false"

-- a watch with this value, if there is one, and without receivers
abbrev pub a_new_watch : Option ℕ → Watch ℕ
a_new_watch value = record { value = value; version = 0; receivers = replicate 16 None }

-- what a change of a script makes of a value, and whether it tells; and which values pass a test
abbrev pub changed : Adds → Option ℕ → Option ℕ
changed change value = added change.bits change.amount value

abbrev pub tells_change : Adds → Option ℕ → Bool
tells_change change value = adds change.amount value

abbrev pub passes : Below → ℕ → Bool
passes below value = nat_lt value below.limit

-- a watch, whose steps hand out as many wakers at most as receivers can be counted
abbrev pub watch_setting : ℕ → ℕ → Option ℕ → Setting
watch_setting k places value = setting_of 4096 (watch_rules places IsSame NeedsNone changed tells_change passes) (watch_wakings nat_eq places tells_change) (watch_asks k) (watch_calls k) watch_text (a_new_watch value) []
