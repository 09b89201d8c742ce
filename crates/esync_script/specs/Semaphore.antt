-- The words of the semaphores, and the text of what they tell.
use Rattle.std.specs.Prelude.{ℕ, List, ◌++◌, codes, decimal, Option, None, Result, Ok, Err, if◌then◌else◌, []}
use Rattle.std.specs.Option.{option_map}
use Rattle.std.proofs.Common.{nat_eq}
use Rattle.esync_permits.specs.declared.semaphore.Amount.{Amount}
use Rattle.esync_permits.specs.declared.semaphore.Amount.TheVariants.{Exactly, AllFrom}
use Rattle.esync_permits.specs.declared.semaphore.WaitQueueFull.{WaitQueueFull}
use Rattle.esync_permits.specs.declared.semaphore.machine.PermitCall.{PermitCall}
use Rattle.esync_permits.specs.declared.semaphore.machine.PermitCall.TheVariants.{Try, Disarm, Release, Set, Permits}
use Rattle.esync_permits.specs.declared.semaphore.machine.PermitHeard.{PermitHeard}
use Rattle.esync_permits.specs.declared.semaphore.machine.PermitHeard.TheVariants.{Granted, Tried, Count}
use Rattle.esync_words.specs.Words.{is_text, nothing, one, two}
use Rattle.esync_words.specs.Text.{option_text}
use Rattle.esync_permits.specs.GreedyRules.{greedy_rules, greedy_wakings}
use Rattle.esync_permits.specs.FairRules.{PermitQueue, fair_rules, fair_wakings}
use Rattle.esync_script.specs.Setting.{Setting, setting_of}

abbrev pub permit_asks : List ℕ → List (List ℕ) → Option Amount
permit_asks name words =
    if is_text name (codes "acquire") then option_map (λ k. Exactly k) (one 64 words)
    else if is_text name (codes "acquire-all") then option_map (λ k. AllFrom k) (one 64 words)
    else None

abbrev pub permit_calls : List ℕ → List (List ℕ) → Option PermitCall
permit_calls name words =
    if is_text name (codes "try") then option_map (λ p. Try p.0 (Exactly p.1)) (two 64 64 words)
    else if is_text name (codes "try-all") then option_map (λ p. Try p.0 (AllFrom p.1)) (two 64 64 words)
    else if is_text name (codes "disarm") then option_map (λ r. Disarm r) (one 64 words)
    else if is_text name (codes "release") then option_map (λ k. Release k) (one 64 words)
    else if is_text name (codes "set") then option_map (λ k. Set k) (one 64 words)
    else if is_text name (codes "permits") then option_map (λ x. Permits) (nothing words)
    else None

-- the text of a semaphore's answer; `granted` is the text of what a request hears
abbrev pub permit_text : {G : Type 0} → (G → List ℕ) → PermitHeard G → List ℕ
permit_text granted (Granted heard) = codes "Ready(" ++ granted heard ++ codes ")"
permit_text granted (Tried tried) = option_text tried
permit_text granted (Count permits) = decimal permits

-- what a request hears of a fair semaphore
abbrev pub fair_text : Result ℕ WaitQueueFull → List ℕ
fair_text (Ok permits) = decimal permits
fair_text (Err e) = codes "Err(WaitQueueFull)"

abbrev pub greedy_setting : ℕ → Setting
greedy_setting permits = setting_of 1 greedy_rules (greedy_wakings nat_eq) permit_asks permit_calls (permit_text decimal) permits []

-- this many permits, and no request in the queue
abbrev pub an_empty_queue : ℕ → PermitQueue
an_empty_queue permits = record { permits = permits; queue = [] }

abbrev pub fair_setting : ℕ → ℕ → Setting
fair_setting places permits = setting_of 1 (fair_rules places) fair_wakings permit_asks permit_calls (permit_text fair_text) (an_empty_queue permits) []
