-- The words of a zero-copy channel, and the text of what it tells.
use Rattle.std.specs.Prelude.{ℕ, List, ◌++◌, codes, decimal, Option, Some, None, Ok, Err, if◌then◌else◌, []}
use Rattle.std.specs.Option.{option_map}
use Rattle.std.proofs.Common.{nat_eq}
use Rattle.esync_zerocopy.specs.declared.zerocopy_channel.Side.{Side}
use Rattle.esync_zerocopy.specs.declared.zerocopy_channel.Side.TheVariants.{Sender, Receiver}
use Rattle.esync_zerocopy.specs.declared.zerocopy_channel.machine.Lent.{Lent}
use Rattle.esync_zerocopy.specs.declared.zerocopy_channel.machine.Lent.TheVariants.{Spare, Held}
use Rattle.esync_zerocopy.specs.declared.zerocopy_channel.machine.ZeroCall.{ZeroCall}
use Rattle.esync_zerocopy.specs.declared.zerocopy_channel.machine.ZeroCall.TheVariants.{Try, Write, Done, EndLoan, Clear, Len, FreeCapacity}
use Rattle.esync_zerocopy.specs.declared.zerocopy_channel.machine.ZeroHeard.{ZeroHeard}
use Rattle.esync_zerocopy.specs.declared.zerocopy_channel.machine.ZeroHeard.TheVariants.{Lends, Tried, Cleared, Count}
use Rattle.esync_words.specs.Words.{is_text, nothing, one}
use Rattle.std.proofs.Math.ListN.{replicate}
use Rattle.esync_zerocopy.specs.Slots.{Waiting, all_spare}
use Rattle.esync_zerocopy.specs.Lending.{Slots}
use Rattle.esync_zerocopy.specs.ZeroRules.{zero_rules, zero_wakings}
use Rattle.esync_script.specs.Setting.{Setting, setting_of}

abbrev pub zero_asks : List ℕ → List (List ℕ) → Option Side
zero_asks name words =
    if is_text name (codes "send") then option_map (λ x. Sender) (nothing words)
    else if is_text name (codes "receive") then option_map (λ x. Receiver) (nothing words)
    else None

abbrev pub zero_calls : ℕ → List ℕ → List (List ℕ) → Option (ZeroCall ℕ)
zero_calls k name words =
    if is_text name (codes "try-send") then option_map (λ x. Try Sender) (nothing words)
    else if is_text name (codes "try-receive") then option_map (λ x. Try Receiver) (nothing words)
    else if is_text name (codes "write") then option_map (λ v. Write v) (one k words)
    else if is_text name (codes "done-send") then option_map (λ x. Done Sender) (nothing words)
    else if is_text name (codes "done-receive") then option_map (λ x. Done Receiver) (nothing words)
    else if is_text name (codes "end-send") then option_map (λ x. EndLoan Sender) (nothing words)
    else if is_text name (codes "end-receive") then option_map (λ x. EndLoan Receiver) (nothing words)
    else if is_text name (codes "clear-send") then option_map (λ x. Clear Sender) (nothing words)
    else if is_text name (codes "clear-receive") then option_map (λ x. Clear Receiver) (nothing words)
    else if is_text name (codes "len") then option_map (λ x. Len) (nothing words)
    else if is_text name (codes "free") then option_map (λ x. FreeCapacity) (nothing words)
    else None

-- the text of a slot that is lent, between a word and a bracket
abbrev pub lent_text : Lent ℕ → List ℕ
lent_text (Spare i) = codes "(" ++ decimal i ++ codes ")"
lent_text (Held i v) = codes "(" ++ decimal i ++ codes "," ++ decimal v ++ codes ")"

abbrev pub zero_text : ZeroHeard ℕ → List ℕ
zero_text (Lends lent) = codes "Ready" ++ lent_text lent
zero_text (Tried (Some lent)) = codes "Some" ++ lent_text lent
zero_text (Tried None) = codes "None"
zero_text (Cleared (Ok _)) = codes "Ok"
zero_text (Cleared (Err _)) = codes "Err(SlotLent)"
zero_text (Count n) = decimal n

-- n slots of value 0, all spare, and no waker in either slot
abbrev pub zero_slots : ℕ → Slots ℕ
zero_slots n = record { sides = all_spare n; values = replicate n 0 }

abbrev pub no_side_waits : Waiting ℕ
no_side_waits = record { senders = []; receivers = [] }

abbrev pub zero_setting : ℕ → ℕ → Setting
zero_setting k places = setting_of 1 (zero_rules ℕ) (zero_wakings nat_eq) zero_asks (zero_calls k) zero_text (zero_slots places) no_side_waits
