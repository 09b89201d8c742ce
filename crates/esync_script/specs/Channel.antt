-- The words of a channel, and the text of what it tells.
use Rattle.std.specs.Prelude.{ℕ, List, ◌++◌, codes, decimal, Option, None, Ok, Err, if◌then◌else◌, []}
use Rattle.std.specs.Option.{option_map}
use Rattle.std.proofs.Common.{nat_eq}
use Rattle.esync_channel.specs.declared.channel.TrySendError.TheVariants.{Full}
use Rattle.esync_channel.specs.declared.channel.TryReceiveError.TheVariants.{Empty}
use Rattle.esync_channel.specs.declared.channel.machine.ChannelAsk.{ChannelAsk}
use Rattle.esync_channel.specs.declared.channel.machine.ChannelAsk.TheVariants.{Send, Receive, SendReady, ReceiveReady}
use Rattle.esync_channel.specs.declared.channel.machine.ChannelCall.{ChannelCall}
use Rattle.esync_channel.specs.declared.channel.machine.ChannelCall.TheVariants.{TrySend, TryReceive, Clear, Len, FreeCapacity}
use Rattle.esync_channel.specs.declared.channel.machine.ChannelHeard.{ChannelHeard}
use Rattle.esync_channel.specs.declared.channel.machine.ChannelHeard.TheVariants.{Ready, Received, TrySent, TryReceived, Number}
use Rattle.esync_words.specs.Words.{is_text, nothing, one}
use Rattle.esync_base.specs.Keeping.{Keeping}
use Rattle.esync_channel.specs.Mailbox.{Slots}
use Rattle.esync_channel.specs.ChannelRules.{channel_rules, channel_wakings}
use Rattle.esync_script.specs.Setting.{Setting, setting_of}

abbrev pub channel_asks : ℕ → List ℕ → List (List ℕ) → Option (ChannelAsk ℕ)
channel_asks k name words =
    if is_text name (codes "send") then option_map (λ v. Send v) (one k words)
    else if is_text name (codes "receive") then option_map (λ x. Receive) (nothing words)
    else if is_text name (codes "send-ready") then option_map (λ x. SendReady) (nothing words)
    else if is_text name (codes "receive-ready") then option_map (λ x. ReceiveReady) (nothing words)
    else None

abbrev pub channel_calls : ℕ → List ℕ → List (List ℕ) → Option (ChannelCall ℕ)
channel_calls k name words =
    if is_text name (codes "try-send") then option_map (λ v. TrySend v) (one k words)
    else if is_text name (codes "try-receive") then option_map (λ x. TryReceive) (nothing words)
    else if is_text name (codes "clear") then option_map (λ x. Clear) (nothing words)
    else if is_text name (codes "len") then option_map (λ x. Len) (nothing words)
    else if is_text name (codes "free") then option_map (λ x. FreeCapacity) (nothing words)
    else None

abbrev pub channel_text : ChannelHeard ℕ → List ℕ
channel_text Ready = codes "Ready"
channel_text (Received message) = codes "Ready(" ++ decimal message ++ codes ")"
channel_text (TrySent (Ok _)) = codes "Ok"
channel_text (TrySent (Err (Full message))) = codes "Err(Full(" ++ decimal message ++ codes "))"
channel_text (TryReceived (Ok message)) = codes "Ok(" ++ decimal message ++ codes ")"
channel_text (TryReceived (Err Empty)) = codes "Err(Empty)"
channel_text (Number number) = decimal number

-- no waker in either slot
abbrev pub nobody_waits : Slots ℕ
nobody_waits = record { receivers = []; senders = [] }

-- a channel or a priority channel that keeps its messages in this way
abbrev pub channel_setting : ℕ → Keeping ℕ → Setting
channel_setting k keeping = setting_of 1 (channel_rules keeping) (channel_wakings nat_eq keeping) (channel_asks k) (channel_calls k) channel_text [] nobody_waits
