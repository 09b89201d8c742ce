-- The sizes of a channel add up. This is told of the commands and their answers alone.
use Rattle.std.specs.Prelude.{◌≡◌, ℕ, ◌+◌, List, length, Option}
use Rattle.esync_machine.specs.Sizes.{SizesAddUp as AddUpInRun}
use Rattle.esync_machine.specs.declared.run.Reply.{Reply}
use Rattle.esync_machine.specs.declared.primitive.Answer.{Answer}
use Rattle.esync_machine.specs.declared.primitive.Command.{Command}
use Rattle.esync_channel.specs.declared.channel.machine.ChannelAsk.{ChannelAsk}
use Rattle.esync_channel.specs.declared.channel.machine.ChannelCall.{ChannelCall}
use Rattle.esync_channel.specs.declared.channel.machine.ChannelCall.TheVariants.{Len, FreeCapacity}
use Rattle.esync_channel.specs.declared.channel.machine.ChannelHeard.{ChannelHeard}
use Rattle.esync_channel.specs.declared.channel.machine.ChannelHeard.TheVariants.{Number}
use Rattle.esync_channel.specs.Order.{Account, after, at_first}

module _ {T : Type 0} where
  -- held counts the messages that were sent and not taken
  abbrev pub IsHeld : Account T → ℕ → Type 0
  IsHeld k held = held + length k.taken ≡ length k.accepted

  -- the sizes add up in a run of a channel of this capacity that has these requests and messages at first
  abbrev pub SizesAddUp : {W : Type 0} {K : ℕ} → ℕ → List (Option (ChannelAsk T)) → List T → List (Command (ChannelAsk T) W (ChannelCall T)) → List (Reply (Answer (ChannelHeard T)) W K) → Type 0
  SizesAddUp capacity requests held commands replies = AddUpInRun Len FreeCapacity Number capacity IsHeld after (at_first requests held) commands replies
