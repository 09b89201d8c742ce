-- What the tasks of tests do next, by what they hear.
use Rattle.std.specs.Prelude.{ℕ, zero, suc, Ok, Err}
use Rattle.esync_channel.specs.declared.channel.machine.ChannelHeard.{ChannelHeard}
use Rattle.esync_channel.specs.declared.channel.machine.ChannelHeard.TheVariants.{Received, TrySent}
use Rattle.esync_machine.specs.declared.primitive.Answer.{Answer}
use Rattle.esync_machine.specs.declared.primitive.Answer.TheVariants.{Gives}

-- a receiver begins again unless it received a zero
abbrev pub until_zero : Answer (ChannelHeard ℕ) → ℕ → ℕ
until_zero (Gives (Received zero)) behind = behind
until_zero (Gives (Received (suc v))) behind = 0
until_zero answer behind = behind

-- a sender begins again until the channel is full
abbrev pub until_full : Answer (ChannelHeard ℕ) → ℕ → ℕ
until_full (Gives (TrySent (Ok sent))) behind = 0
until_full answer behind = behind
