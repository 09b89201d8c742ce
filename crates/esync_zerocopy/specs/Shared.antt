-- What is known of the two sides of a shared channel without its lock: the number of its slots.
use Rattle.std.specs.Prelude.{ℕ}
use Rattle.esync_zerocopy.specs.declared.zerocopy_channel.shared.Sender.{Sender}
use Rattle.esync_zerocopy.specs.declared.zerocopy_channel.shared.Receiver.{Receiver}

module _ {T W H : Type 0} where
  -- the number of slots of a sender's channel
  abbrev pub slots_of_sender : Sender T W H → ℕ
  slots_of_sender sender = sender.channel.now

  -- the number of slots of a receiver's channel
  abbrev pub slots_of_receiver : Receiver T W H → ℕ
  slots_of_receiver receiver = receiver.channel.now
