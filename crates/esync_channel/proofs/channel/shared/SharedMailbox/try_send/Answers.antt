use Rattle.esync_channel.proofs.Kept.{comes_back}
use Rattle.esync_channel.proofs.channel.shared.SharedMailbox.try_send.Goals as goal

pub returns : goal.returns
returns g c = comes_back g.S.Store.keeping _ _ c.args.message c.try_send.result c.try_send.ensures.messages
