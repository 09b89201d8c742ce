use Rattle.esync_channel.proofs.Kept.{comes_back}
use Rattle.esync_channel.proofs.channel.shared.SharedMailbox.try_send_with_context.Goals as goal

pub returns : goal.returns
returns g c = comes_back g.S.Store.keeping _ _ c.args.message c.try_send_with_context.result c.try_send_with_context.ensures.messages
