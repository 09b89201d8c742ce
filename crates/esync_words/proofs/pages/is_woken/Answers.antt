use Rattle.std.proofs.Common.{◌∙◌}
use Rattle.esync_words.proofs.Wakers.{any_waker}
use Rattle.esync_words.proofs.pages.is_woken.Goals as goal

pub returns : goal.returns
returns c = c.contains.ensures.value ∙ any_waker c.args.wakers.now c.args.waker
