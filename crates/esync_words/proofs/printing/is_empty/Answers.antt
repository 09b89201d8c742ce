use Rattle.esync_words.proofs.Wakers.{free_row}
use Rattle.esync_words.proofs.printing.is_empty.Goals as goal

pub returns : goal.returns
returns c = rw c.are_free.ensures (free_row c.args.wakers.now)
