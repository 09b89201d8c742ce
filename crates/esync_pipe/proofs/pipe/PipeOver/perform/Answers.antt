use Rattle.esync_pipe.proofs.Kept.{from_none, taken_if, written_if}
use Rattle.esync_pipe.proofs.pipe.PipeOver.perform.Goals as goal

pub returns-in-TryWrite-clause-exact : goal.returns-in-TryWrite-clause-exact
returns-in-TryWrite-clause-exact g c =
    let e = c.try_write.ensures in
    rw (c.in-TryWrite.is, ← written_if g.R.ByteStore.capacity _ _ _ _ e.bytes) (from_none _ _ _ e.wakes c.requires.empty, e.slots)

pub returns-in-TryRead-clause-exact : goal.returns-in-TryRead-clause-exact
returns-in-TryRead-clause-exact g c =
    let e = c.read_row.ensures in
    rw (c.in-TryRead.is, ← taken_if g.R.ByteStore.capacity _ _ _ _ e.bytes) (from_none _ _ _ e.wakes c.requires.empty, e.slots)
