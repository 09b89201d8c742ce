use Rattle.std.proofs.Common.{◌↔◌, length}
use Rattle.esync_history.specs.Journal.{same_entry, AreEntries}
use Rattle.esync_history.proofs.recorded.are_entries.Given as goal

abbrev pub invariant-loop-receipt : goal.invariant-loop-receipt
invariant-loop-receipt g l =
    AreEntries (same_entry g.C.PartialEq.eq g.A.PartialEq.eq) l.journal l.fn.receipts ↔ AreEntries (same_entry g.C.PartialEq.eq g.A.PartialEq.eq) l.journal l.rest

abbrev pub decreases-loop-receipt : goal.decreases-loop-receipt
decreases-loop-receipt g l = length l.rest
