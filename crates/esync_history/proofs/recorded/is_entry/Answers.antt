use Rattle.std.proofs.Common.{length, refl}
use Rattle.std.proofs.lemmas.Option.{slice_get_read, slice_get_past}
use Rattle.esync_history.specs.Journal.{same_entry}
use Rattle.esync_history.proofs.Entries.{held_entry, no_entry}
use Rattle.esync_history.proofs.recorded.is_entry.Goals as goal

pub returns-in-Some : goal.returns-in-Some
returns-in-Some g c =
    let journal = c.args.journal.now in
    let found = c.in-Some.ensures.lookup in
    let place = slice_get_read journal (length journal) c.args.receipt.now.number c.in-Some.entry.now refl found.3.0 found.1 in
    held_entry (same_entry g.C.PartialEq.eq g.A.PartialEq.eq) c.args.receipt.now.entry _ c.in-Some.entry.now c.eq.result place c.eq.ensures

pub returns-in-None : goal.returns-in-None
returns-in-None g c =
    no_entry (same_entry g.C.PartialEq.eq g.A.PartialEq.eq) c.args.receipt.now.entry _ (slice_get_past c.args.journal.now c.args.receipt.now.number c.in-None.ensures.lookup.3)
