use Rattle.std.proofs.Common.{length}
use Rattle.esync_check.specs.Recorded.{AddsEntries}
use Rattle.esync_check.proofs.recording.read_entries.Given as goal

abbrev pub invariant-loop-rest : goal.invariant-loop-rest
invariant-loop-rest g l =
    let W = g.W.Write.contents in AddsEntries l.lines (W l.fn.script) (W l.script) (W l.fn.replies) (W l.replies) l.commands l.rest

abbrev pub decreases-loop-rest : goal.decreases-loop-rest
decreases-loop-rest g l = length l.rest
