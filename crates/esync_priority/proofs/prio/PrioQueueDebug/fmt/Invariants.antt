use Rattle.esync_priority.proofs.prio.PrioQueueDebug.fmt.Given as goal

abbrev pub invariant-loop-i : goal.invariant-loop-i
invariant-loop-i g l = Unit
