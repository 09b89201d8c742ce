use Rattle.esync_tasks.proofs.parking.Seat.block_on.Given as goal

abbrev pub invariant-loop : goal.invariant-loop
invariant-loop g l =
    (goal.iterator-loop g).can_next l.iterator'
    × (goal.iterator-loop g).is_finite l.iterator'
    × g.F.Future.can_poll l.future
    × ((output : _) → g.F.Future.gives l.future output → g.F.Future.gives l.fn.future output)
