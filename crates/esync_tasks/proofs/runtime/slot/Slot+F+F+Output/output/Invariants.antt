use Rattle.esync_tasks.specs.Joined.{CanAdvance, MayGive}
use Rattle.esync_tasks.proofs.runtime.slot.Slot+F+F+Output.output.Given as goal

abbrev pub invariant-loop : goal.invariant-loop
invariant-loop g l =
    (goal.iterator-loop g).can_next l.iterator'
    × (goal.iterator-loop g).is_finite l.iterator'
    × CanAdvance g.F.Future.can_poll l.half
    × ((output : _) → MayGive g.F.Future.gives l.half output → MayGive g.F.Future.gives l.fn.self output)
