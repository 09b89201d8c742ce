use Rattle.std.proofs.Common.{◌≡◌, ◌+◌, length}
use Rattle.std.specs.List.{sum_by}
use Rattle.esync_history.proofs.recorded.merge_all.Given as goal

abbrev pub invariant-loop-seat : goal.invariant-loop-seat
invariant-loop-seat g l =
    (l.all.parts + length l.seats.items ≡ l.initial.all.parts + length l.fn.seats.items)
    × (l.all.amount + sum_by (λ seat. seat.calls) l.seats.items ≡ l.initial.all.amount + sum_by (λ seat. seat.calls) l.fn.seats.items)

abbrev pub decreases-loop-seat : goal.decreases-loop-seat
decreases-loop-seat g l = goal.left-loop-seat g l
