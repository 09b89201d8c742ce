use Rattle.std.proofs.Common.{◌≡◌}
use Rattle.esync_machine.specs.Numbers.{swept_below}
use Rattle.esync_machine.proofs.requests.sweep_call.Given as goal

abbrev pub invariant-loop-r : goal.invariant-loop-r
invariant-loop-r g l = l.places ≡ swept_below (g.P.Primitive.rules.leaves (g.P.Primitive.core l.fn.state) l.fn.call) l.r l.fn.places
