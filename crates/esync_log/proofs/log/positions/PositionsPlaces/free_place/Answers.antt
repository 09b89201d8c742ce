use Rattle.std.proofs.Common.{arith, ap}
use Rattle.std.specs.Prelude.{length}
use Rattle.esync_log.proofs.Logged.{all_taken}
use Rattle.esync_log.proofs.log.positions.PositionsPlaces.free_place.Goals as goal

pub returns-clause-none : goal.returns-clause-none
returns-clause-none g c = all_taken c.args.self.now (λ k l. c.loop-place.invariant k (omega (arith, l, ap length c.as_slice-row.ensures.value, c.loop-place-test.false)))
