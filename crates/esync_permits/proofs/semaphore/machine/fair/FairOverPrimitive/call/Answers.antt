use Rattle.std.proofs.Common.{arith}
use Rattle.esync_permits.proofs.Handed.{handed_nothing}
use Rattle.esync_permits.proofs.semaphore.machine.fair.FairOverPrimitive.call.Goals as goal

pub returns-in-Try-clause-exact : goal.returns-in-Try-clause-exact
returns-in-Try-clause-exact g c =
    rw c.in-Try.is (handed_nothing c.try_at.result c.args.self.now.entries c.try_at.new.state.entries c.args.wakes.now c.requires.empty c.try_at.ensures.entries)

pub release-requires : goal.release-requires
release-requires g c = (c.requires-raw.1.1.1.0, (rw c.requires.empty (omega (arith, c.requires.room))))

pub set-requires : goal.set-requires
set-requires g c = (c.requires-raw.1.1.1.0, (rw c.requires.empty (omega (arith, c.requires.room))))
