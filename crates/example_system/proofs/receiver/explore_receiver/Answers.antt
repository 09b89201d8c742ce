use Rattle.esync_systems.specs.declared.explore.Verdict.TheVariants.{AllEnd}
use Rattle.example_system.proofs.Told.{told}
use Rattle.example_system.proofs.receiver.explore_receiver.Goals as goal

pub returns : goal.returns
returns c turns e = told _ c.explore_determined.result (AllEnd turns) e c.explore_determined.ensures.holds
