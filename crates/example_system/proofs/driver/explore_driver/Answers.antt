use Rattle.esync_systems.specs.declared.explore.Verdict.TheVariants.{AllCanEnd}
use Rattle.example_system.proofs.Told.{told}
use Rattle.example_system.proofs.driver.explore_driver.Goals as goal

pub returns : goal.returns
returns c e = told _ c.explore_pair_determined.result AllCanEnd e c.explore_pair_determined.ensures.holds
