use Rattle.std.proofs.Common.{ap, ◌∙◌, arith}
use Rattle.esync_machine.specs.Numbers.{at_number}
use Rattle.esync_cells.specs.Receivers.{Followed, is_counted}
use Rattle.esync_cells.specs.ReceiversLaws.{one_counted}
use Rattle.esync_cells.proofs.watch.machine.Watched.has_place.Goals as goal

pub returns : goal.returns
returns g c =
    let counted = one_counted c.args.h c.self.inside.receivers (ap (λ (s : Followed _ _). is_counted (at_number s.receivers c.args.h)) c.self.view_is ∙ c.requires) in
    omega (arith, c.self.invariant.1, c.receivers-counted.ensures.value, c.receivers-counted.ensures.within)
