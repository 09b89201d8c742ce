use Rattle.std.proofs.Common.{sym, ap, ◌∙◌}
use Rattle.esync_cells.specs.Receivers.{Followed, seen_at, version_of}
use Rattle.esync_cells.proofs.watch.machine.Watched.seen_at.Goals as goal

pub returns-in-Some : goal.returns-in-Some
returns-in-Some g c = ap version_of (sym c.in-Some.is ∙ c.get.ensures) ∙ ap (λ (s : Followed _ _). seen_at s.receivers c.args.h) c.self.view_is

pub returns-in-None : goal.returns-in-None
returns-in-None g c = ap version_of (sym c.in-None.is ∙ c.get.ensures) ∙ ap (λ (s : Followed _ _). seen_at s.receivers c.args.h) c.self.view_is
