use Rattle.std.proofs.Common.{◌∙◌, ap, None}
use Rattle.std.proofs.lemmas.List.{take-replicate}
use Rattle.std.specs.Prelude.{take}
use Rattle.esync_machine.proofs.requests.RequestsOver.over.Goals as goal

pub returns-clause-requests : goal.returns-clause-requests
returns-clause-requests g c = ap (take g.E.Extent.extent) c.new.ensures ∙ take-replicate g.E.Extent.extent g.row.ROOM None c.requires.places
