use Rattle.std.proofs.Common.{None}
use Rattle.std.proofs.lemmas.List.{take-replicate}
use Rattle.esync_log.proofs.log.positions.Positions.new.Goals as goal

pub returns : goal.returns
returns g c = take-replicate g.E.Extent.extent g.row.ROOM None c.requires
