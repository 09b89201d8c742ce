use Rattle.std.proofs.Math.Seq.{take-set-lt}
use Rattle.esync_log.proofs.log.positions.PositionsPlaces.put.Goals as goal

pub returns : goal.returns
returns g c = rw (← c.self.view_is) (take-set-lt g.E.Extent.extent c.self.inside.row c.args.place c.args.position c.requires)
