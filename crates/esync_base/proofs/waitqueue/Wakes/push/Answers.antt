use Rattle.std.proofs.Common.{◌<◌, ap, length, arith}
use Rattle.esync_base.proofs.Lists.{row_push, items_of-set}
use Rattle.esync_base.proofs.waitqueue.Wakes.push.Goals as goal

pub invariant_of-self : goal.invariant_of-self
invariant_of-self g c =
    let a = c.self.inside in
    let h : a.len < g.row.K = omega (arith, c.self.invariant.count, ap length c.self.view_is) in
    rw c.put.ensures (row_push g.row.K a.row.places a.len c.args.waker c.self.invariant h)

pub returns : goal.returns
returns g c =
    let a = c.self.inside in
    let h : a.len < g.row.K = omega (arith, c.self.invariant.count, ap length c.self.view_is) in
    rw (c.put.ensures, ← c.self.view_is) (items_of-set g.row.K a.row.places a.len c.args.waker c.self.invariant h)
