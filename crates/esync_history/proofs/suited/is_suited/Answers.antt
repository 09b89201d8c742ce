use Rattle.std.proofs.Common.{arith, ◌<◌, map}
use Rattle.esync_history.specs.Suited.{some_awaits_at}
use Rattle.esync_history.proofs.Fitting.{not_used}
use Rattle.esync_history.proofs.suited.is_suited.Goals as goal

pub returns-then-r-REQS : goal.returns-then-r-REQS
returns-then-r-REQS g c =
    let r = c.in-Await.r in
    let l : r < g.M.Awaits.REQS = omega (arith, c.REQS.ensures) in
    let used = some_awaits_at r (map (λ acts. acts.items) c.args.later.now) in
    rw c.in-Await.is (not_used c.some_awaits_at.result used r g.M.Awaits.REQS l c.some_awaits_at.ensures)
