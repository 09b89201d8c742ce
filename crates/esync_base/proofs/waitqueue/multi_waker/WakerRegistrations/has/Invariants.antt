use Rattle.std.proofs.Common.{◌≡◌, take, false}
use Rattle.esync_base.specs.Registration.{among}
use Rattle.esync_base.proofs.waitqueue.multi_waker.WakerRegistrations.has.Given as goal

abbrev pub invariant-loop-i : goal.invariant-loop-i
invariant-loop-i g l = among g.L.Waker.PartialEq.eq l.waker (take l.i (g.L.WakerList.wakers l.self-inside.wakers)) ≡ false
