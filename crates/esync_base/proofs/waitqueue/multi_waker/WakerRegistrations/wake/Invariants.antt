use Rattle.std.proofs.Common.{◌≡◌, ◌++◌, take}
use Rattle.esync_base.proofs.waitqueue.multi_waker.WakerRegistrations.wake.Given as goal

abbrev pub invariant-loop-i : goal.invariant-loop-i
invariant-loop-i g l = l.wakes ≡ l.initial.wakes ++ take l.i (g.L.WakerList.wakers l.self-inside.wakers)
