use Rattle.std.proofs.Common.{◌≡◌, Option, None, refl}
use Rattle.esync_machine.specs.Rules.{Finds}
use Rattle.esync_cells.specs.WatchRules.{watch_of, reach}
use Rattle.esync_cells.specs.declared.watch.machine.Await.{Await}
use Rattle.esync_cells.specs.declared.watch.machine.WatchCall.{WatchCall}
use Rattle.esync_cells.specs.declared.watch.machine.WatchCall.TheVariants.{Receiver, Anon, Leave, Clear, Send, Modify, ModifyIf, TryGet, Read, Id, Contains}
use Rattle.esync_cells.proofs.WatchKept.{called_kept}
use Rattle.esync_cells.proofs.watch.machine.WatchedPrimitive.call.Goals as goal

-- a call concerns no request
of_nobody : {T C J : Type 0} (call : WatchCall T C J) (p : Option (Await J)) → Finds (reach call) p → p ≡ None
of_nobody (Receiver h) p finds = finds
of_nobody (Anon h) p finds = finds
of_nobody (Leave h) p finds = finds
of_nobody Clear p finds = finds
of_nobody (Send value) p finds = finds
of_nobody (Modify change) p finds = finds
of_nobody (ModifyIf change) p finds = finds
of_nobody TryGet p finds = finds
of_nobody (Read h read) p finds = finds
of_nobody Id p finds = finds
of_nobody Contains p finds = finds

pub returns-clause-allowed : goal.returns-clause-allowed
returns-clause-allowed g c = (c.perform.ensures.allowed, refl)

pub returns-clause-exact : goal.returns-clause-exact
returns-clause-exact g c = c.perform.ensures.exact

pub returns-clause-kept : goal.returns-clause-kept
returns-clause-kept g c other v fits apart stays owed =
    let old = c.args.self.now in
    let new = c.perform.new.self in
    let kept = called_kept g.L.WakerList.room g.T.Clone.is_clone g.T.Clone.is_infallible g.C.Change.changed g.C.Change.tells g.J.Judge.passes g.L.Waker.PartialEq.eq (watch_of old) (watch_of new) old.state.waiters new.state.waiters c.perform.new.wakes other fits c.perform.result c.args.call c.perform.ensures.allowed c.perform.ensures.exact stays in
    kept.owed v owed

pub returns-clause-others : goal.returns-clause-others
returns-clause-others g c other fits apart stays =
    let old = c.args.self.now in
    let new = c.perform.new.self in
    let kept = called_kept g.L.WakerList.room g.T.Clone.is_clone g.T.Clone.is_infallible g.C.Change.changed g.C.Change.tells g.J.Judge.passes g.L.Waker.PartialEq.eq (watch_of old) (watch_of new) old.state.waiters new.state.waiters c.perform.new.wakes other fits c.perform.result c.args.call c.perform.ensures.allowed c.perform.ensures.exact stays in
    (kept.fits fits, apart)

pub returns-clause-own : goal.returns-clause-own
returns-clause-own g c v owed = absurd (rw (of_nobody c.args.call c.args._place.now c.requires.finds) at owed)

pub returns-clause-fits : goal.returns-clause-fits
returns-clause-fits g c = rw (of_nobody c.args.call c.args._place.now c.requires.finds) tt
