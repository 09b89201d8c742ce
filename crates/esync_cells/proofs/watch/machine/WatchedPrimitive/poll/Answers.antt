use Rattle.std.proofs.Common.{inr}
use Rattle.esync_cells.specs.WatchRules.{watch_of}
use Rattle.esync_cells.proofs.WatchKept.{polled_kept, polled_quiet, polled_registered, IsApart-any}
use Rattle.esync_cells.proofs.watch.machine.WatchedPrimitive.poll.Goals as goal

pub returns-clause-allowed : goal.returns-clause-allowed
returns-clause-allowed g c = c.turn.ensures.allowed

pub returns-clause-exact : goal.returns-clause-exact
returns-clause-exact g c = rw c.from_waker.ensures at c.turn.ensures.exact

pub returns-clause-quiet : goal.returns-clause-quiet
returns-clause-quiet g c own pending same stays among =
    let old = c.args.self.now in
    let new = c.turn.new.self in
    polled_quiet g.L.WakerList.room g.T.Clone.is_clone g.T.Clone.is_infallible g.C.Change.changed g.C.Change.tells g.J.Judge.passes g.L.Waker.PartialEq.eq (watch_of old) (watch_of new) old.state.waiters new.state.waiters c.turn.new.wakes c.args.held c.turn.result.answer c.turn.result.place c.args.waker (rw c.from_waker.ensures at c.turn.ensures.exact) pending among

pub returns-clause-registered : goal.returns-clause-registered
returns-clause-registered g c pending =
    let old = c.args.self.now in
    let new = c.turn.new.self in
    let t = polled_registered g.L.WakerList.room g.T.Clone.is_clone g.T.Clone.is_infallible g.C.Change.changed g.C.Change.tells g.J.Judge.passes g.L.Waker.PartialEq.eq (watch_of old) (watch_of new) old.state.waiters new.state.waiters c.turn.new.wakes c.args.held c.turn.result.answer c.turn.result.place c.args.waker (rw c.from_waker.ensures at c.turn.ensures.exact) g.met.L.Waker.Eq.laws.refl c.turn.ensures.allowed pending in
    inr (rw t.0 t.1)

pub returns-clause-kept : goal.returns-clause-kept
returns-clause-kept g c other v fits apart owed =
    let old = c.args.self.now in
    let new = c.turn.new.self in
    let kept = polled_kept g.L.WakerList.room g.T.Clone.is_clone g.T.Clone.is_infallible g.C.Change.changed g.C.Change.tells g.J.Judge.passes g.L.Waker.PartialEq.eq (watch_of old) (watch_of new) old.state.waiters new.state.waiters c.turn.new.wakes c.args.held c.turn.result.answer c.turn.result.place c.args.waker (rw c.from_waker.ensures at c.turn.ensures.exact) c.turn.ensures.allowed other in
    kept.owed v owed

pub returns-clause-others : goal.returns-clause-others
returns-clause-others g c other fits apart =
    let old = c.args.self.now in
    let new = c.turn.new.self in
    let kept = polled_kept g.L.WakerList.room g.T.Clone.is_clone g.T.Clone.is_infallible g.C.Change.changed g.C.Change.tells g.J.Judge.passes g.L.Waker.PartialEq.eq (watch_of old) (watch_of new) old.state.waiters new.state.waiters c.turn.new.wakes c.args.held c.turn.result.answer c.turn.result.place c.args.waker (rw c.from_waker.ensures at c.turn.ensures.exact) c.turn.ensures.allowed other in
    (kept.fits fits, IsApart-any c.turn.result.place other)
