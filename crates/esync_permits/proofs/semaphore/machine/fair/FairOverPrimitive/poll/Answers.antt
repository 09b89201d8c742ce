use Rattle.std.proofs.Common.{sym, ◌∙◌, arith}
use Rattle.esync_permits.proofs.FairKept.{polled_by, allowed_polled, exact_polled, quiet_polled, registered_polled, kept_polled, fits_own, fits_polled, apart_polled}
use Rattle.esync_permits.proofs.semaphore.machine.fair.FairOverPrimitive.poll.Goals as goal

pub returns-clause-allowed : goal.returns-clause-allowed
returns-clause-allowed g c =
    let by = polled_by g.Q.WaitQueue.places c.args.waker c.in-Waiting.amount c.in-Waiting.ticket c.args.self.now c.poll.result c.poll.new.self c.args.wakes.now c.poll.new.wakes c.poll.ensures.permits c.poll.ensures.full c.poll.ensures.entries c.poll.ensures.wakes c.requires.empty in
    rw (c.in-Waiting.is, c.turn_of.ensures.answer, c.turn_of.ensures.place)
    (allowed_polled g.Q.Waker.PartialEq.eq g.Q.WaitQueue.places c.args.waker c.in-Waiting.amount c.args.self.now c.poll.new.self c.poll.new.wakes c.in-Waiting.ticket c.poll.result by)

pub returns-clause-exact : goal.returns-clause-exact
returns-clause-exact g c =
    let by = polled_by g.Q.WaitQueue.places c.args.waker c.in-Waiting.amount c.in-Waiting.ticket c.args.self.now c.poll.result c.poll.new.self c.args.wakes.now c.poll.new.wakes c.poll.ensures.permits c.poll.ensures.full c.poll.ensures.entries c.poll.ensures.wakes c.requires.empty in
    rw (c.in-Waiting.is, c.turn_of.ensures.answer, c.turn_of.ensures.place)
    (exact_polled g.Q.Waker.PartialEq.eq g.Q.WaitQueue.places c.args.waker c.in-Waiting.amount c.args.self.now c.poll.new.self c.poll.new.wakes c.in-Waiting.ticket c.poll.result by)

pub returns-clause-quiet : goal.returns-clause-quiet
returns-clause-quiet g c n a o q i =
    let by = polled_by g.Q.WaitQueue.places c.args.waker c.in-Waiting.amount c.in-Waiting.ticket c.args.self.now c.poll.result c.poll.new.self c.args.wakes.now c.poll.new.wakes c.poll.ensures.permits c.poll.ensures.full c.poll.ensures.entries c.poll.ensures.wakes c.requires.empty in
    quiet_polled g.Q.Waker.PartialEq.eq g.Q.WaitQueue.places c.args.waker c.in-Waiting.amount c.args.self.now c.poll.new.self c.poll.new.wakes c.in-Waiting.ticket c.poll.result by (sym c.turn_of.ensures.answer ∙ a) i

pub returns-clause-registered : goal.returns-clause-registered
returns-clause-registered g c a =
    let by = polled_by g.Q.WaitQueue.places c.args.waker c.in-Waiting.amount c.in-Waiting.ticket c.args.self.now c.poll.result c.poll.new.self c.args.wakes.now c.poll.new.wakes c.poll.ensures.permits c.poll.ensures.full c.poll.ensures.entries c.poll.ensures.wakes c.requires.empty in
    rw c.turn_of.ensures.place
    (registered_polled g.Q.Waker.PartialEq.eq g.Q.WaitQueue.places c.args.waker c.in-Waiting.amount c.args.self.now c.poll.new.self c.poll.new.wakes g.met.Q.Waker.Eq.laws.refl c.in-Waiting.ticket c.poll.result by (rw c.in-Waiting.is at c.requires.fits) (sym c.turn_of.ensures.answer ∙ a))

pub returns-clause-kept : goal.returns-clause-kept
returns-clause-kept g c h v f d o =
    let by = polled_by g.Q.WaitQueue.places c.args.waker c.in-Waiting.amount c.in-Waiting.ticket c.args.self.now c.poll.result c.poll.new.self c.args.wakes.now c.poll.new.wakes c.poll.ensures.permits c.poll.ensures.full c.poll.ensures.entries c.poll.ensures.wakes c.requires.empty in
    kept_polled g.Q.Waker.PartialEq.eq g.Q.WaitQueue.places c.args.waker c.in-Waiting.amount c.args.self.now c.poll.new.self c.poll.new.wakes c.in-Waiting.ticket c.poll.result h v by f (rw c.in-Waiting.is at d) o

pub returns-clause-fits : goal.returns-clause-fits
returns-clause-fits g c =
    let by = polled_by g.Q.WaitQueue.places c.args.waker c.in-Waiting.amount c.in-Waiting.ticket c.args.self.now c.poll.result c.poll.new.self c.args.wakes.now c.poll.new.wakes c.poll.ensures.permits c.poll.ensures.full c.poll.ensures.entries c.poll.ensures.wakes c.requires.empty in
    rw c.turn_of.ensures.place
    (fits_own g.Q.Waker.PartialEq.eq g.Q.WaitQueue.places c.args.waker c.in-Waiting.amount c.args.self.now c.poll.new.self c.poll.new.wakes c.in-Waiting.ticket c.poll.result by (rw c.in-Waiting.is at c.requires.fits))

pub returns-clause-others : goal.returns-clause-others
returns-clause-others g c h f d =
    let by = polled_by g.Q.WaitQueue.places c.args.waker c.in-Waiting.amount c.in-Waiting.ticket c.args.self.now c.poll.result c.poll.new.self c.args.wakes.now c.poll.new.wakes c.poll.ensures.permits c.poll.ensures.full c.poll.ensures.entries c.poll.ensures.wakes c.requires.empty in
    rw c.turn_of.ensures.place (
      fits_polled g.Q.Waker.PartialEq.eq g.Q.WaitQueue.places c.args.waker c.in-Waiting.amount c.args.self.now c.poll.new.self c.poll.new.wakes c.in-Waiting.ticket c.poll.result h by f (rw c.in-Waiting.is at d),
      apart_polled g.Q.Waker.PartialEq.eq g.Q.WaitQueue.places c.args.waker c.in-Waiting.amount c.args.self.now c.poll.new.self c.poll.new.wakes c.in-Waiting.ticket c.poll.result h by f (rw c.in-Waiting.is at d),
    )

pub poll-requires : goal.poll-requires
poll-requires g c = (c.requires-raw.1.1.1.0, (rw c.requires.empty (omega (arith, c.requires.room))))
