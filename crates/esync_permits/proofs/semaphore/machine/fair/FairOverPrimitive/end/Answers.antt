use Rattle.std.proofs.Common.{◌≡◌, ap, Some, ◌∙◌, arith}
use Rattle.esync_permits.specs.declared.semaphore.machine.PermitHeld.TheVariants.{Waiting}
use Rattle.esync_permits.proofs.FairKept.{from_none, allowed_ended, kept_ended, fits_ended}
use Rattle.esync_permits.proofs.semaphore.machine.fair.FairOverPrimitive.end.Goals as goal

pub returns-in-Some-clause-allowed : goal.returns-in-Some-clause-allowed
returns-in-Some-clause-allowed g c =
    let t = c.in-Some.ticket in
    let is : c.args.held ≡ Waiting c.in-Waiting.field-0 (Some t) = c.in-Waiting.is ∙ ap (λ x. Waiting c.in-Waiting.field-0 x) c.in-Some.is in
    rw is (allowed_ended t c.args.self.now c.cancel.new.self c.cancel.ensures.entries c.cancel.ensures.permits)

pub returns-in-Some-clause-kept : goal.returns-in-Some-clause-kept
returns-in-Some-clause-kept g c h v f d o =
    let t = c.in-Some.ticket in
    let is : c.args.held ≡ Waiting c.in-Waiting.field-0 (Some t) = c.in-Waiting.is ∙ ap (λ x. Waiting c.in-Waiting.field-0 x) c.in-Some.is in
    kept_ended t c.args.self.now c.cancel.new.self c.cancel.ensures.entries c.cancel.ensures.permits g.Q.Waker.PartialEq.eq c.cancel.new.wakes (from_none _ _ _ c.cancel.ensures.wakes c.requires.empty) h v f (rw is at d) o

pub returns-in-Some-clause-others : goal.returns-in-Some-clause-others
returns-in-Some-clause-others g c h f d =
    let t = c.in-Some.ticket in
    let is : c.args.held ≡ Waiting c.in-Waiting.field-0 (Some t) = c.in-Waiting.is ∙ ap (λ x. Waiting c.in-Waiting.field-0 x) c.in-Some.is in
    fits_ended t c.args.self.now c.cancel.new.self c.cancel.ensures.entries c.cancel.ensures.permits h f (rw is at d)

pub cancel-requires : goal.cancel-requires
cancel-requires g c =
    let t = c.in-Some.ticket in
    let is : c.args.held ≡ Waiting c.in-Waiting.field-0 (Some t) = c.in-Waiting.is ∙ ap (λ x. Waiting c.in-Waiting.field-0 x) c.in-Some.is in
    (c.requires-raw.1.1.1.0, ((rw c.requires.empty (omega (arith, c.requires.room)), rw is at c.requires.fits)))

pub release-requires : goal.release-requires
release-requires g c = (c.requires-raw.1.1.1.0, (rw c.requires.empty (omega (arith, c.requires.room))))
