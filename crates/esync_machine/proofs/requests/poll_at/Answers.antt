use Rattle.std.proofs.Common.{sym, ◌∙◌}
use Rattle.esync_machine.proofs.Serve.{poll_turned}
use Rattle.esync_machine.proofs.requests.poll_at.Goals as goal

pub returns : goal.returns
returns g c r =
    let e = c.poll-answer.ensures in
    rw (sym c.take.ensures.value ∙ c.in-Some.is) (poll_turned g.P.Primitive.rules g.P.Primitive.core g.P.Primitive.wakings g.P.Primitive.registrations g.P.Primitive.Fits g.P.Primitive.Apart g.P.Primitive.Owes g.P.Waker.PartialEq.eq c.args.state.now c.poll-answer.new.self r c.args.waker c.in-Some.held c.poll-answer.result.answer c.poll-answer.result.place c.poll-answer.new.wakes e.allowed e.exact e.quiet e.registered e.kept e.fits e.others)
