use Rattle.std.proofs.Common.{sym, ◌∙◌}
use Rattle.esync_machine.proofs.Serve.{end_turned}
use Rattle.esync_machine.proofs.requests.end_at.Goals as goal

pub returns : goal.returns
returns g c r =
    let e = c.end.ensures in
    rw (sym c.take.ensures.value ∙ c.in-Some.is, c.take.ensures.after) (end_turned g.P.Primitive.rules g.P.Primitive.core g.P.Primitive.wakings g.P.Primitive.registrations g.P.Primitive.Fits g.P.Primitive.Apart g.P.Primitive.Owes g.P.Waker.PartialEq.eq c.args.state.now c.end.new.self r c.in-Some.held c.end.new.wakes e.allowed e.exact e.kept e.others)
