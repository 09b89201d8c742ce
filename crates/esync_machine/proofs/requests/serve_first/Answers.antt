use Rattle.esync_machine.proofs.Serve.{served_first}
use Rattle.esync_machine.proofs.requests.serve_first.Goals as goal

pub returns-clause-served : goal.returns-clause-served
returns-clause-served g c = served_first g.P.Primitive.rules g.P.Primitive.core g.P.Primitive.wakings g.P.Primitive.registrations g.P.Primitive.Fits g.P.Primitive.Apart g.P.Primitive.Owes g.P.Waker.PartialEq.eq c.args.state.now c.serve.new.state c.args.places.now c.serve.new.places c.args.n c.args.command c.serve.result c.serve.new.wakes c.requires.within c.serve.ensures
