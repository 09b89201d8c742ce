use Rattle.std.proofs.lemmas.Result.{IfOk-weaker}
use Rattle.esync_machine.specs.Runs.{GoodRun}
use Rattle.esync_machine.specs.Object.{requests_meaning}
use Rattle.esync_pipe.specs.PipeRules.{pipe_rules, pipe_wakings}
use Rattle.esync_pipe.specs.PipeOrder.{InOrder, SizesAddUp}
use Rattle.esync_pipe.proofs.Order.{in_order, sizes_add_up}
use Rattle.esync_pipe.proofs.pipe.machine.run_pipe.Goals as goal

pub returns-clause-order : goal.returns-clause-order
returns-clause-order g c =
    let old = c.args.machine.now in
    let new = c.run.new.machine in
    IfOk-weaker c.run.result
    (λ replies. GoodRun (requests_meaning (pipe_rules g.row.N) (pipe_wakings g.W.PartialEq.eq g.row.N) g.W.PartialEq.eq g.row.K) (record { core = old.state.ring; requests = old.requests }) old.state.slots c.args.commands.items replies.items (record { core = new.state.ring; requests = new.requests }) new.state.slots)
    (λ replies. InOrder g.row.N old.requests old.state.ring.items c.args.commands.items replies.items new.state.ring.items)
    (λ replies run. in_order _ g.row.N (pipe_wakings g.W.PartialEq.eq g.row.N) g.W.PartialEq.eq g.row.K _ _ _ _ c.args.commands.items replies.items run)
    c.run.ensures.run

pub returns-clause-sizes : goal.returns-clause-sizes
returns-clause-sizes g c =
    let old = c.args.machine.now in
    let new = c.run.new.machine in
    IfOk-weaker c.run.result
    (λ replies. GoodRun (requests_meaning (pipe_rules g.row.N) (pipe_wakings g.W.PartialEq.eq g.row.N) g.W.PartialEq.eq g.row.K) (record { core = old.state.ring; requests = old.requests }) old.state.slots c.args.commands.items replies.items (record { core = new.state.ring; requests = new.requests }) new.state.slots)
    (λ replies. SizesAddUp g.row.N old.requests old.state.ring.items c.args.commands.items replies.items)
    (λ replies run. sizes_add_up _ g.row.N (pipe_wakings g.W.PartialEq.eq g.row.N) g.W.PartialEq.eq g.row.K _ _ _ _ c.args.commands.items replies.items run)
    c.run.ensures.run
