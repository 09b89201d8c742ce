use Rattle.std.proofs.lemmas.Result.{IfOk-weaker}
use Rattle.esync_machine.specs.Runs.{GoodRun}
use Rattle.esync_machine.specs.Object.{requests_meaning}
use Rattle.esync_channel.specs.ChannelRules.{channel_rules, channel_wakings}
use Rattle.esync_channel.specs.Sizes.{SizesAddUp}
use Rattle.esync_channel.specs.SizesLaws.{sizes_add_up}
use Rattle.esync_priority.specs.Prio.{Bag}
use Rattle.esync_priority.proofs.priority_channel.machine.run_priority_channel.Goals as goal

pub returns-clause-sizes : goal.returns-clause-sizes
returns-clause-sizes g c =
    let old = c.args.machine.now in
    let new = c.run.new.machine in
    let bag = Bag _ g.O.Kind.above g.row.N in
    IfOk-weaker c.run.result
    (λ replies. GoodRun (requests_meaning (channel_rules bag) (channel_wakings g.W.PartialEq.eq bag) g.W.PartialEq.eq g.row.K) (record { core = old.state.store; requests = old.requests }) old.state.slots c.args.commands.items replies.items (record { core = new.state.store; requests = new.requests }) new.state.slots)
    (λ replies. SizesAddUp g.row.N old.requests old.state.store c.args.commands.items replies.items)
    (λ replies run. sizes_add_up _ bag (channel_wakings g.W.PartialEq.eq bag) g.W.PartialEq.eq g.row.K _ _ _ _ c.args.commands.items replies.items run)
    c.run.ensures.run
