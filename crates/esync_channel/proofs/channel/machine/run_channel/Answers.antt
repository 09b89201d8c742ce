use Rattle.std.proofs.lemmas.Result.{IfOk-weaker}
use Rattle.esync_base.specs.Keeping.{BoundedList}
use Rattle.esync_machine.specs.Runs.{GoodRun}
use Rattle.esync_machine.specs.Object.{requests_meaning}
use Rattle.esync_channel.specs.ChannelRules.{channel_rules, channel_wakings}
use Rattle.esync_channel.specs.Order.{InOrder}
use Rattle.esync_channel.specs.Sizes.{SizesAddUp}
use Rattle.esync_channel.specs.SizesLaws.{sizes_add_up}
use Rattle.esync_channel.proofs.Order.{in_order}
use Rattle.esync_channel.proofs.channel.machine.run_channel.Goals as goal

pub returns-clause-order : goal.returns-clause-order
returns-clause-order g c =
    let old = c.args.machine.now in
    let new = c.run.new.machine in
    IfOk-weaker c.run.result
    (λ replies. GoodRun (requests_meaning (channel_rules (BoundedList _ g.row.N)) (channel_wakings g.W.PartialEq.eq (BoundedList _ g.row.N)) g.W.PartialEq.eq g.row.K) (record { core = old.state.store.items; requests = old.requests }) old.state.slots c.args.commands.items replies.items (record { core = new.state.store.items; requests = new.requests }) new.state.slots)
    (λ replies. InOrder old.requests old.state.store.items c.args.commands.items replies.items new.state.store.items)
    (λ replies run. in_order _ g.row.N (channel_wakings g.W.PartialEq.eq (BoundedList _ g.row.N)) g.W.PartialEq.eq g.row.K _ _ _ _ c.args.commands.items replies.items run)
    c.run.ensures.run

pub returns-clause-sizes : goal.returns-clause-sizes
returns-clause-sizes g c =
    let old = c.args.machine.now in
    let new = c.run.new.machine in
    IfOk-weaker c.run.result
    (λ replies. GoodRun (requests_meaning (channel_rules (BoundedList _ g.row.N)) (channel_wakings g.W.PartialEq.eq (BoundedList _ g.row.N)) g.W.PartialEq.eq g.row.K) (record { core = old.state.store.items; requests = old.requests }) old.state.slots c.args.commands.items replies.items (record { core = new.state.store.items; requests = new.requests }) new.state.slots)
    (λ replies. SizesAddUp g.row.N old.requests old.state.store.items c.args.commands.items replies.items)
    (λ replies run. sizes_add_up _ (BoundedList _ g.row.N) (channel_wakings g.W.PartialEq.eq (BoundedList _ g.row.N)) g.W.PartialEq.eq g.row.K _ _ _ _ c.args.commands.items replies.items run)
    c.run.ensures.run
