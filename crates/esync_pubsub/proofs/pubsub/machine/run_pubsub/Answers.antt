use Rattle.std.proofs.Common.{ℕ, rules}
use Rattle.std.proofs.lemmas.Result.{IfOk-weaker}
use Rattle.esync_machine.specs.Runs.{GoodRun}
use Rattle.esync_machine.specs.Object.{requests_meaning}
use Rattle.esync_pubsub.specs.PubSubRules.{topic_of, pubsub_rules, pubsub_wakings}
use Rattle.esync_pubsub.specs.Order.{ReadsInOrder, CountsAreTrue, topic_in}
use Rattle.esync_pubsub.specs.Sizes.{SizesAddUp}
use Rattle.esync_pubsub.proofs.Order.{whole_of, in_order, counts_are_true, sizes_add_up}
use Rattle.esync_pubsub.proofs.pubsub.machine.run_pubsub.Goals as goal

pub returns : goal.returns
returns g c =
    let old = c.args.machine.now in
    let new = c.run.new.machine in
    let clone = g.T.Clone in
    let wakings = pubsub_wakings g.W.PartialEq.eq g.row.SUBS g.row.PUBS in
    let whole = whole_of g.row.NAMES g.row.CAP g.row.PUBS c.state.result.now old.state c.state.ensures c.named.ensures.named c.named.ensures.numbered in
    record {
      run = c.run.ensures.run;
      order = (
          IfOk-weaker c.run.result
          (λ replies. GoodRun (requests_meaning (pubsub_rules clone.is_clone clone.is_infallible g.row.CAP g.row.PUBS) wakings g.W.PartialEq.eq g.row.K) (record { core = topic_of old.state.state old.state.tables; requests = old.requests }) old.state.state.lists c.args.commands.items replies.items (record { core = topic_of new.state.state new.state.tables; requests = new.requests }) new.state.state.lists)
          (λ replies. (s : ℕ) → ReadsInOrder clone.is_clone g.row.CAP s old.requests (topic_in old.state) c.args.commands.items replies.items (topic_in new.state))
          (λ replies run s. in_order clone.is_clone g.row.NAMES s clone.is_infallible g.row.CAP g.row.PUBS _ wakings g.W.PartialEq.eq g.row.K _ _ _ _ c.args.commands.items replies.items run whole)
          c.run.ensures.run);
      counts = (
          IfOk-weaker c.run.result
          (λ replies. GoodRun (requests_meaning (pubsub_rules clone.is_clone clone.is_infallible g.row.CAP g.row.PUBS) wakings g.W.PartialEq.eq g.row.K) (record { core = topic_of old.state.state old.state.tables; requests = old.requests }) old.state.state.lists c.args.commands.items replies.items (record { core = topic_of new.state.state new.state.tables; requests = new.requests }) new.state.state.lists)
          (λ replies. (s : ℕ) → CountsAreTrue clone.is_clone g.row.CAP s old.requests (topic_in old.state) c.args.commands.items replies.items)
          (λ replies run s. counts_are_true clone.is_clone g.row.NAMES s clone.is_infallible g.row.CAP g.row.PUBS _ wakings g.W.PartialEq.eq g.row.K _ _ _ _ c.args.commands.items replies.items run whole)
          c.run.ensures.run);
      sizes = (
          IfOk-weaker c.run.result
          (λ replies. GoodRun (requests_meaning (pubsub_rules clone.is_clone clone.is_infallible g.row.CAP g.row.PUBS) wakings g.W.PartialEq.eq g.row.K) (record { core = topic_of old.state.state old.state.tables; requests = old.requests }) old.state.state.lists c.args.commands.items replies.items (record { core = topic_of new.state.state new.state.tables; requests = new.requests }) new.state.state.lists)
          (λ replies. (s : ℕ) → SizesAddUp g.row.CAP s old.requests (topic_in old.state) c.args.commands.items replies.items)
          (λ replies run s. sizes_add_up clone.is_clone g.row.NAMES s clone.is_infallible g.row.CAP g.row.PUBS _ wakings g.W.PartialEq.eq g.row.K _ _ _ _ c.args.commands.items replies.items run whole)
          c.run.ensures.run);
      refused = c.run.ensures.refused;
    }

pub state-requires : goal.state-requires
state-requires g c = c.requires-raw.1.1.1.1.1.1.1.1.0

pub run-requires-room-M-Machine-2 : goal.run-requires-room-M-Machine-2
run-requires-room-M-Machine-2 g c κs within = search rules

pub run-requires-room-M-Reply-Destruct : goal.run-requires-room-M-Reply-Destruct
run-requires-room-M-Reply-Destruct g c κs within = search rules
