use Rattle.std.specs.Prelude.{ℕ}
use Rattle.std.proofs.lemmas.Result.{IfOk-weaker}
use Rattle.esync_machine.specs.Runs.{GoodRun}
use Rattle.esync_machine.specs.Object.{Object, requests_meaning}
use Rattle.esync_permits.specs.GreedyRules.{Held, greedy, greedy_rules, greedy_wakings}
use Rattle.esync_permits.specs.PermitSums.{total, AddsUp}
use Rattle.esync_permits.proofs.Sums.{adds_up, greedy_keeps}
use Rattle.esync_permits.proofs.semaphore.machine.greedy.run_greedy.Goals as goal

pub returns-clause-total : goal.returns-clause-total
returns-clause-total g c =
    let old = c.args.machine.now in
    let new = c.run.new.machine in
    let before : Object ℕ Held = record { core = old.state.permits; requests = old.requests } in
    let after : Object ℕ Held = record { core = new.state.permits; requests = new.requests } in
    IfOk-weaker c.run.result
    (λ replies. GoodRun (requests_meaning greedy_rules (greedy_wakings g.W.PartialEq.eq) g.W.PartialEq.eq g.row.K) before old.state.waiter c.args.commands.items replies.items after new.state.waiter)
    (λ replies. AddsUp (total greedy before) c.args.commands.items (total greedy after))
    (λ replies run. adds_up greedy greedy_keeps (greedy_wakings g.W.PartialEq.eq) g.W.PartialEq.eq g.row.K before after _ _ c.args.commands.items replies.items run)
    c.run.ensures.run
