use Rattle.std.proofs.lemmas.Result.{IfOk-weaker}
use Rattle.esync_machine.specs.Runs.{GoodRun}
use Rattle.esync_machine.specs.Object.{requests_meaning}
use Rattle.esync_cells.specs.OnceRules.{once_rules, once_wakings}
use Rattle.esync_cells.specs.OnceSet.{StaysSet}
use Rattle.esync_cells.proofs.OnceSet.{stays_set}
use Rattle.esync_cells.proofs.once_lock.machine.run_once.Goals as goal

pub returns : goal.returns
returns g c = record {
  run = c.run.ensures.run;
  set = (
      let old = c.args.machine.now in
      let new = c.run.new.machine in
      IfOk-weaker c.run.result
      (λ replies. GoodRun (requests_meaning (once_rules g.row.T.Denot) (once_wakings g.row.T.Denot g.row.W.Denot) g.W.PartialEq.eq g.row.K) (record { core = old.state; requests = old.requests }) tt c.args.commands.items replies.items (record { core = new.state; requests = new.requests }) tt)
      (λ replies. StaysSet old.state old.requests c.args.commands.items replies.items)
      (λ replies run. stays_set (once_wakings g.row.T.Denot g.row.W.Denot) g.W.PartialEq.eq g.row.K _ _ _ _ c.args.commands.items replies.items run)
      c.run.ensures.run);
  refused = c.run.ensures.refused;
}
