use Rattle.std.specs.Prelude.{ℕ}
use Rattle.std.proofs.lemmas.Result.{IfOk-weaker}
use Rattle.esync_machine.specs.Runs.{GoodRun}
use Rattle.esync_machine.specs.Object.{requests_meaning}
use Rattle.esync_cells.specs.WatchRules.{watch_rules, watch_wakings, watch_of}
use Rattle.esync_cells.specs.WatchNews.{TellsOnce}
use Rattle.esync_cells.proofs.WatchNews.{tells_once}
use Rattle.esync_cells.proofs.watch.machine.run_watch.Goals as goal

pub returns : goal.returns
returns g c = record {
  run = c.run.ensures.run;
  news = (
      let old = c.args.machine.now in
      let new = c.run.new.machine in
      let rules = watch_rules g.row.N g.T.Clone.is_clone g.T.Clone.is_infallible g.C.Change.changed g.C.Change.tells g.J.Judge.passes in
      let wakings = watch_wakings g.W.PartialEq.eq g.row.N g.C.Change.tells in
      IfOk-weaker c.run.result
      (λ replies. GoodRun (requests_meaning rules wakings g.W.PartialEq.eq g.row.K) (record { core = watch_of old.state; requests = old.requests }) old.state.state.waiters c.args.commands.items replies.items (record { core = watch_of new.state; requests = new.requests }) new.state.state.waiters)
      (λ replies. (h : ℕ) → TellsOnce h old.requests c.args.commands.items replies.items)
      (λ replies run h. tells_once g.row.N g.T.Clone.is_clone g.T.Clone.is_infallible g.C.Change.changed g.C.Change.tells g.J.Judge.passes wakings g.W.PartialEq.eq g.row.K h _ _ _ _ c.args.commands.items replies.items run c.tied.ensures.0)
      c.run.ensures.run);
  refused = c.run.ensures.refused;
}
