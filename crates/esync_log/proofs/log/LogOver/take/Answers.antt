use Rattle.std.proofs.Common.{rules, sym, ◌∙◌}
use Rattle.esync_log.proofs.Logged.{takes_clone, refused_clone}
use Rattle.esync_log.proofs.log.LogOver.take.Goals as goal

pub returns-else-is_last : goal.returns-else-is_last
returns-else-is_last g c = record {
  ok = takes_clone g.H.Message.Clone.is_clone c.args.place c.args.position c.args.self.now c.take_clone.new.self c.take_clone.result c.requires.from (sym c.is_last.ensures ∙ c.if-is_last.false) c.take_clone.ensures.ok c.take_clone.ensures.state;
  refused = refused_clone g.H.Message.Clone.is_infallible c.args.place c.args.position c.args.self.now c.take_clone.result c.requires.from (sym c.is_last.ensures ∙ c.if-is_last.false) c.take_clone.ensures.refused;
  err = search rules;
}
