use Rattle.std.proofs.Common.{rules, arith, sym, ◌∙◌}
use Rattle.esync_log.specs.LogLaws.{place_below}
use Rattle.esync_log.proofs.log.LogOver.position.Goals as goal

pub returns : goal.returns
returns g c = record {
  value = search rules;
  live = search rules;
  within = rw (← c.self.view_is) (c.self.invariant.within c.args.place c.in-Some.position (sym c.get.ensures ∙ c.in-Some.is));
  place = (
      let a = c.self.inside in
      let live = rw (← c.self.view_is) at c.requires in
      omega (arith, place_below (g.P.Places.numbers a.positions) c.args.place live, c.self.invariant.places));
}
