use Rattle.std.proofs.Common.{◌∙◌, sym, ap}
use Rattle.std.specs.Prelude.{Some, map}
use Rattle.esync_base.specs.Rows.{items_of}
use Rattle.esync_base.proofs.Lists.{items_of-all}
use Rattle.esync_base.proofs.waitqueue.Wakes.iter.Goals as goal

pub invariant_of-result : goal.invariant_of-result
invariant_of-result g c = c.filled.ensures ∙ sym (ap (λ row. map Some (items_of row)) c.filled.ensures ∙ ap (map Some) (items_of-all c.args.self.now))

pub returns : goal.returns
returns g c = ap items_of c.filled.ensures ∙ items_of-all c.args.self.now
