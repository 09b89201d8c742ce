use Rattle.std.proofs.Common.{length, arith}
use Rattle.esync_base.specs.Rows.{items_of}
use Rattle.esync_priority.proofs.Counts.{few_levels}
use Rattle.esync_priority.proofs.prio.PrioQueue.push.Goals as goal

pub returns-clause-few : goal.returns-clause-few
returns-clause-few g c =
    let done = c.push_row.ensures in
    few_levels c.args.comparisons.now c.push_row.new.comparisons c.self.inside.len (length (items_of c.push_row.new.row)) (λ behind. omega (arith, done.heap.items.count)) done.cost
