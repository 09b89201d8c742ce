use Rattle.std.proofs.Common.{◌-◌, ◌∙◌}
use Rattle.esync_base.specs.Rows.{items_of}
use Rattle.esync_priority.proofs.Counts.{at_most_none}
use Rattle.esync_priority.proofs.Items.{top_of_heap}
use Rattle.esync_priority.proofs.prio.PrioQueue.pop.Goals as goal

pub returns-clause-top : goal.returns-clause-top
returns-clause-top g c =
    let laws = g.met.K.Kind in
    rw (← c.self.view_is) (top_of_heap g.K.Kind.above laws.irreflexive laws.ties (items_of c.self.inside.row) c.pop_row-item.result c.self.invariant.heap c.pop_row-item.ensures.first)

pub returns-clause-last : goal.returns-clause-last
returns-clause-last g c none =
    let done = c.pop_row-item.ensures in
    at_most_none c.args.comparisons.now c.pop_row-item.new.comparisons (c.self.inside.len - 1) (done.heap.items.count ∙ none) done.more done.few
