use Rattle.esync_history.proofs.Lines.{line_made}
use Rattle.esync_history.proofs.queue.Queue.new.Goals as goal

pub invariant_of-result : goal.invariant_of-result
invariant_of-result c = line_made _ _ _ c.args.room (c.in_ok-with_capacity.ensures.items) (c.in_ok-vec.ensures.items_if_clones_equal (λ y e. e)) c.in_ok-with_capacity.ensures.capacity
