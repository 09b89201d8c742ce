use Rattle.esync_pipe.proofs.Kept.{called_keeps}
use Rattle.esync_pipe.proofs.pipe.machine.PipeRowsOverPrimitive.call.Goals as goal

pub returns-clause-kept : goal.returns-clause-kept
returns-clause-kept g c =
    let old = c.self.inside.state in
    let new = c.perform.new.self in
    rw (← c.self.view_is) (λ other v f apart ends owed. called_keeps g.W.PartialEq.eq g.R.ByteStore.capacity old.ring new.ring old.slots c.args.call c.perform.result c.perform.ensures.allowed c.perform.new.wakes new.slots c.perform.ensures.exact other v owed)
