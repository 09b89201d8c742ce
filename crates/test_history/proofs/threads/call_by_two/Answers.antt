use denote.Exit.{yes}
use denote.Param.{param, copied, number}
use denote.Param.Send.{param_send, copied_send, arg_send}
use Rattle.esync_base.specs.contracts.waitqueue.TaskId as task
use Rattle.esync_base.specs.contracts.waitqueue.TaskIdPartialEq.TheImpl as task_equality
use Rattle.esync_base.proofs.waitqueue.TaskId.TheSendSync as waker
use Rattle.esync_base.specs.contracts.extent.FixedExtent.TheImpl as extent
use Rattle.esync_base.proofs.extent.Fixed.TheSendSync as fixed
use Rattle.esync_machine.proofs.primitive.Command.TheSendSync as command
use Rattle.esync_machine.proofs.requests.RequestsOver.TheSendSync as machine
use Rattle.test_history.proofs.threads.call_by_two.Goals as goal

-- a machine may be sent where its primitive and what stands at its numbers may
pub count_calls-requires-send-M : goal.count_calls-requires-send-M
count_calls-requires-send-M g c κs within =
    param_send 0 _ (arg_send _ yes _ (machine.the_send (param 0 g.row.P) _ (param 2 (number g.row.REQS)) (param 3 (number g.row.K)) (copied 4 g.row.P-Ask) (copied 5 g.row.P-Held) (copied 6 g.row.P-Call)
    (copied 7 g.row.P-Heard) task.the_row g.P.Primitive task_equality.ghosts (extent.ghosts (param 2 (number g.row.REQS))) c.type_bounds.send-P (fixed.the_send (param 2 (number g.row.REQS))) c.type_bounds.send-P-Held))

pub count_calls-requires-send-H : goal.count_calls-requires-send-H
count_calls-requires-send-H g c κs within = record { owned = c.type_bounds.send-P-Heard.owned; leaving = λ k x w. tt }

-- a command may be sent where what it is made of may
pub count_calls-requires-send-M-Command : goal.count_calls-requires-send-M-Command
count_calls-requires-send-M-Command g c κs within = copied_send 5 _ (arg_send _ yes _ (command.the_send _ _ _ c.type_bounds.send-P-Ask waker.the_send c.type_bounds.send-P-Call))

pub count_calls-requires-sync-R : goal.count_calls-requires-sync-R
count_calls-requires-sync-R g c κs within = record { shared = c.type_bounds.sync-R.shared }
