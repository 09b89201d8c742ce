use denote.Param.Send.{sendable}
use Rattle.esync_base.proofs.waitqueue.TaskId.TheSendSync as waker
use Rattle.esync_base.proofs.waitqueue.Wakes.TheSendSync as wakes
use Rattle.esync_base.proofs.extent.Fixed.TheSendSync as fixed
use Rattle.esync_log.proofs.log.LogOver.TheSendSync as log
use Rattle.esync_log.proofs.log.positions.Positions.TheSendSync as positions
use Rattle.esync_log.proofs.log.held.Held.TheSendSync as held
use Rattle.esync_pubsub.proofs.pubsub.machine.Events.TheSendSync as events
use Rattle.test_history.proofs.threads.lists.two_threads_call_a_recorded_pubsub_channel.Goals as goal

-- a channel may be sent where its log and its lists of wakers may, and a log where its messages and its positions may
pub call_by_two-requires-send-P : goal.call_by_two-requires-send-P
call_by_two-requires-send-P g c κs = search (sendable, events.the_send, log.the_send, positions.the_send, fixed.the_send, held.the_send, wakes.the_send, waker.the_send) depth 7
