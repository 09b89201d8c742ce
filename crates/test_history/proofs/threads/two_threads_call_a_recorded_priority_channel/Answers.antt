use denote.Param.Send.{sendable}
use Rattle.esync_base.proofs.waitqueue.TaskId.TheSendSync as waker
use Rattle.esync_channel.proofs.channel.Mailbox.TheSendSync as mailbox
use Rattle.esync_priority.proofs.prio.PrioQueue.TheSendSync as queue
use Rattle.test_history.proofs.threads.two_threads_call_a_recorded_priority_channel.Goals as goal

-- a channel may be sent where its queue and its wakers may, and a queue where its items may
pub call_by_two-requires-send-P : goal.call_by_two-requires-send-P
call_by_two-requires-send-P g c κs = search (sendable, mailbox.the_send, queue.the_send, waker.the_send)
