use denote.Param.Send.{sendable}
use Rattle.esync_base.proofs.deque.Deque.TheSendSync as queue
use Rattle.esync_base.proofs.waitqueue.TaskId.TheSendSync as waker
use Rattle.esync_channel.proofs.channel.Mailbox.TheSendSync as mailbox
use Rattle.test_history.proofs.threads.two_threads_call_a_recorded_channel.Goals as goal

-- a channel may be sent where its queue and its wakers may, and a queue where its items may
pub call_by_two-requires-send-P : goal.call_by_two-requires-send-P
call_by_two-requires-send-P g c κs = search (sendable, mailbox.the_send, queue.the_send, waker.the_send)
