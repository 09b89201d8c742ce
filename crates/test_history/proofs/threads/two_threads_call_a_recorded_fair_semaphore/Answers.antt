use denote.Param.Send.{sendable}
use Rattle.esync_base.proofs.deque.Deque.TheSendSync as entries
use Rattle.esync_base.proofs.waitqueue.TaskId.TheSendSync as waker
use Rattle.esync_permits.proofs.queue.Entry.TheSendSync as entry
use Rattle.esync_permits.proofs.queue.Queue.TheSendSync as queue
use Rattle.esync_permits.proofs.semaphore.FairOver.TheSendSync as fair
use Rattle.test_history.proofs.threads.two_threads_call_a_recorded_fair_semaphore.Goals as goal

-- a semaphore may be sent where its queue may, and a queue where its entries may
pub call_by_two-requires-send-P : goal.call_by_two-requires-send-P
call_by_two-requires-send-P g c κs = search (sendable, fair.the_send, queue.the_send, entries.the_send, entry.the_send, waker.the_send)
