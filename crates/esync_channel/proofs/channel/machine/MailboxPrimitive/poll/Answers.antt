use Rattle.std.proofs.Common.{Some}
use Rattle.esync_channel.proofs.Kept.{from_none, sent_if, taken_if, kept_taken, kept_room}
use Rattle.esync_channel.proofs.channel.machine.MailboxPrimitive.poll.Goals as goal

pub returns-in-Ready-clause-kept : goal.returns-in-Ready-clause-kept
returns-in-Ready-clause-kept g c ask v f a h =
    let e = c.in-Ready.ensures in
    rw (from_none _ _ _ e.wakes c.requires.empty, e.slots) (kept_taken g.W.PartialEq.eq g.S.Store.keeping (g.S.Store.held c.args.self.now.store) (g.S.Store.held c.poll_receive.new.self.store) c.args.self.now.slots (Some c.from_waker-cx.result) c.in-Ready.message ask v e.messages h)

pub returns-in-Pending-poll_ready_to_send-clause-kept :
    goal.returns-in-Pending-poll_ready_to_send-clause-kept
returns-in-Pending-poll_ready_to_send-clause-kept g c ask v f a h =
    let e = c.poll_ready_to_send.ensures in
    rw (from_none _ _ _ e.wakes c.requires.empty, e.slots, e.messages) (kept_room g.W.PartialEq.eq g.S.Store.keeping (g.S.Store.held c.args.self.now.store) c.args.self.now.slots _ ask v h)

pub returns-in-Err-clause-exact : goal.returns-in-Err-clause-exact
returns-in-Err-clause-exact g c =
    let e = c.try_send_with_context.ensures in
    rw (c.in-Send.is, c.waits.ensures.answer, ← c.from_waker-cx.ensures, ← sent_if g.S.Store.keeping _ _ _ _ e.messages) (from_none _ _ _ e.wakes c.requires.empty, e.slots)

pub returns-in-Ready-clause-exact : goal.returns-in-Ready-clause-exact
returns-in-Ready-clause-exact g c =
    let e = c.in-Ready.ensures in
    rw (c.in-Receive.is, c.over-in-Ready.ensures.answer, ← c.from_waker-cx.ensures, taken_if g.S.Store.keeping _ _ _ e.messages) (from_none _ _ _ e.wakes c.requires.empty, e.slots)
