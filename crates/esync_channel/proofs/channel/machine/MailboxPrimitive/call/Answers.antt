use Rattle.std.proofs.Common.{None, refl}
use Rattle.esync_channel.proofs.Kept.{from_none, received_if, kept_received}
use Rattle.esync_channel.proofs.channel.machine.MailboxPrimitive.call.Goals as goal

pub returns-in-TrySend-clause-allowed : goal.returns-in-TrySend-clause-allowed
returns-in-TrySend-clause-allowed g c = rw c.in-TrySend.is ((c.try_send.result, refl, c.try_send.ensures.messages), refl)

pub returns-in-TryReceive-clause-exact : goal.returns-in-TryReceive-clause-exact
returns-in-TryReceive-clause-exact g c =
    let e = c.try_receive.ensures in
    rw (c.in-TryReceive.is, ← received_if g.S.Store.keeping _ _ _ e.messages) (from_none _ _ _ e.wakes c.requires.empty, e.slots)

pub returns-in-TryReceive-clause-kept : goal.returns-in-TryReceive-clause-kept
returns-in-TryReceive-clause-kept g c ask v f a b h =
    let e = c.try_receive.ensures in
    rw (from_none _ _ _ e.wakes c.requires.empty, e.slots) (kept_received g.W.PartialEq.eq g.S.Store.keeping (g.S.Store.held c.args.self.now.store) (g.S.Store.held c.try_receive.new.self.store) c.args.self.now.slots None c.try_receive.result ask v e.messages h)
