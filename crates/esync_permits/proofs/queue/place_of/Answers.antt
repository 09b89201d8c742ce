use Rattle.esync_permits.proofs.Entries.{stands_found, not_found}
use Rattle.esync_permits.proofs.queue.place_of.Goals as goal

pub returns-then-get-number-clause-found : goal.returns-then-get-number-clause-found
returns-then-get-number-clause-found g c = stands_found c.args.number c.loop-i.i c.args.entries.now.items c.get.result.now c.get.ensures c.loop-i.invariant c.if-get-number.true

pub loop-i-preserved : goal.loop-i-preserved
loop-i-preserved g c = not_found c.args.number c.loop-i.i c.args.entries.now.items c.get.result.now c.get.ensures c.loop-i.invariant c.if-get-number.false
