use Rattle.std.proofs.Common.{rules, arith}
use Rattle.esync_log.proofs.Counted.{unread_nobody, unread_first}
use Rattle.esync_log.proofs.log.held.Held.is_unread.Goals as goal

pub len-requires : goal.len-requires
len-requires g c = c.requires-raw.1.1.1

pub count-requires : goal.count-requires
count-requires g c = (c.requires-raw.1.1.1, search rules)

pub returns-then-len-eq0 : goal.returns-then-len-eq0
returns-then-len-eq0 g c = unread_nobody c.args.self.now.counts (omega (arith, c.len.ensures.value, c.len.ensures.paired, c.if-len-eq0.true))

pub returns : goal.returns
returns g c = rw c.count.ensures (unread_first c.args.self.now.counts (omega (arith, c.len.ensures.value, c.len.ensures.paired, c.if-len-eq0.false)))
