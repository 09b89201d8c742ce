use Rattle.esync_permits.specs.declared.semaphore.FairPoll.TheVariants.{Pending, Ready}
use Rattle.bench_states.proofs.Waits.{alone-after, nobody-left}
use Rattle.bench_states.proofs.fair.FairStateTaskIdPool.poll.Goals as goal
use Rattle.bench_states.proofs.fair.FairStateTaskIdPool.poll.Goals.{in-Ready, in-Pending}

pub returns-clause-waiting : goal.returns-clause-waiting
returns-clause-waiting g c = elim c.match-poll_acquire.branch [
  | in-Ready w ↦ rw w.taken-is (alone-after g.row.N c.args.cx.now c.poll_acquire.new.self.entries c.args.ticket (Ready w.in-Ready.answer) c.args.self.now.entries c.requires w.in-Ready.ensures.entries)
  | in-Pending w ↦ rw w.taken-is (alone-after g.row.N c.args.cx.now c.poll_acquire.new.self.entries c.args.ticket (Pending w.in-Pending.ticket) c.args.self.now.entries c.requires w.in-Pending.ensures.entries)
]

pub returns-clause-granted : goal.returns-clause-granted
returns-clause-granted g c enough =
    nobody-left g.row.N c.args.cx.now c.poll_acquire.new.self.entries c.args.permits c.args.self.now.permits c.poll_acquire.new.self.permits enough
    c.args.ticket c.poll_acquire.result c.args.self.now.entries c.requires c.poll_acquire.ensures.permits c.poll_acquire.ensures.entries
