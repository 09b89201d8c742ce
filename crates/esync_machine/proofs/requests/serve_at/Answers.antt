use Rattle.esync_machine.proofs.requests.serve_at.Goals as goal

pub returns-in-Start : goal.returns-in-Start
returns-in-Start g c = rw (c.in-Start.is, c.requires.empty) (c.start_at.ensures c.in-Start.field-0)

pub returns-in-Poll : goal.returns-in-Poll
returns-in-Poll g c = rw c.in-Poll.is (c.poll_at.ensures c.in-Poll.field-0)

pub returns-in-End : goal.returns-in-End
returns-in-End g c = rw c.in-End.is (c.end_at.ensures c.in-End.field-0)
