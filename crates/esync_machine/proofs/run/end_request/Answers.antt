use Rattle.esync_machine.proofs.run.end_request.Goals as goal

pub returns-clause-gone : goal.returns-clause-gone
returns-clause-gone g c =
    let keeps = g.met.M.Awaits.keeps in
    keeps.gone _ _ _ _ c.args.r c.step.ensures.allowed (keeps.ends _ _ c.args.r c.end.ensures)
