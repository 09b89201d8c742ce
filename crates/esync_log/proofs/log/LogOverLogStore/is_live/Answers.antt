use Rattle.esync_log.proofs.log.LogOverLogStore.is_live.Goals as goal

pub returns : goal.returns
returns g c = rw (← c.self.view_is, ← c.get.ensures) c.is_some.ensures
