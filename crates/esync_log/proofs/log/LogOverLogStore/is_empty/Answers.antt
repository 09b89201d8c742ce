use Rattle.esync_log.proofs.log.LogOverLogStore.is_empty.Goals as goal

pub returns : goal.returns
returns g c = rw (← c.self.view_is) c.is_empty.ensures
