use Rattle.esync_log.proofs.log.LogOverLogStore.len.Goals as goal

pub returns : goal.returns
returns g c = record {
  value = rw (← c.self.view_is) c.len.ensures.value;
  within = c.len.ensures.within;
  numbered = rw (← c.self.view_is) c.self.invariant.numbered;
}
