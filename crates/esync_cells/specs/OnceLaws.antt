-- The laws that a value which is set once keeps.
use Rattle.std.specs.Prelude.{Some, None}
use Rattle.esync_machine.specs.Rules.{IdleIsPending}
use Rattle.esync_cells.specs.OnceRules.{once_rules}

pub once_pending : {T : Type 0} → IdleIsPending (once_rules T)
once_pending None h a o2 p i k = k
once_pending (Some x) h a o2 p i k = (let f = i.0 in absurd cc)
