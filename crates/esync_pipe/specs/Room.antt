-- The room that the wakers of a step take.
use Rattle.std.specs.Prelude.{ℕ}
use Rattle.std.specs.Mem.{FitsInMemory}
use denote.RattleType.{RattleType}
use denote.Param.{number}
use Rattle.esync_base.specs.contracts.waitqueue.Wakes.{the_row}

-- a list of n wakers fits in memory
abbrev pub WakesFit : RattleType → ℕ → Type 0
WakesFit W n = FitsInMemory (the_row W (number n))
