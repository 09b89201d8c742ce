-- The room that a list of wakers takes.
use Rattle.std.specs.Prelude.{ℕ, ◌<◌, ◌^◌}
use Rattle.std.specs.Mem.{FitsInMemory}
use denote.RattleType.{RattleType}
use denote.Param.{number}
use Rattle.esync_base.specs.contracts.waitqueue.Wakes.{the_row}

-- a list of fewer than 2 ^ 16 wakers takes fewer than 2 ^ 63 bytes
abbrev pub WakesFitInMemory : RattleType → Type 0
WakesFitInMemory W = (n : ℕ) → n < 2 ^ 16 → FitsInMemory (the_row W (number n))
