-- The readings of a sensor, of which the newest are kept.
use Rattle.std.specs.Prelude.{ℕ, List, drop, length, nat_lt, if◌then◌else◌}

-- the readings before a new one, of which n are kept: if there are n, the oldest leaves
abbrev pub with_room : ℕ → List ℕ → List ℕ
with_room n readings = if nat_lt (length readings) n then readings else drop 1 readings
