-- How many bits a value has.
use Rattle.std.specs.Prelude.{ℕ, Bool, true, false}

abbrev pub bits : Bool → ℕ
bits false = 32
bits true = 64
