-- Which wakers are registered at which place, if there are one or two places.
use Rattle.std.specs.Prelude.{ℕ, List, [], ◌==◌, if◌then◌else◌}

abbrev pub at_one : {W : Type 0} → List W → ℕ → List W
at_one ws place = if place == 0 then ws else []

abbrev pub at_two : {W : Type 0} → List W → List W → ℕ → List W
at_two vs ws place = if place == 0 then vs else if place == 1 then ws else []
