use Rattle.std.proofs.Common.{◌≡◌, ℕ, true, ◌<◌, None}
use Rattle.std.specs.Prelude.{is_some, slice_index_or}
use Rattle.esync_log.proofs.log.positions.PositionsPlaces.free_place.Given as goal

abbrev pub invariant-loop-place : goal.invariant-loop-place
invariant-loop-place g l = (k : ℕ) → k < l.place → is_some (slice_index_or l.self k None) ≡ true
