-- What the acts of tasks were answered.
use Rattle.std.specs.Prelude.{ℕ, ◌-◌, Bool, true, false, List, [], ◌∷◌, ◌++◌, slice_index, slice_index_or, slice_set}

-- The answers that each task heard, of its acts that are over, in order, and the room that is left for further ones.
pub record Answered (Reply : Type 0) : Type 0 where
  pub replies : List (List Reply)
  pub room : List ℕ

-- the answers after a turn of the task with this number: an act that is over adds its answer behind the earlier ones
abbrev pub noted : {Reply : Type 0} → List (List Reply) → ℕ → Bool → Reply → List (List Reply)
noted replies number false answer = replies
noted replies number true answer = slice_set replies number (slice_index_or replies number [] ++ answer ∷ [])

-- the room that is left after the turn
abbrev pub used : List ℕ → ℕ → Bool → List ℕ
used room number false = room
used room number true = slice_set room number (slice_index room number - 1)
