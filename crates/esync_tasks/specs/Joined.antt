-- The two halves of a join.
use Rattle.std.specs.Prelude.{◌≡◌, ⊤}
use Rattle.esync_tasks.specs.declared.future.joined.Half.{Half}
use Rattle.esync_tasks.specs.declared.future.joined.Half.TheVariants.{Waits, Ready, Taken}

module _ {F X : Type 0} where
  -- a half's future may be polled, or its output is there
  abbrev pub CanAdvance : (F → Type 0) → Half F X → Type 0
  CanAdvance can_poll (Waits future) = can_poll future
  CanAdvance can_poll (Ready output) = ⊤
  CanAdvance can_poll Taken = ⊥

  -- a half's output is there
  abbrev pub IsReady : Half F X → Type 0
  IsReady (Ready output) = ⊤
  IsReady (Waits future) = ⊥
  IsReady Taken = ⊥

  -- the output is one that the half's future may give, or the one that it keeps
  abbrev pub MayGive : (F → X → Type 0) → Half F X → X → Type 0
  MayGive gives (Waits future) output = gives future output
  MayGive gives (Ready kept) output = output ≡ kept
  MayGive gives Taken output = ⊥
