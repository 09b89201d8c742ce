-- A value that is set once: an optional value.
use Rattle.std.specs.Prelude.{List, [], ◌∷◌, Option, Some, None, Result, Ok, Err}
use Rattle.std.specs.Borrow.{Bor}
use Rattle.esync_base.specs.declared.waitqueue.Poll.{Poll}
use Rattle.esync_base.specs.declared.waitqueue.Poll.TheVariants.{Pending, Ready}
use Rattle.esync_cells.specs.declared.once_lock.InitError.{InitError}
use Rattle.esync_cells.specs.declared.once_lock.InitError.TheVariants.{Set}

-- the answer of a poll that lends a value, with the value itself
abbrev pub poll_copied : {T : Type 0} → Poll (Bor T) → Poll T
poll_copied Pending = Pending
poll_copied (Ready x) = Ready x.now

-- a poll for a value hands out its own waker if there is none
abbrev pub wakes_of_get : {T W : Type 0} → Option T → W → List W
wakes_of_get None w = w ∷ []
wakes_of_get (Some x) w = []

-- the answer to setting a value: if there is one already, it stays, and the new one is in the error
abbrev pub set_answer : {T : Type 0} → Option T → T → Result (Unit {0}) (InitError T)
set_answer None x = Ok tt
set_answer (Some y) x = Err (Set x)
