-- What a poll answers.
use Rattle.std.specs.Prelude.{⊤}
use Rattle.esync_base.specs.declared.waitqueue.Poll.{Poll}
use Rattle.esync_base.specs.declared.waitqueue.Poll.TheVariants.{Ready, Pending}

-- a poll that is ready gave an output of which P holds
abbrev pub IfReady : {A : Type 0} → Poll A → (A → Type 0) → Type 0
IfReady (Ready x) P = P x
IfReady Pending P = ⊤

-- P holds after a poll that is Pending
abbrev pub OnPending : {A : Type 0} → Poll A → Type 0 → Type 0
OnPending (Ready x) P = ⊤
OnPending Pending P = P
