-- What the polls of a pipe answer, and what they leave of their requests.
use Rattle.std.specs.Prelude.{◌≡◌, ℕ, ◌<◌, List, length, drop, Option, Some, None, IfSome}
use Rattle.esync_base.specs.declared.waitqueue.Poll.{Poll}
use Rattle.esync_base.specs.declared.waitqueue.Poll.TheVariants.{Pending, Ready}

-- a fact about the answer of a poll, if it is ready
abbrev pub IfReady : {T : Type 0} → Poll T → (T → Type 0) → Type 0
IfReady (Ready x) P = P x
IfReady Pending P = Unit {0}

-- what a poll leaves of the bytes that its request is to write: none once it is ready; where it waits, the last ones, at least one of
-- them, in their order
abbrev pub LeavesBytes : Poll (Unit {0}) → Option (List ℕ) → Option (List ℕ) → Type 0
LeavesBytes (Ready done) old rest = rest ≡ None
LeavesBytes Pending old rest = IfSome old (λ bytes. (k : ℕ) × (k < length bytes) × (rest ≡ Some (drop k bytes)))

-- a poll to fill leaves a copy as it was if it waits
abbrev pub KeepsCopy : Poll (Unit {0}) → List ℕ → List ℕ → Type 0
KeepsCopy (Ready done) old new = Unit {0}
KeepsCopy Pending old new = new ≡ old
