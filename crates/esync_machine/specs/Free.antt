-- Which numbers of a table a start takes.
use Rattle.std.specs.Prelude.{◌≡◌, ◌<◌, ℕ, Option, None}
use Rattle.esync_machine.specs.declared.primitive.Answer.{Answer}
use Rattle.esync_machine.specs.declared.primitive.Command.TheVariants.{Start}
use Rattle.esync_machine.specs.Numbers.{at_number}
use Rattle.esync_machine.specs.Rules.{Rules}
use Rattle.esync_machine.specs.Object.{Object, Allows, begun, written}

module _ {Ask Held C A : Type 0} (R : Rules Ask Held C A) where
  -- A start at the number has the answer that the primitive gives to what is asked. It is NoSuch if the primitive makes
  -- no request for it. Otherwise it is Done, with the request at the number.
  abbrev pub CanStart : (W : Type 0) → Object R.Core Held → ℕ → Type 0
  CanStart W o r =
      (ask : Ask) (a : Answer A) (o2 : Object R.Core Held) → Allows R {W = W} o (Start r ask) a o2
      → (made : Option Held) × R.begins o.core ask made × (a ≡ begun made) × (o2 ≡ written R o r o.core made)

  -- Each number below n at which nothing stands can be started.
  abbrev pub FreeCanStart : (W : Type 0) → Object R.Core Held → ℕ → Type 0
  FreeCanStart W o n = (r : ℕ) → r < n → at_number o.requests r ≡ None → CanStart W o r
