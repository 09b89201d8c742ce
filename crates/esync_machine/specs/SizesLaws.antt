-- The sizes that a primitive tells add up over its runs, where those of its two calls do.
use Rattle.std.proofs.Common.{◌≡◌, ℕ, ◌+◌, Bool, List, Option, None, subst}
use Rattle.esync_machine.specs.Runs.{GoodRun}
use Rattle.esync_machine.specs.AccountLaws.{of_any_kind, KeepsEach, keeps_each, law_requests, IsTold, HasLaw}
use Rattle.esync_machine.specs.Sizes.{AddUp, SizesAddUp}
use Rattle.esync_machine.specs.Object.{Object, requests_meaning}
use Rattle.esync_machine.specs.ObjectLaws.{EachStep}
use Rattle.esync_machine.specs.Rules.{Rules}
use Rattle.esync_machine.specs.Wakings.{Wakings}
use Rattle.esync_machine.specs.declared.run.Reply.{Reply}
use Rattle.esync_machine.specs.declared.primitive.Answer.{Answer}
use Rattle.esync_machine.specs.declared.primitive.Answer.TheVariants.{Gives}
use Rattle.esync_machine.specs.declared.primitive.Command.{Command}
use Rattle.esync_machine.specs.declared.primitive.Command.TheVariants.{Call}

module _ {Ask Held C A W S : Type 0} (R : Rules Ask Held C A) (after : S → Command Ask W C → Answer A → S) (Len FreeCapacity : C) (Number : ℕ → A) (capacity : ℕ) (IsHeld : S → ℕ → Type 0) (On : R.Core → S → Type 0) (Here : S → ℕ → Held → Type 0) where
  -- each of the two calls tells what is so
  pub record TellsSizes : Type 0 where
    pub held : (o o2 : R.Core) (k : S) (p p2 : Option Held) (n : ℕ) → R.calls o Len p (Gives (Number n)) o2 p2 → On o k → IsHeld k n
    pub free : (o o2 : R.Core) (k : S) (p p2 : Option Held) (n : ℕ) → R.calls o FreeCapacity p (Gives (Number n)) o2 p2 → On o k → (held : ℕ) × IsHeld k held × (n + held ≡ capacity)

  module _ (tells : TellsSizes) where
    called : (o o2 : R.Core) (k : S) (call : C) (p p2 : Option Held) (a : Answer A) → R.calls o call p a o2 p2 → On o k → AddUp {Ask = Ask} Len FreeCapacity Number capacity IsHeld {W = W} k (Call call) a
    called o o2 k call p p2 a calls on = record {
      held = λ n e f. (let c : call ≡ Len = cc in tells.held o o2 k p p2 n (subst (λ x. R.calls o Len p x o2 p2) f (subst (λ x. R.calls o x p a o2 p2) c calls)) on);
      free = λ n e f. (let c : call ≡ FreeCapacity = cc in tells.free o o2 k p p2 n (subst (λ x. R.calls o FreeCapacity p x o2 p2) f (subst (λ x. R.calls o x p a o2 p2) c calls)) on);
    }

    sizes : EachStep R (HasLaw R (λ c. Unit {0}) after (IsTold R (λ c. Unit {0}) after On Here) (AddUp Len FreeCapacity Number capacity IsHeld))
    sizes = record {
      refused = λ o c k kind told. record { held = λ n e f. absurd cc; free = λ n e f. absurd cc };
      starts = λ o r ask h there begins k kind told. record { held = λ n e f. absurd cc; free = λ n e f. absurd cc };
      polls = λ o r w h a core p there polls k kind told. record { held = λ n e f. absurd cc; free = λ n e f. absurd cc };
      ends = λ o r h core there ends k kind told. record { held = λ n e f. absurd cc; free = λ n e f. absurd cc };
      calls = λ o call r p a core p2 reach there calls k kind told. called o.core core k call p p2 a calls told.core;
      alone = λ o call a core p reach calls k kind told. called o.core core k call None p a calls told.core;
      leaves = λ o call a core p reach calls k kind told. called o.core core k call None p a calls told.core;
    }

    pub sizes_requests : (T : Wakings R.Core Held C A W) (same : W → W → Bool) (K : ℕ) → KeepsEach R (λ c. Unit {0}) after On Here → (o o2 : Object R.Core Held) (g g2 : T.Registered) (k : S) (cs : List (Command Ask W C)) (as' : List (Reply (Answer A) W K)) → GoodRun (requests_meaning R T same K) o g cs as' o2 g2 → IsTold R (λ c. Unit {0}) after On Here o k → SizesAddUp Len FreeCapacity Number capacity IsHeld after k cs as'
    sizes_requests T same K keeps o o2 g g2 k cs as' run told =
        law_requests R (λ c. Unit {0}) after T same K (keeps_each R (λ c. Unit {0}) after keeps) sizes o o2 g g2 k cs as' (of_any_kind cs) run told
