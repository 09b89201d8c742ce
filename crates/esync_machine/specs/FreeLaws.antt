-- A table keeps its places, and of n places each free number below n can be started.
use Rattle.std.specs.Prelude.{◌≡◌, ◌<◌, ℕ, zero, suc, Bool, List, [], ◌∷◌, length, Option, Some, None, slice_get}
use Rattle.std.proofs.Common.{refl, sym, ap, ◌∙◌, subst, arith}
use Rattle.std.proofs.lemmas.List.{length-set}
use Rattle.esync_machine.specs.declared.primitive.Answer.{Answer}
use Rattle.esync_machine.specs.declared.primitive.Command.{Command}
use Rattle.esync_machine.specs.declared.primitive.Command.TheVariants.{Start}
use Rattle.esync_machine.specs.Numbers.{at_number, swept}
use Rattle.esync_machine.specs.NumbersLaws.{swept_all, length_swept}
use Rattle.esync_machine.specs.Rules.{Rules}
use Rattle.esync_machine.specs.Object.{Object, Allows, AllowsAt, written}
use Rattle.esync_machine.specs.ObjectLaws.{EachStep, each_step}
use Rattle.esync_machine.specs.Free.{CanStart, FreeCanStart}

-- a free number of the table has a place
pub free_there : {A : Type 0} (q : List (Option A)) (r : ℕ) → r < length q → at_number q r ≡ None → slice_get q r ≡ Some None
free_there [] r b e = absurd (omega arith)
free_there (p ∷ q) zero b e = ap Some e
free_there (p ∷ q) (suc r) b e = free_there q r (omega arith) e

length_of_swept : {A : Type 0} (f : A → Bool) (q : List (Option A)) → length (swept f q) ≡ length q
length_of_swept f q = ap length (sym (swept_all f q)) ∙ length_swept f (length q) q

module _ {Ask Held C A : Type 0} (R : Rules Ask Held C A) (W : Type 0) where
  keeps_places : EachStep R (λ o (c : Command Ask W C) a o2. length o2.requests ≡ length o.requests)
  keeps_places = record {
    refused = λ o c. refl;
    starts = λ o r ask h there begins. length-set o.requests r (Some h);
    polls = λ o r w h a core p there polls. length-set o.requests r p;
    ends = λ o r h core there ends. length-set o.requests r None;
    calls = λ o call r p a core p2 reach there calls. length-set o.requests r p2;
    alone = λ o call a core p reach calls. refl;
    leaves = λ o call a core p reach calls. length_of_swept (R.leaves o.core call) o.requests;
  }

  -- a step keeps the number of places
  pub same_places : (o o2 : Object R.Core Held) (c : Command Ask W C) (a : Answer A) → Allows R o c a o2 → length o2.requests ≡ length o.requests
  same_places o o2 c a allowed = each_step R keeps_places o o2 c a allowed

  starts : (o : Object R.Core Held) (r : ℕ) → slice_get o.requests r ≡ Some None → CanStart R W o r
  starts o r there ask a o2 allowed =
      let (core, made, turn, is) = subst (λ p. AllowsAt R {W = W} o (Start r ask) r p a o2) there allowed in
      (made, turn.0, turn.1, is ∙ ap (λ c. written R o r c made) turn.2)

  pub free_can_start : (o : Object R.Core Held) (n : ℕ) → length o.requests ≡ n → FreeCanStart R W o n
  free_can_start o n long r below free = starts o r (free_there o.requests r (omega (arith, long)) free)
