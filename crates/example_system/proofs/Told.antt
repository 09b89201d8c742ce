-- What is said of a result, where it is known.
use Rattle.std.proofs.Common.{◌≡◌, Result, Ok, Err, IfOk, subst}

pub told : {A E : Type 0} (Q : A → Type 0) (r : Result A E) (v : A) → r ≡ Ok v → IfOk r Q → Q v
told Q (Ok u) v e h = (let s : u ≡ v = cc in subst Q s h)
told Q (Err x) v e h = absurd cc
