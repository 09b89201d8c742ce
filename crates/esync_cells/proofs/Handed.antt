-- An error that `?` hands on.
use Rattle.std.proofs.Common.{◌≡◌, ap}
use Rattle.std.specs.Prelude.{Result, Ok, Err, IsErr, IsErrAnd}
use Rattle.std.specs.declared.alloc.AllocError.{AllocError}

pub handed_on : {T : Type 0} (r : Result T AllocError) (e : AllocError) → IsErr r × IsErrAnd r (λ x. x ≡ e) → r ≡ Err e
handed_on (Ok x) e h = absurd cc
handed_on (Err x) e h = ap (λ y. Err y) h.1
