-- The laws of a slot that is lent and left as it was.
use Rattle.std.specs.Prelude.{◌≡◌, ℕ, List, [], ◌∷◌, Some, None, slice_get, slice_set, refl}
use Rattle.std.proofs.Common.{sym, ap, ◌∙◌}
use Rattle.std.proofs.lemmas.List.{set-get_or}
use Rattle.std.proofs.lemmas.Option.{get_or_from_slice_get}
use Rattle.esync_zerocopy.specs.Lending.{first_value, first_written}

module _ {T : Type 0} where
  pub first_kept : (is : List ℕ) (values : List T) (v : T) → first_value is values ≡ Some v → first_written is values v ≡ values
  first_kept [] values v e = absurd cc
  first_kept (i ∷ is) values v e = ap (slice_set values i) (sym (get_or_from_slice_get values i v v e)) ∙ set-get_or values i v

-- a list without a first item is empty
pub first_of_none : (is : List ℕ) → slice_get is 0 ≡ None → is ≡ []
first_of_none [] e = refl
first_of_none (i ∷ is) e = absurd cc
