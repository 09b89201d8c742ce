-- What fits in memory has parts that do. A proof says so of a part outright, since a search would compute the sizes.
use Rattle.std.proofs.Common.{◌≡◌, ℕ, ◌<◌, ◌^◌}
use mathlib.Core.Option.{some}
use native.Mathlib.Nat.{lt_of_le_of_lt, le_trans, le-add_left}
use denote.Param.{layout}
use denote.RattleType.{RattleType, mirs}
use denote.Struct.Struct.{Shape, layout as layout_of, to_tys}
use mir.Syntax.{Ty}
use prog.Align.{field_in}
use prog.Memory.{size, field_at}

-- a value of the type with this row takes as many bytes as may be
abbrev pub Fits : RattleType → Type 0
Fits row = size (layout row) < 2 ^ 63

-- field k of a struct, of type τ at offset d, fits where the struct does
pub part_fits : (S : Shape) (τ : Ty) (d k : ℕ) → field_at 0 (to_tys (mirs S.fields)) k ≡ some (τ, d) → size (layout_of S) < 2 ^ 63 → size τ < 2 ^ 63
part_fits S τ d k at fits = lt_of_le_of_lt (le_trans (le-add_left (size τ) d) (field_in S.name (to_tys (mirs S.fields)) k τ d at)) fits
