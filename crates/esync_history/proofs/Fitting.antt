-- What is told of the acts of several tasks.
use Rattle.std.proofs.Common.{◌≡◌, ℕ, ◌<◌, ◌↔◌, IsTrue, not, Bool, true, false, ◌||◌, List, [], ◌∷◌, map, refl, sym, ap}
use Rattle.std.specs.List.{list_any}

-- one of the lists has such an item exactly if one of what they are the items of has it
pub any-items : {A V : Type 0} (p : A → Bool) (items : V → List A) (vs : List V) → list_any (λ xs. list_any p xs) (map items vs) ≡ list_any (λ v. list_any p (items v)) vs
any-items p items [] = refl
any-items p items (v ∷ vs) = ap (λ b. list_any p (items v) || b) (any-items p items vs)

pub not_used : (used any : Bool) (r numbers : ℕ) → r < numbers → used ≡ any → IsTrue (not used) ↔ ((r < numbers) × (any ≡ false))
not_used true any r numbers l e = (λ t. absurd cc, λ p. absurd cc)
not_used false any r numbers l e = (λ t. (l, sym e), λ p. refl)
