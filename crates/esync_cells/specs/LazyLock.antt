-- A value that is made when it is first asked for.
use Rattle.std.specs.Prelude.{◌≡◌, Option, Some, None, refl}
use Rattle.std.specs.Coded.{Coded, code_by, coded×, coded_option}

pub record Lazy (T M : Type 0) : Type 0 where
  -- the value, once it was asked for
  pub value : Option T
  pub maker : M

abbrev pub lazy_code : {T M : Type 0} → Coded T → Coded M → Coded (Lazy T M)
lazy_code {T} {M} t m = code_by (Option T × M) (coded× (coded_option t) m) (λ s. (s.value, s.maker)) (λ p. record { value = p.0; maker = p.1 }) (λ _. refl)

-- what is shown: the value that is there, or one that may be made now if there is none
abbrev pub Shows : {T : Type 0} → (T → Type 0) → Option T → T → Type 0
Shows May None x = May x
Shows May (Some y) x = x ≡ y
