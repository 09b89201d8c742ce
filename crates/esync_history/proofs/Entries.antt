-- What an audit looks at, entry by entry, and what a shared call tells.
use Rattle.std.proofs.Common.{◌≡◌, ◌≤◌, ◌↔◌, IsTrue, Bool, true, false, Option, Some, None, length, sym, ap, ◌∙◌}
use Rattle.std.specs.Prelude.{Result, Ok, Err, IfOk, OnOk}
use Rattle.esync_machine.specs.Runs.{Semantics}
use Rattle.esync_history.specs.Journal.{Recording, Seated, Replays, IsRecorded, WasRecorded}
use Rattle.esync_history.specs.declared.recorded.Receipt.{Receipt}

module _ {E : Type 0} (same : E → E → Bool) (x : E) where
  -- the place holds e, and no other
  pub held_entry : (place : Option E) (e : E) (b : Bool) → place ≡ Some e → b ≡ same e x → IsTrue b ↔ ((y : E) × (place ≡ Some y) × (same y x ≡ true))
  held_entry place e b s q = (
    λ t. (e, s, sym q ∙ t),
    λ p. q ∙ ap (λ y. same y x) (let a = p.1 in let h : e ≡ p.0 = cc in h) ∙ p.2,
  )

  pub no_entry : (place : Option E) → place ≡ None → IsTrue false ↔ ((y : E) × (place ≡ Some y) × (same y x ≡ true))
  no_entry place s = (λ t. absurd cc, λ p. absurd (let a = p.1 in cc))

module _ {S C A W : Type 0} (X : Semantics S C A W) where
  pub was_recorded : {F : Type 0} (result : Result (Receipt C A) F) (old new : Recording S C A) (before after : Seated) (command : C) → IfOk result (λ r. IsRecorded X old before command r new after) → Replays X new → OnOk result (after.calls ≤ length new.journal) → IfOk result (λ r. WasRecorded X before command r after)
  was_recorded (Ok r) old new before after command i p w = (old, new, i, p, w)
  was_recorded (Err e) old new before after command i p w = tt
