-- What is shown of each command that a machine with requests is given.
use Rattle.std.specs.Prelude.{◌≡◌, ℕ, Bool, false, List, Option, Some, ◌⊎◌, IfSome}
use Rattle.esync_base.specs.Registration.{IsAmong}
use Rattle.esync_machine.specs.Numbers.{at_number, IsTied}
use Rattle.esync_machine.specs.declared.primitive.Answer.{Answer}
use Rattle.esync_machine.specs.declared.primitive.Answer.TheVariants.{Pending}
use Rattle.esync_machine.specs.declared.primitive.Command.{Command}
use Rattle.esync_machine.specs.Rules.{Rules, IsApart, IsOwed, OwesAt, ended_by}
use Rattle.esync_machine.specs.Object.{Allows, Turns, Ends, poll_of, end_of, handed}
use Rattle.esync_machine.specs.Wakings.{Wakings, IsHanded, handed_at}

-- what is shown of a command and the place at its number
pub record Turned {Ask Held C A W S : Type 0} (R : Rules Ask Held C A) (core : S → R.Core) (T : Wakings R.Core Held C A W) (registrations : S → T.Registered) (Fits : S → Held → Type 0) (Apart : Held → Held → Type 0) (Owes : S → Held → W → Type 0) (same : W → W → Bool) (s : S) (c : Command Ask W C) (p : Option Held) (a : Answer A) (wakes : List W) (s2 : S) (p2 : Option Held) : Type 0 where
  pub allowed : Turns R (core s) c p a (core s2) p2
  pub exact : IsHanded (handed_at T (core s) (registrations s) c p a p2) wakes (registrations s2)
  pub quiet : (R.WakesItself → ⊥) → (r : ℕ) (w : W) → poll_of c ≡ Some (r, w) → a ≡ Pending → core s2 ≡ core s → p2 ≡ p → IsAmong same w wakes → ⊥
  pub registered : (r : ℕ) (w : W) → poll_of c ≡ Some (r, w) → a ≡ Pending → IsAmong same w wakes ⊎ IsOwed Owes s2 p2 w
  pub own : (w : W) → ((r : ℕ) (v : W) → poll_of c ≡ Some (r, v) → ⊥) → ((r : ℕ) → end_of c ≡ Some r → ⊥) → IsOwed Owes s p w → IsAmong same w wakes ⊎ IsOwed Owes s2 p2 w
  pub kept : (other : Held) (w : W) → Fits s other → IsApart Apart p other → ended_by R (core s) c other ≡ false → Owes s other w → IsAmong same w wakes ⊎ Owes s2 other w
  pub fits : IfSome p2 (λ h. Fits s2 h)
  pub others : (other : Held) → Fits s other → IsApart Apart p other → ended_by R (core s) c other ≡ false → Fits s2 other × IsApart Apart p2 other

-- what is shown of a command and the whole table
pub record Served {Ask Held C A W S : Type 0} (R : Rules Ask Held C A) (core : S → R.Core) (T : Wakings R.Core Held C A W) (registrations : S → T.Registered) (Fits : S → Held → Type 0) (Apart : Held → Held → Type 0) (Owes : S → Held → W → Type 0) (same : W → W → Bool) (s : S) (q : List (Option Held)) (c : Command Ask W C) (a : Answer A) (wakes : List W) (s2 : S) (q2 : List (Option Held)) : Type 0 where
  pub allowed : Allows R (record { core = core s; requests = q }) c a (record { core = core s2; requests = q2 })
  pub exact : IsHanded (handed R T (record { core = core s; requests = q }) (registrations s) c a (record { core = core s2; requests = q2 })) wakes (registrations s2)
  pub quiet : (R.WakesItself → ⊥) → (r : ℕ) (w : W) → poll_of c ≡ Some (r, w) → a ≡ Pending → core s2 ≡ core s → q2 ≡ q → IsAmong same w wakes → ⊥
  pub registered : (r : ℕ) (w : W) → poll_of c ≡ Some (r, w) → a ≡ Pending → IsAmong same w wakes ⊎ OwesAt Fits Owes s2 (at_number q2 r) w
  pub kept : (r : ℕ) (w : W) → OwesAt Fits Owes s (at_number q r) w → ((v : W) → poll_of c ≡ Some (r, v) → ⊥) → (Ends R (record { core = core s; requests = q }) c r → ⊥) → IsAmong same w wakes ⊎ OwesAt Fits Owes s2 (at_number q2 r) w
  pub tied : IsTied Fits Apart s2 q2
