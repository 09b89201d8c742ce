-- What is owed to a side that waits, and the laws that the steps of a zero-copy channel keep.
use Rattle.std.specs.Prelude.{◌≡◌, Bool, true, [], Option, Some, None, refl}
use Rattle.std.proofs.Common.{sym, subst, ap}
use Rattle.esync_base.specs.Registration.{IsAmong, registered}
use Rattle.esync_base.specs.RegistrationLaws.{has_registered}
use Rattle.esync_machine.specs.Rules.{IsIdle, IdleIsPending}
use Rattle.esync_machine.specs.declared.primitive.Answer.{Answer}
use Rattle.esync_machine.specs.declared.primitive.Answer.TheVariants.{Pending}
use Rattle.esync_zerocopy.specs.Slots.{Waiting, before, waits_at, with_waits}
use Rattle.esync_zerocopy.specs.Lending.{Slots, Lending}
use Rattle.esync_zerocopy.specs.ZeroRules.{zero_rules, lent_to, spare_slot, held_slot, PollsLent}
use Rattle.esync_zerocopy.specs.declared.zerocopy_channel.Side.{Side}
use Rattle.esync_zerocopy.specs.declared.zerocopy_channel.Side.TheVariants.{Sender, Receiver}
use Rattle.esync_zerocopy.specs.declared.zerocopy_channel.machine.Lent.{Lent}
use Rattle.esync_zerocopy.specs.declared.zerocopy_channel.machine.ZeroHeard.{ZeroHeard}

-- there is no slot for the side, and the waker waits for one
abbrev pub OwesSlot : {T W : Type 0} → (W → W → Bool) → Lending T W → Side → W → Type 0
OwesSlot eq l side w = (before side l.slots.sides ≡ []) × IsAmong eq w (waits_at side l.waiting)

-- the waker of a poll that found no slot is registered
pub waits_registered : {W : Type 0} (eq : W → W → Bool) → ((x : W) → eq x x ≡ true) → (side : Side) (w : W) (g : Waiting W) → IsAmong eq w (waits_at side (with_waits side (registered eq 1 (waits_at side g) w) g))
waits_registered eq same Sender w g = has_registered eq same 1 g.senders w
waits_registered eq same Receiver w g = has_registered eq same 1 g.receivers w

module _ {T : Type 0} where
  none_lent : (side : Side) (s : Slots T) → before side s.sides ≡ [] → lent_to side s ≡ None
  none_lent Sender s e = ap spare_slot e
  none_lent Receiver s e = ap (λ is. held_slot is s.values) e

  pub zero_idle : (s : Slots T) (side : Side) → before side s.sides ≡ [] → IsIdle (zero_rules T) s side
  zero_idle s side e = subst (λ lent. PollsLent lent s side Pending s (Some side)) (sym (none_lent side s e)) (refl, refl, refl)

  lent_pending : (lent : Option (Lent T)) (s : Slots T) (side : Side) (a : Answer (ZeroHeard T)) (s2 : Slots T) (p : Option Side)
      → PollsLent lent s side Pending s (Some side) → PollsLent lent s side a s2 p → (a ≡ Pending) × (s2 ≡ s) × (p ≡ Some side)
  lent_pending None s side a s2 p idle polls = polls
  lent_pending (Some lent) s side a s2 p idle polls = (let e = idle.0 in absurd cc)

  pub zero_pending : IdleIsPending (zero_rules T)
  zero_pending s side a s2 p idle polls = lent_pending (lent_to side s) s side a s2 p idle polls
