-- What the calls of a channel keep for its requests.
use Rattle.std.proofs.Common.{◌≡◌, ℕ, suc, Bool, true, false, List, [], length, Option, nat_lt, ◌⊎◌, inl, inr, refl, ap, subst, sym, ◌∙◌, arith}
use Rattle.std.specs.Prelude.{Result, Ok, Err, IfErr, is_ok, ◌++◌}
use Rattle.std.proofs.lemmas.Bool.Decides.{nat_tests}
use Rattle.esync_base.specs.Keeping.{Keeping}
use Rattle.esync_base.specs.Registration.{IsAmong, registered, displaced}
use Rattle.esync_base.specs.RegistrationLaws.{kept_or_displaced, kept_or_displaced_if}
use Rattle.esync_channel.specs.Mailbox.{Slots}
use Rattle.esync_channel.specs.Channel.{Sends, Receives, slots_after_receive, wakes_of_receive}
use Rattle.esync_channel.specs.declared.channel.TrySendError.{TrySendError}
use Rattle.esync_channel.specs.declared.channel.TrySendError.TheVariants.{Full}
use Rattle.esync_channel.specs.declared.channel.TryReceiveError.{TryReceiveError}
use Rattle.esync_channel.specs.declared.channel.machine.ChannelAsk.{ChannelAsk}
use Rattle.esync_channel.specs.declared.channel.machine.ChannelAsk.TheVariants.{Send, Receive, SendReady, ReceiveReady}
use Rattle.esync_channel.specs.ChannelRules.{has_room, has_message}
use Rattle.esync_channel.specs.ChannelLaws.{OwesFor, OwesRoom}

pub from_none : {W : Type 0} (old new xs : List W) → new ≡ old ++ xs → old ≡ [] → new ≡ xs
from_none old new xs e h = e ∙ ap (λ l. l ++ xs) h

positive : (n m : ℕ) → n ≡ suc m → nat_lt 0 n ≡ false → ⊥
positive n m e h = (let k : nat_lt 0 (suc m) ≡ false = subst (λ x. nat_lt 0 x ≡ false) e h in grind (arith, nat_tests))

-- whether there was room, or a message, is told by the answer
module _ {T : Type 0} (k : Keeping T) where
  pub sent_if : (held held2 : List T) (message : T) (r : Result (Unit {0}) (TrySendError T)) → Sends k held message r held2 → is_ok r ≡ has_room k held
  sent_if held held2 message (Ok done) h = (let below = h.0 in grind (arith, nat_tests))
  sent_if held held2 message (Err e) h = (let past = h.0 in grind (arith, nat_tests))

  -- a message that isn't sent comes back
  pub comes_back : (held held2 : List T) (message : T) (r : Result (Unit {0}) (TrySendError T)) → Sends k held message r held2 → IfErr r (λ error. error ≡ Full message)
  comes_back held held2 message (Ok done) h = tt
  comes_back held held2 message (Err e) h = h.1

  pub taken_if : (held held2 : List T) (message : T) → k.Takes held message held2 → has_message k held ≡ true
  taken_if held held2 message h = (let one = k.one_less held held2 message h in grind (arith, nat_tests))

  pub received_if : (held held2 : List T) (r : Result T TryReceiveError) → Receives k held r held2 → is_ok r ≡ has_message k held
  received_if held held2 (Ok message) h = sym (taken_if held held2 message h)
  received_if held held2 (Err e) h = rw h.0 refl

module _ {T W : Type 0} (eq : W → W → Bool) (k : Keeping T) where
  -- by a message that is taken
  pub kept_taken : (held held2 : List T) (s : Slots W) (o : Option W) (message : T) (ask : ChannelAsk T) (w : W) → k.Takes held message held2 → OwesFor eq k held s ask w → IsAmong eq w (wakes_of_receive eq k.capacity (length held) o true s) ⊎ OwesFor eq k held2 (slots_after_receive eq k.capacity (length held) o true s) ask w
  kept_taken held held2 s o message (Send m) w t h = rw h.0 (inl h.1)
  kept_taken held held2 s o message SendReady w t h = rw h.0 (inl h.1)
  kept_taken held held2 s o message Receive w t h = absurd (positive (length held) (length held2) (k.one_less held held2 message t) h.0)
  kept_taken held held2 s o message ReceiveReady w t h = absurd (positive (length held) (length held2) (k.one_less held held2 message t) h.0)

  pub kept_received : (held held2 : List T) (s : Slots W) (o : Option W) (r : Result T TryReceiveError) (ask : ChannelAsk T) (w : W) → Receives k held r held2 → OwesFor eq k held s ask w → IsAmong eq w (wakes_of_receive eq k.capacity (length held) o (is_ok r) s) ⊎ OwesFor eq k held2 (slots_after_receive eq k.capacity (length held) o (is_ok r) s) ask w
  kept_received held held2 s o (Ok message) ask w t h = kept_taken held held2 s o message ask w t h
  kept_received held held2 s o (Err e) (Send m) w t h = inr (subst (λ l. OwesRoom eq k l s w) (t.0 ∙ sym t.1) h)
  kept_received held held2 s o (Err e) SendReady w t h = inr (subst (λ l. OwesRoom eq k l s w) (t.0 ∙ sym t.1) h)
  kept_received held held2 s o (Err e) Receive w t h = elim (kept_or_displaced_if eq 1 s.receivers w o h.1) [ inl x ↦ inl x | inr x ↦ inr (subst (λ l. has_message k l ≡ false) (t.0 ∙ sym t.1) h.0, x) ]
  kept_received held held2 s o (Err e) ReceiveReady w t h = elim (kept_or_displaced_if eq 1 s.receivers w o h.1) [ inl x ↦ inl x | inr x ↦ inr (subst (λ l. has_message k l ≡ false) (t.0 ∙ sym t.1) h.0, x) ]

  -- by a poll that registers for room
  pub kept_room : (held : List T) (s : Slots W) (v : W) (ask : ChannelAsk T) (w : W) → OwesFor eq k held s ask w → IsAmong eq w (displaced eq 1 s.senders v) ⊎ OwesFor eq k held (record s { senders = registered eq 1 s.senders v }) ask w
  kept_room held s v (Send m) w h = elim (kept_or_displaced eq 1 s.senders w v h.1) [ inl x ↦ inl x | inr x ↦ inr (h.0, x) ]
  kept_room held s v SendReady w h = elim (kept_or_displaced eq 1 s.senders w v h.1) [ inl x ↦ inl x | inr x ↦ inr (h.0, x) ]
  kept_room held s v Receive w h = inr h
  kept_room held s v ReceiveReady w h = inr h
