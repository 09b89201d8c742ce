-- What was sent comes out, in order.
use Rattle.std.proofs.Common.{◌≡◌, ℕ, Bool, List, [], ◌∷◌, ◌++◌, refl, sym, ap, ◌∙◌, append_assoc, append-nil}
use Rattle.esync_base.specs.Keeping.{BoundedList}
use Rattle.esync_machine.specs.AccountLaws.{of_any_kind, asked_at_first, keeps_each, told_requests}
use Rattle.esync_machine.specs.Runs.{GoodRun}
use Rattle.esync_machine.specs.Object.{Object, requests_meaning}
use Rattle.esync_machine.specs.Wakings.{Wakings}
use Rattle.esync_machine.specs.declared.run.Reply.{Reply}
use Rattle.esync_machine.specs.declared.primitive.Answer.{Answer}
use Rattle.esync_machine.specs.declared.primitive.Command.{Command}
use Rattle.esync_channel.specs.declared.channel.machine.ChannelAsk.{ChannelAsk}
use Rattle.esync_channel.specs.declared.channel.machine.ChannelCall.{ChannelCall}
use Rattle.esync_channel.specs.declared.channel.machine.ChannelHeard.{ChannelHeard}
use Rattle.esync_channel.specs.ChannelRules.{channel_rules}
use Rattle.esync_channel.specs.Order.{after, at_first, InOrder}
use Rattle.esync_channel.specs.OrderLaws.{GoesOn, keeps_account}

-- the messages that are held are those that were accepted and not taken
abbrev IsInOrder : {T : Type 0} → List T → List T → List T → Type 0
IsInOrder held accepted taken = taken ++ held ≡ accepted

module _ {T : Type 0} (W : Type 0) (n : ℕ) where
  goes_on : GoesOn (BoundedList T n) IsInOrder
  goes_on = record {
    sent = λ held held2 accepted taken message puts order. ap (λ l. taken ++ l) puts ∙ sym (append_assoc taken held (message ∷ [])) ∙ ap (λ l. l ++ message ∷ []) order;
    received = λ held held2 accepted taken message takes order. append_assoc taken (message ∷ []) held2 ∙ ap (λ l. taken ++ l) (sym takes) ∙ order;
    cleared = append-nil;
  }

  pub in_order : (H : Wakings (List T) (ChannelAsk T) (ChannelCall T) (ChannelHeard T) W) (eq : W → W → Bool) (K : ℕ) (o o2 : Object (List T) (ChannelAsk T)) (g g2 : H.Registered) (cs : List (Command (ChannelAsk T) W (ChannelCall T))) (as' : List (Reply (Answer (ChannelHeard T)) W K)) → GoodRun (requests_meaning (channel_rules (BoundedList T n)) H eq K) o g cs as' o2 g2 → InOrder o.requests o.core cs as' o2.core
  in_order H eq K o o2 g g2 cs as' run =
      (told_requests (channel_rules (BoundedList T n)) (λ c. Unit {0}) after H eq K (keeps_each (channel_rules (BoundedList T n)) (λ c. Unit {0}) after (keeps_account W (BoundedList T n) IsInOrder goes_on)) o o2 g g2 (at_first o.requests o.core) cs as' (of_any_kind cs) run (record {
        core = refl;
        here = asked_at_first o.requests;
      })).core
