-- What a run of a channel tells of its sizes, whatever the way that the channel keeps its messages.
use Rattle.std.proofs.Common.{◌≡◌, ℕ, ◌+◌, Bool, List, length, sym, subst, arith}
use Rattle.std.proofs.lemmas.List.{length_push}
use Rattle.esync_base.specs.Keeping.{Keeping}
use Rattle.esync_machine.specs.AccountLaws.{asked_at_first}
use Rattle.esync_machine.specs.SizesLaws.{TellsSizes, sizes_requests}
use Rattle.esync_machine.specs.Runs.{GoodRun}
use Rattle.esync_machine.specs.Object.{Object, requests_meaning}
use Rattle.esync_machine.specs.Wakings.{Wakings}
use Rattle.esync_machine.specs.declared.run.Reply.{Reply}
use Rattle.esync_machine.specs.declared.primitive.Answer.{Answer}
use Rattle.esync_machine.specs.declared.primitive.Command.{Command}
use Rattle.esync_channel.specs.declared.channel.machine.ChannelAsk.{ChannelAsk}
use Rattle.esync_channel.specs.declared.channel.machine.ChannelCall.{ChannelCall}
use Rattle.esync_channel.specs.declared.channel.machine.ChannelCall.TheVariants.{Len, FreeCapacity}
use Rattle.esync_channel.specs.declared.channel.machine.ChannelHeard.{ChannelHeard}
use Rattle.esync_channel.specs.declared.channel.machine.ChannelHeard.TheVariants.{Number}
use Rattle.esync_channel.specs.ChannelRules.{channel_rules}
use Rattle.esync_channel.specs.Order.{after, at_first}
use Rattle.esync_channel.specs.OrderLaws.{IsKnown, GoesOn, keeps_account}
use Rattle.esync_channel.specs.Sizes.{IsHeld, SizesAddUp}

-- as many messages are held as were accepted and not taken
abbrev IsCounted : {T : Type 0} → List T → List T → List T → Type 0
IsCounted held accepted taken = length held + length taken ≡ length accepted

module _ {T : Type 0} (W : Type 0) (keeping : Keeping T) where
  goes_on : GoesOn keeping IsCounted
  goes_on = record {
    sent = λ held held2 accepted taken message puts counted. omega (arith, keeping.one_more held held2 message puts, length_push accepted message, counted);
    received = λ held held2 accepted taken message takes counted. omega (arith, keeping.one_less held held2 message takes, length_push taken message, counted);
    cleared = λ accepted. omega arith;
  }

  tells : TellsSizes (channel_rules keeping) (after {W = W}) Len FreeCapacity Number keeping.capacity IsHeld (λ held k. IsCounted held k.accepted k.taken) IsKnown
  tells = record {
    held = λ held held2 k p p2 n calls counted. (let t = calls.0.0 in let e : n ≡ length held = cc in subst (λ x. IsHeld k x) (sym e) counted);
    free = λ held held2 k p p2 n calls counted. (let t = calls.0.1 in let f = calls.0.2 in let e : n ≡ calls.0.0 = cc in (length held, counted, subst (λ x. x + length held ≡ keeping.capacity) (sym e) f));
  }

  pub sizes_add_up : (H : Wakings (List T) (ChannelAsk T) (ChannelCall T) (ChannelHeard T) W) (eq : W → W → Bool) (K : ℕ) (o o2 : Object (List T) (ChannelAsk T)) (g g2 : H.Registered) (cs : List (Command (ChannelAsk T) W (ChannelCall T))) (as' : List (Reply (Answer (ChannelHeard T)) W K)) → GoodRun (requests_meaning (channel_rules keeping) H eq K) o g cs as' o2 g2 → SizesAddUp keeping.capacity o.requests o.core cs as'
  sizes_add_up H eq K o o2 g g2 cs as' run =
      sizes_requests (channel_rules keeping) after Len FreeCapacity Number keeping.capacity IsHeld (λ held k. IsCounted held k.accepted k.taken) IsKnown tells H eq K (keeps_account W keeping IsCounted goes_on) o o2 g g2 (at_first o.requests o.core) cs as' run (record {
        core = omega arith;
        here = asked_at_first o.requests;
      })
