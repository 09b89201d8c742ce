-- What each step of a channel keeps of its account, whatever the way that the channel keeps its messages.
use Rattle.std.proofs.Common.{◌≡◌, ℕ, Bool, true, false, List, [], ◌∷◌, ◌++◌, Option, Some, refl, sym, ◌∙◌, subst}
use Rattle.std.specs.Prelude.{Result, Ok, Err, IfSome}
use Rattle.esync_base.specs.Keeping.{Keeping}
use Rattle.esync_machine.specs.Account.{ask_of}
use Rattle.esync_machine.specs.AccountLaws.{ask_of-started, ask_of-other, KeepsEach}
use Rattle.esync_machine.specs.declared.primitive.Answer.{Answer}
use Rattle.esync_machine.specs.declared.primitive.Answer.TheVariants.{NoSuch, Gives}
use Rattle.esync_machine.specs.declared.primitive.Command.{Command}
use Rattle.esync_machine.specs.declared.primitive.Command.TheVariants.{Start, Poll, End, Call}
use Rattle.esync_channel.specs.Channel.{Sends, Receives}
use Rattle.esync_channel.specs.declared.channel.TrySendError.{TrySendError}
use Rattle.esync_channel.specs.declared.channel.TryReceiveError.{TryReceiveError}
use Rattle.esync_channel.specs.declared.channel.machine.ChannelAsk.{ChannelAsk}
use Rattle.esync_channel.specs.declared.channel.machine.ChannelAsk.TheVariants.{Send, Receive, SendReady, ReceiveReady}
use Rattle.esync_channel.specs.declared.channel.machine.ChannelCall.{ChannelCall}
use Rattle.esync_channel.specs.declared.channel.machine.ChannelCall.TheVariants.{TrySend, TryReceive, Clear, Len, FreeCapacity}
use Rattle.esync_channel.specs.declared.channel.machine.ChannelHeard.{ChannelHeard}
use Rattle.esync_channel.specs.declared.channel.machine.ChannelHeard.TheVariants.{TrySent, TryReceived}
use Rattle.esync_channel.specs.ChannelRules.{channel_rules, Waits, Polls, PollsSend, PollsReceive, PollsReady, Calls, has_room, has_message}
use Rattle.esync_channel.specs.Order.{Account, sent_by, after}

-- the account says what the request is for
abbrev pub IsKnown : {T : Type 0} → Account T → ℕ → ChannelAsk T → Type 0
IsKnown k r ask = ask_of k.asked r ≡ Some ask

-- What holds of the messages that are held, of those that were accepted and of those that were taken goes on to hold.
pub record GoesOn {T : Type 0} (keeping : Keeping T) (Holds : List T → List T → List T → Type 0) : Type 0 where
  pub sent : (held held2 accepted taken : List T) (message : T) → keeping.Puts held message held2 → Holds held accepted taken → Holds held2 (accepted ++ message ∷ []) taken
  pub received : (held held2 accepted taken : List T) (message : T) → keeping.Takes held message held2 → Holds held accepted taken → Holds held2 accepted (taken ++ message ∷ [])
  pub cleared : (accepted : List T) → Holds [] accepted accepted

module _ {T : Type 0} (W : Type 0) (keeping : Keeping T) (Holds : List T → List T → List T → Type 0) (on : GoesOn keeping Holds) where
  abbrev HoldsOf : List T → Account T → Type 0
  HoldsOf held k = Holds held k.accepted k.taken

  nothing_after : (k : Account T) (c : Command (ChannelAsk T) W (ChannelCall T)) → after k c NoSuch ≡ k
  nothing_after k (Start r ask) = refl
  nothing_after k (Poll r w) = refl
  nothing_after k (End r) = refl
  nothing_after k (Call (TrySend message)) = refl
  nothing_after k (Call TryReceive) = refl
  nothing_after k (Call Clear) = refl
  nothing_after k (Call Len) = refl
  nothing_after k (Call FreeCapacity) = refl

  same_held : (held held2 : List T) (k : Account T) → held2 ≡ held → HoldsOf held k → HoldsOf held2 k
  same_held held held2 k e holds = subst (λ l. HoldsOf l k) (sym e) holds

  -- what a poll keeps of the account
  abbrev Polled : Account T → ℕ → W → Answer (ChannelHeard T) → List T → Option (ChannelAsk T) → Type 0
  Polled k r w a held2 p =
      let k2 = after {W = W} k (Poll r w) a in
      HoldsOf held2 k2 × IfSome p (λ x. IsKnown k2 r x)

  module _ (held held2 : List T) (k : Account T) (holds : HoldsOf held k) where
    module _ (r : ℕ) (w : W) (a : Answer (ChannelHeard T)) (p : Option (ChannelAsk T)) where
      waits : (ask : ChannelAsk T) → IsKnown k r ask → Waits keeping held ask a held2 p → Polled k r w a held2 p
      waits ask known t = rw (t.0, t.2) (same_held held held2 k t.1 holds, known)

      polled_send : (message : T) (room : Bool) → IsKnown k r (Send message) → PollsSend keeping held message room a held2 p → Polled k r w a held2 p
      polled_send message false known t = waits (Send message) known t
      polled_send message true known t = rw (t.0, t.2) (rw known (on.sent held held2 k.accepted k.taken message t.1 holds, tt))

      polled_receive : (full : Bool) → IsKnown k r Receive → PollsReceive keeping held full a held2 p → Polled k r w a held2 p
      polled_receive false known t = waits Receive known t
      polled_receive true known t = rw (t.1, t.3) (on.received held held2 k.accepted k.taken t.0 t.2 holds, tt)

      polled_ready : (ask : ChannelAsk T) (is : Bool) → sent_by k.accepted (Some ask) ≡ k.accepted → IsKnown k r ask → PollsReady keeping held ask is a held2 p → Polled k r w a held2 p
      polled_ready ask false sends known t = waits ask known t
      polled_ready ask true sends known t = rw (t.0, t.2) (rw (known, sends) (same_held held held2 k t.1 holds, tt))

      polled : (ask : ChannelAsk T) → IsKnown k r ask → Polls keeping held ask a held2 p → Polled k r w a held2 p
      polled (Send message) known t = polled_send message (has_room keeping held) known t
      polled Receive known t = polled_receive (has_message keeping held) known t
      polled SendReady known t = polled_ready SendReady (has_room keeping held) refl known t
      polled ReceiveReady known t = polled_ready ReceiveReady (has_message keeping held) refl known t

    tried_send : (message : T) (done : Result (Unit {0}) (TrySendError T)) → Sends keeping held message done held2 → HoldsOf held2 (after {W = W} k (Call (TrySend message)) (Gives (TrySent done)))
    tried_send message (Ok done) t = on.sent held held2 k.accepted k.taken message t.1 holds
    tried_send message (Err error) t = same_held held held2 k t.2 holds

    tried_receive : (done : Result T TryReceiveError) → Receives keeping held done held2 → HoldsOf held2 (after {W = W} k (Call TryReceive) (Gives (TryReceived done)))
    tried_receive (Ok message) t = on.received held held2 k.accepted k.taken message t holds
    tried_receive (Err error) t = same_held held held2 k (t.1 ∙ sym t.0) holds

    called : (call : ChannelCall T) (a : Answer (ChannelHeard T)) → Calls keeping held call a held2 → HoldsOf held2 (after {W = W} k (Call call) a)
    called (TrySend message) a t = rw t.1 (tried_send message t.0 t.2)
    called TryReceive a t = rw t.1 (tried_receive t.0 t.2)
    called Clear a t = rw (t.0, t.1) (on.cleared k.accepted)
    called Len a t = rw t.0 (same_held held held2 k t.1 holds)
    called FreeCapacity a t = rw t.1 (same_held held held2 k t.3 holds)

  pub keeps_account : KeepsEach (channel_rules keeping) (λ c. Unit {0}) (after {W = W}) (λ held k. Holds held k.accepted k.taken) IsKnown
  keeps_account = record {
    refused = nothing_after;
    starts = λ held k r ask h begins holds. (holds, ask_of-started k.asked r ask ∙ sym begins);
    polls = λ held held2 k r w ask a p t holds known. polled held held2 k holds r w a p ask known t;
    ends = λ held held2 k r ask e holds known. same_held held held2 k e holds;
    calls = λ held held2 k call r p p2 a reach t holds known. absurd cc;
    alone = λ held held2 k call p a none t holds. called held held2 k holds call a t.0;
    others = λ k c a r ask ne known. ask_of-other (channel_rules keeping) k.asked c a r ne ∙ known;
  }
