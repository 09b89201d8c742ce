-- A pub-sub channel: its log, how many publishers are counted, and the wakers of the tasks that wait.
use Rattle.std.specs.Prelude.{◌≡◌, ℕ, ◌+◌, ◌<◌, Bool, true, false, List, [], ◌∷◌, length, Option, Some, None, Result, Ok, Err, nat_lt, replicate, refl}
use Rattle.std.specs.Coded.{Coded, code_by, coded×, coded_ℕ, coded_list}
use Rattle.esync_base.specs.Registration.{registered, displaced, registered_if, displaced_if}
use Rattle.esync_log.specs.Log.{Log, log_code, Joins}
use Rattle.esync_base.specs.declared.waitqueue.Poll.{Poll}
use Rattle.esync_base.specs.declared.waitqueue.Poll.TheVariants.{Pending, Ready}
use Rattle.esync_log.specs.declared.log.TryPublishError.{TryPublishError}
use Rattle.esync_log.specs.declared.log.TryPublishError.TheVariants.{Full, Exhausted}
use Rattle.esync_log.specs.declared.log.Exhausted.{Exhausted as NoNumber}
use Rattle.esync_pubsub.specs.declared.pubsub.Error.{Error}
use Rattle.esync_pubsub.specs.declared.pubsub.Error.TheVariants.{MaximumSubscribersReached, MaximumPublishersReached}

-- the wakers of the tasks that wait for a message, and of those that wait for room
pub record Lists (W : Type 0) : Type 0 where
  pub subscribers : List W
  pub publishers : List W

pub record PubSub (T W : Type 0) : Type 0 where
  pub log : Log T
  -- how many publishers are counted
  pub publishers : ℕ
  pub lists : Lists W

abbrev pub lists_code : {W : Type 0} → Coded W → Coded (Lists W)
lists_code {W} w =
    code_by (List W × List W) (coded× (coded_list w) (coded_list w)) (λ s. (s.subscribers, s.publishers)) (λ p. record { subscribers = p.0; publishers = p.1 }) (λ _. refl)

abbrev pub pubsub_code : {T W : Type 0} → Coded T → Coded W → Coded (PubSub T W)
pubsub_code {T} {W} t w =
    code_by (Log T × (ℕ × Lists W)) (coded× (log_code t) (coded× coded_ℕ (lists_code w))) (λ s. (s.log, (s.publishers, s.lists))) (λ p. record { log = p.0; publishers = p.1.0; lists = p.1.1 }) (λ _. refl)

-- an empty channel with this many places for subscribers, whose first message has the number next
abbrev pub fresh : {T W : Type 0} → ℕ → ℕ → PubSub T W
fresh places next = record { log = record { held = []; next = next; positions = replicate places None }; publishers = 0; lists = record { subscribers = []; publishers = [] } }

-- a subscriber comes, or all places are taken
abbrev pub Subscribes : {T : Type 0} → Log T → Result ℕ Error → Log T → Type 0
Subscribes log (Ok place) log2 = Joins log (Some place) log2
Subscribes log (Err MaximumSubscribersReached) log2 = Joins log None log2
Subscribes log (Err MaximumPublishersReached) log2 = ⊥

-- one more publisher is counted, unless the greatest number is
abbrev pub Adds : ℕ → ℕ → Result (Unit {0}) Error → ℕ → Type 0
Adds most n (Ok done) n2 = (n < most) × (n2 ≡ n + 1)
Adds most n (Err MaximumSubscribersReached) n2 = ⊥
Adds most n (Err MaximumPublishersReached) n2 = (n ≡ most) × (n2 ≡ n)

-- the second log holds fewer messages
abbrev pub frees : {T : Type 0} → Log T → Log T → Bool
frees log log2 = nat_lt (length log2.held) (length log.held)

-- a poll's answer as the result of a publish: Pending means that there is no room
abbrev pub tried : {T : Type 0} → T → Poll (Result (Unit {0}) (NoNumber T)) → Result (Unit {0}) (TryPublishError T)
tried message (Ready (Ok done)) = Ok done
tried message (Ready (Err refused)) = Err (Exhausted refused.0)
tried message Pending = Err (Full message)

-- the message that is still to be published
abbrev pub still : {T A : Type 0} → T → Poll A → Option T
still message (Ready a) = None
still message Pending = Some message

-- a poll that refuses to publish the message for good gives it back
abbrev pub GivesBack : {A T : Type 0} → T → Poll (Result A (NoNumber T)) → Type 0
GivesBack message (Ready (Ok done)) = Unit {0}
GivesBack message (Ready (Err back)) = back.0 ≡ message
GivesBack message Pending = Unit {0}

-- what a poll of a sink answers, and the message that it stores afterwards; a sink that stores none is ready
abbrev pub Flushes : {T : Type 0} → Option T → Poll (Result (Unit {0}) (NoNumber T)) → Option T → Type 0
Flushes None (Ready (Ok done)) rest = rest ≡ None
Flushes None (Ready (Err refused)) rest = ⊥
Flushes None Pending rest = ⊥
Flushes (Some message) answer rest = (rest ≡ still message answer) × GivesBack message answer

-- what a poll read
abbrev pub heard : {A : Type 0} → Poll A → Option A
heard (Ready a) = Some a
heard Pending = None

module _ {W : Type 0} where
  -- an accepted message hands out the subscribers' list, where there is a subscriber
  abbrev pub lists_after_news : Bool → Lists W → Lists W
  lists_after_news true l = record l { subscribers = [] }
  lists_after_news false l = l

  abbrev pub wakes_of_news : Bool → Lists W → List W
  wakes_of_news true l = l.subscribers
  wakes_of_news false l = []

  -- a message that leaves hands out the publishers' list
  abbrev pub lists_after_room : Bool → Lists W → Lists W
  lists_after_room true l = record l { publishers = [] }
  lists_after_room false l = l

  abbrev pub wakes_of_room : Bool → Lists W → List W
  wakes_of_room true l = l.publishers
  wakes_of_room false l = []

  -- the lists after a message is published at once
  abbrev pub lists_after_immediate : {A E : Type 0} → Bool → Result A E → Lists W → Lists W
  lists_after_immediate live (Ok done) l = lists_after_news live l
  lists_after_immediate live (Err e) l = l

  abbrev pub wakes_of_immediate : {A E : Type 0} → Bool → Result A E → Lists W → List W
  wakes_of_immediate live (Ok done) l = wakes_of_news live l
  wakes_of_immediate live (Err e) l = []

  module _ (eq : W → W → Bool) where
    -- a message that finds no room registers the waker, if one is given, in the publishers' list of n places
    abbrev pub lists_after_publish : {A T : Type 0} → ℕ → Option W → Bool → Result A (TryPublishError T) → Lists W → Lists W
    lists_after_publish n w live (Ok done) l = lists_after_news live l
    lists_after_publish n w live (Err (Full back)) l = record l { publishers = registered_if eq n l.publishers w }
    lists_after_publish n w live (Err (Exhausted back)) l = l

    abbrev pub wakes_of_publish : {A T : Type 0} → ℕ → Option W → Bool → Result A (TryPublishError T) → Lists W → List W
    wakes_of_publish n w live (Ok done) l = wakes_of_news live l
    wakes_of_publish n w live (Err (Full back)) l = displaced_if eq n l.publishers w
    wakes_of_publish n w live (Err (Exhausted back)) l = []

    -- a read that finds nothing registers the waker, if one is given, in the subscribers' list of n places; another may have freed a message
    abbrev pub lists_after_read : {A : Type 0} → ℕ → Option W → Option A → Bool → Lists W → Lists W
    lists_after_read n w None freed l = record l { subscribers = registered_if eq n l.subscribers w }
    lists_after_read n w (Some a) freed l = lists_after_room freed l

    abbrev pub wakes_of_read : {A : Type 0} → ℕ → Option W → Option A → Bool → Lists W → List W
    wakes_of_read n w None freed l = displaced_if eq n l.subscribers w
    wakes_of_read n w (Some a) freed l = wakes_of_room freed l

    -- a stream that finds nothing registers its waker; one that lags hands it out at once
    abbrev pub lists_after_stream : {A : Type 0} → ℕ → W → Bool → Poll A → Bool → Lists W → Lists W
    lists_after_stream n w lags (Ready a) freed l = lists_after_room freed l
    lists_after_stream n w true Pending freed l = l
    lists_after_stream n w false Pending freed l = record l { subscribers = registered eq n l.subscribers w }

    abbrev pub wakes_of_stream : {A : Type 0} → ℕ → W → Bool → Poll A → Bool → Lists W → List W
    wakes_of_stream n w lags (Ready a) freed l = wakes_of_room freed l
    wakes_of_stream n w true Pending freed l = w ∷ []
    wakes_of_stream n w false Pending freed l = displaced eq n l.subscribers w
