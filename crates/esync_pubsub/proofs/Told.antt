-- What the steps of a state tell its machine: what they do to the log, what they hand out, and that as many publishers are counted.
use Rattle.std.proofs.Common.{◌≡◌, ℕ, ◌<◌, ◌≤◌, Bool, true, List, length, Option, ap, subst}
use Rattle.std.specs.Prelude.{Ok}
use Rattle.esync_base.specs.declared.waitqueue.Poll.{Poll}
use Rattle.esync_machine.specs.Wakings.{Handed, IsHanded, nothing}
use Rattle.esync_log.specs.Log.{Log, is_live, position, left, lags, caught, Reads, ReadsOn, Streams, IsRefused}
use Rattle.esync_log.specs.declared.log.WaitResult.{WaitResult}
use Rattle.esync_pubsub.specs.PubSub.{PubSub, Lists, frees, lists_after_room, wakes_of_room, lists_after_read, wakes_of_read, lists_after_stream, wakes_of_stream}
use Rattle.esync_pubsub.specs.PubSubRules.{IsBelow, read_hands, pure_hands, stream_hands}
use Rattle.esync_pubsub.specs.Steps.{IfThere, IsIdle, Leaving, Reading, ReadingNext, ReadingOn, Streaming}
use Rattle.esync_pubsub.proofs.Reading.{read_below, pure_below, refused_below, read_handed, pure_handed, stream_handed}

pub record Told {T W : Type 0} (Does : Log T → Type 0) (h : Handed (Lists W) W) (s s2 : PubSub T W) (wakes : List W) : Type 0 where
  pub does : Does s2.log
  pub exact : IsHanded h wakes s2.lists
  pub publishers : s2.publishers ≡ s.publishers

-- of who is there
pub there_is : (A B : Type 0) (b : Bool) → b ≡ true → IfThere b A B → A
there_is A B b e h = subst (λ x. IfThere x A B) e h

-- whose clone is refused
pub refused_told : {T W : Type 0} (I : T → Type 0) (place n : ℕ) (s s2 : PubSub T W) (wakes : List W) (B : Type 0) → is_live place s.log ≡ true → length s.log.held ≤ s.log.next → IfThere (is_live place s.log) (IsRefused I place n s.log × IsIdle s s2 wakes) B → Told (λ log2. (n < s.log.next) × IsRefused I place n s.log × (log2 ≡ s.log)) (nothing s.lists) s s2 wakes
refused_told I place n s s2 wakes B live numbered h =
    let r = there_is (IsRefused I place n s.log × IsIdle s s2 wakes) B (is_live place s.log) live h in
    record {
      does = (refused_below I place n s.log numbered r.0, r.0, ap (λ x. x.log) r.1.0);
      exact = (r.1.1, ap (λ x. x.lists) r.1.0);
      publishers = ap (λ x. x.publishers) r.1.0;
    }

-- who reads
module _ {T W : Type 0} (E : Type 0) (eq : W → W → Bool) (C : T → T → Type 0) (I : T → Type 0) (subs pubs place : ℕ) (s s2 : PubSub T W) (wakes : List W) (live : is_live place s.log ≡ true) (numbered : length s.log.held ≤ s.log.next) where
  pub next_told : (w : Option W) (answer : Option (WaitResult T)) → ReadingNext eq C I {E = E} subs place w s (Ok answer) s2 wakes → Told (λ log2. IsBelow answer (position place s.log) s.log × Reads C place s.log answer log2) (read_hands eq subs pubs place s.log w answer s.lists) s s2 wakes
  next_told w answer h =
      let r : Reading {E = E} (Reads C place s.log) (IsRefused I place (position place s.log) s.log) (lists_after_read eq subs w) (wakes_of_read eq subs w) s (Ok answer) s2 wakes = there_is _ _ (is_live place s.log) live h in
      record {
        does = (read_below C place s.log s2.log answer numbered r.0, r.0);
        exact = read_handed eq subs pubs place s.log s2.log s.lists s2.lists wakes C w answer r.0 r.2 (ap (λ x. x.lists) r.1);
        publishers = ap (λ x. x.publishers) r.1;
      }

  pub on_told : (w : Option W) (answer : Option T) → ReadingOn eq C I {E = E} subs place w s (Ok answer) s2 wakes → Told (λ log2. IsBelow answer (position place (caught place s.log)) s.log × ReadsOn C place s.log answer log2) (pure_hands eq subs pubs place s.log w answer s.lists) s s2 wakes
  on_told w answer h =
      let r : Reading {E = E} (ReadsOn C place s.log) (IsRefused I place (position place (caught place s.log)) s.log) (lists_after_read eq subs w) (wakes_of_read eq subs w) s (Ok answer) s2 wakes = there_is _ _ (is_live place s.log) live h in
      record {
        does = (pure_below C place s.log s2.log answer numbered r.0, r.0);
        exact = pure_handed eq subs pubs place s.log s2.log s.lists s2.lists wakes C w answer r.0 r.2 (ap (λ x. x.lists) r.1);
        publishers = ap (λ x. x.publishers) r.1;
      }

  pub stream_told : (w : W) (answer : Poll (Option T)) → Streaming eq C I {E = E} subs place w s (Ok answer) s2 wakes → Told (λ log2. Streams C place s.log answer log2) (stream_hands eq subs pubs place s.log w answer s.lists) s s2 wakes
  stream_told w answer h =
      let r : Reading {E = E} (Streams C place s.log) (IsRefused I place (position place s.log) s.log) (lists_after_stream eq subs w (lags place s.log)) (wakes_of_stream eq subs w (lags place s.log)) s (Ok answer) s2 wakes = there_is _ _ (is_live place s.log) live h in
      record {
        does = r.0;
        exact = stream_handed eq subs pubs place s.log s2.log s.lists s2.lists wakes C w answer r.0 r.2 (ap (λ x. x.lists) r.1);
        publishers = ap (λ x. x.publishers) r.1;
      }

-- of a subscriber that is there and leaves
pub leave_told : {T W : Type 0} (place : ℕ) (s s2 : PubSub T W) (wakes : List W) → is_live place s.log ≡ true → Leaving place s s2 wakes → (s2 ≡ record s { log = left place s.log; lists = lists_after_room (frees s.log (left place s.log)) s.lists }) × (wakes ≡ wakes_of_room (frees s.log (left place s.log)) s.lists)
leave_told place s s2 wakes live h = there_is ((s2 ≡ record s { log = left place s.log; lists = lists_after_room (frees s.log (left place s.log)) s.lists }) × (wakes ≡ wakes_of_room (frees s.log (left place s.log)) s.lists)) (IsIdle s s2 wakes) (is_live place s.log) live h
