-- What a recording keeps of the calls that a machine took, and of the seats that made them.
use Rattle.std.specs.Prelude.{◌≡◌, ◌==◌, ◌&&◌, ◌+◌, ◌≤◌, ℕ, Bool, true, List, [], ◌∷◌, ◌++◌, Some, length, map, slice_get, refl}
use Rattle.std.specs.Coded.{Coded, code_by, coded×, coded_list}
use Rattle.std.specs.List.{count_by}
use Rattle.esync_base.specs.Listed.{AreDistinct}
use Rattle.esync_machine.specs.Runs.{Semantics, Step, IsRun, Answers, GoodRun, Each}
use Rattle.esync_machine.specs.Histories.{Turn, History, AreOwed, IsLike}
use Rattle.esync_history.specs.declared.recorded.Entry.{Entry}
use Rattle.esync_history.specs.declared.recorded.Receipt.{Receipt}

-- a seat: its number, and how many calls were recorded for it
pub record Seated : Type 0 where
  pub number : ℕ
  pub calls : ℕ

-- how many seats were made, and how many can still be made
pub record Seating : Type 0 where
  pub made : ℕ
  pub left : ℕ

-- a machine with its journal
pub record Recording (S C A : Type 0) : Type 0 where
  -- a machine like the one with which the journal began
  pub opening : S
  pub journal : List (Entry C A)
  pub machine : S

abbrev pub recording_code : {S C A : Type 0} → Coded S → Coded (Entry C A) → Coded (Recording S C A)
recording_code {S} {C} {A} s e =
    code_by (S × (List (Entry C A) × S)) (coded× s (coded× (coded_list e) s)) (λ b. (b.opening, (b.journal, b.machine))) (λ p. record { opening = p.0; journal = p.1.0; machine = p.1.1 }) (λ _. refl)

abbrev pub commands_of : {C A : Type 0} → List (Entry C A) → List C
commands_of journal = map (λ e. e.command) journal

abbrev pub replies_of : {C A : Type 0} → List (Entry C A) → List A
replies_of journal = map (λ e. e.reply) journal

-- how many of the entries are those of the seat
abbrev pub count_of : {C A : Type 0} → ℕ → List (Entry C A) → ℕ
count_of seat journal = count_by (λ e. e.seat == seat) journal

-- one more entry of the seat, and as many as before of every other seat
abbrev pub CountsOne : {C A : Type 0} → ℕ → List (Entry C A) → List (Entry C A) → Type 0
CountsOne seat old new = (count_of seat new ≡ count_of seat old + 1) × ((k : ℕ) → (k ≡ seat → ⊥) → count_of k new ≡ count_of k old)

-- whether two entries are equal, by an equality of commands and one of replies
abbrev pub same_entry : {C A : Type 0} → (C → C → Bool) → (A → A → Bool) → Entry C A → Entry C A → Bool
same_entry same_command same_reply x y = x.seat == y.seat && (same_command x.command y.command && same_reply x.reply y.reply)

module _ {C A : Type 0} (same : Entry C A → Entry C A → Bool) (journal : List (Entry C A)) where
  -- the receipt matches the journal's entry at its number
  abbrev pub IsEntry : Receipt C A → Type 0
  IsEntry receipt = (e : Entry C A) × (slice_get journal receipt.number ≡ Some e) × (same e receipt.entry ≡ true)

  -- each receipt matches an entry, and no number occurs twice
  abbrev pub AreEntries : List (Receipt C A) → Type 0
  AreEntries receipts = Each IsEntry receipts × AreDistinct (λ receipt. receipt.number) receipts

module _ {S C A W : Type 0} (X : Semantics S C A W) where
  -- the journal has the steps of a run, from a machine like the opening to this machine
  abbrev pub IsKept : S → List (Entry C A) → S → Type 0
  IsKept opening journal machine = (start : S) × IsLike X start opening × History X start (commands_of journal) (replies_of journal) machine

  -- the journal, without seats, is a run from the opening's object to the machine's, with both laws of wakes and its exact wakes
  abbrev pub Replays : Recording S C A → Type 0
  Replays b = GoodRun X.meaning (X.object b.opening) (X.registrations b.opening) (commands_of b.journal) (replies_of b.journal) (X.object b.machine) (X.registrations b.machine)

  -- the journal is the steps of a run to the machine, which owes its last waker to each request that waits there and wasn't woken
  abbrev pub Owing : Recording S C A → Type 0
  Owing b =
      (steps : List (Step X.meaning.Object C A)) × Answers X.meaning (commands_of b.journal) (replies_of b.journal) steps × IsRun X.meaning (X.object b.opening) steps (X.object b.machine) × AreOwed X steps b.machine

  -- One call: the machine took a turn, the journal has it as its last entry, and the seat counts it.
  pub record IsRecorded (old : Recording S C A) (before : Seated) (command : C) (receipt : Receipt C A) (new : Recording S C A) (after : Seated) : Type 0 where
    pub made_by : receipt.entry.seat ≡ before.number
    pub asked : receipt.entry.command ≡ command
    pub turn : Turn X old.machine command receipt.entry.reply new.machine
    pub place : receipt.number ≡ length old.journal
    pub journal : new.journal ≡ old.journal ++ receipt.entry ∷ []
    pub opening : new.opening ≡ old.opening
    pub seat : after.number ≡ before.number
    pub calls : after.calls ≡ before.calls + 1

  -- One call on a journal that nobody else can name: it replays, and has no fewer entries than the seat calls.
  abbrev pub WasRecorded : Seated → C → Receipt C A → Seated → Type 0
  WasRecorded before command receipt after =
      (old : Recording S C A) × (new : Recording S C A) × IsRecorded old before command receipt new after × Replays new × (after.calls ≤ length new.journal)
