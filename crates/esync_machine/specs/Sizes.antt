-- The lengths and the free capacities that the answers of a run tell: they add up to the capacity.
use Rattle.std.specs.Prelude.{◌≡◌, ℕ, ◌+◌, List}
use Rattle.esync_machine.specs.Account.{AtEach}
use Rattle.esync_machine.specs.declared.run.Reply.{Reply}
use Rattle.esync_machine.specs.declared.primitive.Answer.{Answer}
use Rattle.esync_machine.specs.declared.primitive.Answer.TheVariants.{Gives}
use Rattle.esync_machine.specs.declared.primitive.Command.{Command}
use Rattle.esync_machine.specs.declared.primitive.Command.TheVariants.{Call}

-- Two calls ask for the length and for the free capacity, and an answer tells a number. `IsHeld` says how many items
-- are held, by what is known before an answer.
module _ {Ask C A S : Type 0} (Len FreeCapacity : C) (Number : ℕ → A) (capacity : ℕ) (IsHeld : S → ℕ → Type 0) where
  -- a length that is told is how many are held, and a free capacity makes up the capacity with it
  pub record AddUp {W : Type 0} (k : S) (c : Command Ask W C) (a : Answer A) : Type 0 where
    pub held : (n : ℕ) → c ≡ Call Len → a ≡ Gives (Number n) → IsHeld k n
    pub free : (n : ℕ) → c ≡ Call FreeCapacity → a ≡ Gives (Number n) → (held : ℕ) × IsHeld k held × (n + held ≡ capacity)

  -- the sizes add up at each answer of a run, if `after` says what is known after one, and this is known at first
  abbrev pub SizesAddUp : {W : Type 0} {K : ℕ} → (S → Command Ask W C → Answer A → S) → S → List (Command Ask W C) → List (Reply (Answer A) W K) → Type 0
  SizesAddUp after k commands replies = AtEach (λ k c a. after k c a.answer) (λ k c a. AddUp k c a.answer) k commands replies
