-- The steps so far of a machine, which can be extended by a step. Between them stand the machine's own states, so that
-- what is owed isn't forgotten.
use Rattle.std.specs.Prelude.{◌≡◌, ℕ, List, [], ◌∷◌, Some, ◌⊎◌}
use Rattle.esync_machine.specs.Runs.{Semantics, Step, Polls, HandsOut, LastPoll, IsWaiting, IsWoken, IsQuiet, Answers}
use Rattle.esync_machine.specs.Wakings.{IsHanded}

module _ {S C A W : Type 0} (X : Semantics S C A W) where
  -- A turn of the machine, as a step's contract says it: a command, its answer, and the states before and after it.
  pub record Turn (old : S) (c : C) (a : A) (new : S) : Type 0 where
    pub allowed : X.meaning.allows (X.object old) c a (X.object new)
    -- the wakers that are handed out, and the wakers that are registered after it
    pub exact : IsHanded (X.meaning.handed (X.object old) (X.registrations old) c a (X.object new)) (X.meaning.wakes a) (X.registrations new)
    -- a Pending poll that changes nothing doesn't hand out its own waker
    pub quiet : (X.meaning.WakesItself → ⊥) → IsQuiet X.meaning (X.object old) c a (X.object new)
    -- a poll that hears Pending registers its waker, or hands it out
    pub registered : (r : ℕ) (w : W) → X.meaning.polls c ≡ Some (r, w) → X.meaning.IsPending a → HandsOut X.meaning a w ⊎ X.Owes new r w
    -- what is owed stays owed, or is handed out
    pub kept : (r : ℕ) (w : W) → X.Owes old r w → (Polls X.meaning c r → ⊥) → (X.meaning.Ends (X.object old) c r → ⊥) → HandsOut X.meaning a w ⊎ X.Owes new r w

  -- two states have the same object and the same registered wakers
  abbrev pub IsLike : S → S → Type 0
  IsLike s t = (X.object s ≡ X.object t) × (X.registrations s ≡ X.registrations t)

  -- a turn as the objects see it
  abbrev pub step_of : S → C → A → S → Step X.meaning.Object C A
  step_of old c a new = record { before = X.object old; command = c; reply = a; after = X.object new }

  -- these steps, each of which is a turn, lead from one state to another
  abbrev pub Through : S → List (Step X.meaning.Object C A) → S → Type 0
  Through old [] new = new ≡ old
  Through old (s ∷ steps) new = (mid : S) × (s ≡ step_of old s.command s.reply mid) × Turn old s.command s.reply mid × Through mid steps new

  -- to each request that waits after these steps and wasn't woken, its last waker is owed
  abbrev pub AreOwed : List (Step X.meaning.Object C A) → S → Type 0
  AreOwed steps new = (r : ℕ) (p : LastPoll X.meaning steps r) → IsWaiting X.meaning steps r p → IsWoken X.meaning steps r p ⊎ X.Owes new r p.waker

  -- The commands and the answers so far.
  pub record History (old : S) (commands : List C) (replies : List A) (new : S) : Type 0 where
    pub steps : List (Step X.meaning.Object C A)
    pub answers : Answers X.meaning commands replies steps
    pub through : Through old steps new
