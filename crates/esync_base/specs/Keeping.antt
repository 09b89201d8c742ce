-- How messages are kept: how many of them, and which one leaves first.
use Rattle.std.specs.Prelude.{◌≡◌, ℕ, suc, List, [], ◌∷◌, ◌++◌, length}
use Rattle.std.proofs.Common.{ap, ◌∙◌, arith}
use Rattle.std.proofs.lemmas.List.{length_push}

pub record Keeping (T : Type 0) : Type 1 where
  -- the most that are held
  pub capacity : ℕ
  -- `Puts old message new`: putting the message in makes the new list of the old one
  pub Puts : List T → T → List T → Type 0
  -- `Takes old message new`: taking the message out makes the new list of the old one
  pub Takes : List T → T → List T → Type 0
  pub one_more : (old new : List T) (message : T) → Puts old message new → length new ≡ suc (length old)
  pub one_less : (old new : List T) (message : T) → Takes old message new → length old ≡ suc (length new)

-- at most n messages, oldest first: the oldest leaves first
abbrev pub BoundedList : (T : Type 0) → ℕ → Keeping T
BoundedList T n = record {
  capacity = n;
  Puts = λ old message new. new ≡ old ++ message ∷ [];
  Takes = λ old message new. old ≡ message ∷ new;
  one_more = λ old new message h. ap length h ∙ (let e : length (old ++ message ∷ []) ≡ suc (length old) = omega (arith, length_push old message) in e);
  one_less = λ old new message h. ap length h;
}
