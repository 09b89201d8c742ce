-- The sum of what a store holds, after a message goes in and after one comes out.
use Rattle.std.specs.Prelude.{◌≡◌, ℕ, ◌+◌, List, [], ◌∷◌, ◌++◌, sum, IsPermutation}
use Rattle.std.proofs.Common.{arith, ◌∙◌, ap}
use Rattle.std.proofs.lemmas.List.Sorted.{sum_by_pushed, sum_by_popped}
use Rattle.std.proofs.lemmas.List.Sums.{sum_by_push, sum_by-cons}

pub sum-at-back : (old new : List ℕ) (message : ℕ) → new ≡ old ++ message ∷ [] → sum new ≡ sum old + message
sum-at-back old new message h = ap sum h ∙ sum_by_push (λ x. x) old message

pub sum-at-front : (old new : List ℕ) (message : ℕ) → old ≡ message ∷ new → sum old ≡ message + sum new
sum-at-front old new message h = ap sum h ∙ sum_by-cons (λ x. x) message new

pub sum-of-more : (old new : List ℕ) (message : ℕ) → IsPermutation (message ∷ old) new → sum new ≡ sum old + message
sum-of-more old new message h = omega (arith, sum_by_pushed (λ x. x) message old new h)

pub sum-of-less : (old new : List ℕ) (message : ℕ) → IsPermutation old (message ∷ new) → sum old ≡ message + sum new
sum-of-less old new message h = omega (arith, sum_by_popped (λ x. x) message old new h)
