-- Suited tasks stand as they have to, before their first turn.
use Rattle.std.proofs.Common.{◌≡◌, ℕ, zero, suc, ◌+◌, true, false, List, [], ◌∷◌, map, Some, inl, inr, refl, sym, ap, subst, ◌∙◌, arith}
use Rattle.std.specs.Prelude.{slice_get}
use Rattle.esync_base.specs.Listed.{is_in}
use Rattle.esync_base.specs.ListedLaws.{true_or_false, has_number-front, has_number-behind}
use Rattle.esync_base.specs.declared.waitqueue.TaskId.{TaskId}
use Rattle.esync_machine.specs.Runs.{Semantics}
use Rattle.esync_history.specs.declared.executor.Act.{Act}
use Rattle.esync_history.specs.Suited.{AreSuited}
use Rattle.esync_history.specs.Todo.{Todo, fresh, has_ended, numbers_from, unended}
use Rattle.esync_history.specs.Standing.{AreStanding}
use Rattle.esync_history.specs.StandingLaws.{standing_first}

module _ {Ask Command : Type 0} where
  unended_queued : (k : ℕ) (tasks : List (Todo Ask Command)) (i : ℕ) (t : Todo Ask Command) → slice_get tasks i ≡ Some t → has_ended t ≡ false → is_in (k + i) (numbers_from k tasks) ≡ true
  unended_queued k [] i t e h = absurd cc
  unended_queued k (x ∷ tasks) zero t e h =
      let s : x ≡ t = cc in
      let n : k + 0 ≡ k = omega arith in
      rw (n, s, h) (has_number-front (λ n. n) k (numbers_from (k + 1) tasks))
  unended_queued k (x ∷ tasks) (suc i) t e h =
      let n : k + suc i ≡ k + 1 + i = omega arith in
      let ne : k + 1 + i ≡ k → ⊥ = λ f. omega arith in
      let rest = unended_queued (k + 1) tasks i t e h in
      rw n (elim (true_or_false (has_ended x)) [
        | inl b ↦ rw b rest
        | inr b ↦ rw b (has_number-behind (λ n. n) (k + 1 + i) k (numbers_from (k + 1) tasks) ne ∙ rest)
      ])

  fresh_all : {V : Type 0} (items : V → List (Act Ask Command)) (vs : List V) → map fresh (map items vs) ≡ map (λ v. fresh (items v)) vs
  fresh_all items [] = refl
  fresh_all items (v ∷ vs) = ap (λ ts. fresh (items v) ∷ ts) (fresh_all items vs)

module _ {S Command Reply : Type 0} (X : Semantics S Command Reply TaskId) (numbers : ℕ) {Ask : Type 0} where
  pub standing_new : {V : Type 0} (m : S) (items : V → List (Act Ask Command)) (vs given : List V) (tasks lent : List (Todo Ask Command)) (queue : List ℕ) → given ≡ vs → AreSuited X.meaning numbers (map items given) → tasks ≡ map (λ v. fresh (items v)) vs → lent ≡ tasks → queue ≡ unended lent → AreStanding X m tasks queue
  standing_new m items vs given tasks lent queue g h t l q =
      let first = standing_first X numbers (λ k. is_in k (unended (map fresh (map items vs))) ≡ true) m (map items vs) (subst (λ xs. AreSuited X.meaning numbers (map items xs)) g h) (λ k t e u. (let z : 0 + k ≡ k = omega arith in subst (λ n. is_in n (unended (map fresh (map items vs))) ≡ true) z (unended_queued 0 (map fresh (map items vs)) k t e u))) in
      let made : tasks ≡ map fresh (map items vs) = t ∙ sym (fresh_all items vs) in
      let queued : queue ≡ unended (map fresh (map items vs)) = q ∙ ap unended (l ∙ made) in
      subst (λ xs. AreStanding X m xs queue) (sym made) (subst (λ ns. AreStanding X m (map fresh (map items vs)) ns) (sym queued) first)
