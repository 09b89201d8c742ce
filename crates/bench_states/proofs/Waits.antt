-- Who waits at a fair semaphore after a poll of who waits alone, or where nobody does.
use Rattle.std.proofs.Common.{◌≡◌, ℕ, ◌≤◌, List, [], ◌∷◌, ap, ◌∙◌, arith}
use Rattle.std.specs.Prelude.{Option, Some, None}
use Rattle.std.specs.Option.{option_to_list}
use Rattle.esync_base.specs.ListedLaws.{equal_number}
use Rattle.esync_permits.specs.declared.queue.Entry.{Entry}
use Rattle.esync_permits.specs.declared.semaphore.Amount.TheVariants.{Exactly}
use Rattle.esync_permits.specs.declared.semaphore.FairPoll.{FairPoll}
use Rattle.esync_permits.specs.declared.semaphore.FairPoll.TheVariants.{Pending, Ready}
use Rattle.esync_permits.specs.Permits.{TakesInTurn}
use Rattle.esync_permits.specs.Queue.{is_next, numbers}
use Rattle.esync_permits.specs.Fair.{heard, ticket_after, granted_by, Queues}

module _ {W : Type 0} (n : ℕ) (w : W) (es2 : List (Entry W)) where
  -- it waits alone then, or nobody does
  pub alone-after : (ticket : Option ℕ) (r : FairPoll) (es : List (Entry W)) → numbers es ≡ option_to_list ticket → Queues n w ticket es (ticket_after r) es2 → numbers es2 ≡ option_to_list (ticket_after r)
  alone-after None (Ready answer) es alone queues = ap numbers queues ∙ alone
  alone-after None (Pending u) [] alone queues = ap numbers queues.2
  alone-after None (Pending u) (e ∷ es) alone queues = absurd cc
  alone-after (Some t) r [] alone queues = absurd cc
  alone-after (Some t) r (e ∷ d ∷ es) alone queues = absurd cc
  alone-after (Some t) (Ready answer) (e ∷ []) alone queues = (let same : e.number ≡ t = cc in ap numbers (rw (equal_number e.number t same) at queues))
  alone-after (Some t) (Pending u) (e ∷ []) alone queues = (let same : e.number ≡ t = cc in let after = rw (equal_number e.number t same) at queues.1 in ap numbers after ∙ cc)

  -- its permits were there, so it doesn't wait
  pub nobody-left : (m p p2 : ℕ) → m ≤ p → (ticket : Option ℕ) (r : FairPoll) (es : List (Entry W)) → numbers es ≡ option_to_list ticket → TakesInTurn (is_next ticket (numbers es)) p (Exactly m) (granted_by (heard r)) p2 → Queues n w ticket es (ticket_after r) es2 → numbers es2 ≡ []
  nobody-left m p p2 enough ticket (Ready answer) es alone takes queues = alone-after ticket (Ready answer) es alone queues
  nobody-left m p p2 enough None (Pending u) [] alone takes queues = absurd (omega (arith, takes.0))
  nobody-left m p p2 enough None (Pending u) (e ∷ es) alone takes queues = absurd cc
  nobody-left m p p2 enough (Some t) (Pending u) [] alone takes queues = absurd cc
  nobody-left m p p2 enough (Some t) (Pending u) (e ∷ d ∷ es) alone takes queues = absurd cc
  nobody-left m p p2 enough (Some t) (Pending u) (e ∷ []) alone takes queues = (let same : e.number ≡ t = cc in let late = rw (equal_number e.number t same) at takes in absurd (omega (arith, late.0)))
