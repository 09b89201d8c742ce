-- What is owed to a request of a pipe, and the laws that its steps keep.
use Rattle.std.specs.Prelude.{◌≡◌, ℕ, Bool, true, false, List, [], length, take, drop, Option, Some, refl, nat_lt}
use Rattle.esync_base.specs.Registration.{IsAmong}
use Rattle.esync_base.specs.Ring.{Ringed}
use Rattle.esync_machine.specs.Rules.{IsIdle, IdleIsPending}
use Rattle.esync_machine.specs.declared.primitive.Answer.{Answer}
use Rattle.esync_machine.specs.declared.primitive.Answer.TheVariants.{Pending}
use Rattle.esync_pipe.specs.Piped.{Slots}
use Rattle.esync_pipe.specs.Pipe.{behind, is_empty, is_full, puts}
use Rattle.esync_pipe.specs.declared.pipe.machine.PipeAsk.{PipeAsk}
use Rattle.esync_pipe.specs.declared.pipe.machine.PipeAsk.TheVariants.{Write, WriteAll, Read, Fill}
use Rattle.esync_pipe.specs.declared.pipe.machine.PipeHeard.{PipeHeard}
use Rattle.esync_pipe.specs.PipeRules.{pipe_rules, PollsWrite, PollsWriteAll, PollsRead, PollsFill}
use Rattle.std.proofs.Common.{arith, ◌∙◌, sym, ap, append-nil}
use Rattle.std.proofs.lemmas.Bool.Decides.{nat_tests}
use Rattle.esync_base.specs.ListedLaws.{same_number}

-- a request that waits for room is owed its waker in the writers' slot, and one that waits for bytes in the readers'
module _ {W : Type 0} (eq : W → W → Bool) (n : ℕ) where
  abbrev pub OwesRoom : Ringed ℕ → Slots W → W → Type 0
  OwesRoom o s w = (is_full n o ≡ true) × IsAmong eq w s.writers

  abbrev pub OwesBytes : Ringed ℕ → Slots W → W → Type 0
  OwesBytes o s w = (is_empty o ≡ true) × IsAmong eq w s.readers

  abbrev pub OwesFor : Ringed ℕ → Slots W → PipeAsk (List ℕ) → W → Type 0
  OwesFor o s (Write bytes) w = OwesRoom o s w
  OwesFor o s (WriteAll bytes) w = (nat_lt 0 (length bytes) ≡ true) × OwesRoom o s w
  OwesFor o s (Read k) w = OwesBytes o s w
  OwesFor o s Fill w = OwesBytes o s w

-- a write into a full pipe puts nothing
puts-full : (n : ℕ) (o : Ringed ℕ) (bytes : List ℕ) → is_full n o ≡ true → puts n o bytes ≡ 0
puts-full n o bytes h = let e = same_number (length o.items) n h in grind (arith, nat_tests)

-- what a write puts of a pipe leaves the pipe as it was only if it is nothing
same-behind : (o : Ringed ℕ) → o ≡ behind o []
same-behind o = ap (λ l. record { items = l; front = o.front }) (sym (append-nil o.items))

pub pipe_idle : {W : Type 0} (eq : W → W → Bool) (n : ℕ) (o : Ringed ℕ) (s : Slots W) (ask : PipeAsk (List ℕ)) (w : W) → OwesFor eq n o s ask w → IsIdle (pipe_rules n) o ask
pipe_idle eq n o s (Write bytes) w h = rw (h.0, PollsWrite) (refl, refl, refl)
pipe_idle eq n o s (WriteAll bytes) w h =
    let none = puts-full n o bytes h.1.0 in
    let left : nat_lt (puts n o bytes) (length bytes) ≡ true = rw none h.0 in
    rw (left, PollsWriteAll) (refl, same-behind o ∙ ap (λ k. behind o (take k bytes)) (sym none), ap (λ k. Some (WriteAll (drop k bytes))) (sym none), h.1.0)
pipe_idle eq n o s (Read k) w h = rw (h.0, PollsRead) (refl, refl, refl)
pipe_idle eq n o s Fill w h = rw (h.0, PollsFill) (refl, refl, refl)

module _ (n : ℕ) (o : Ringed ℕ) (a : Answer (PipeHeard (List ℕ))) (o2 : Ringed ℕ) (p : Option (PipeAsk (List ℕ))) where
  pending_write : (bytes : List ℕ) (full : Bool) → PollsWrite n o bytes full Pending o (Some (Write bytes)) → PollsWrite n o bytes full a o2 p → (a ≡ Pending) × (o2 ≡ o) × (p ≡ Some (Write bytes))
  pending_write bytes true h j = j
  pending_write bytes false h j = (let f = h.0 in absurd cc)

  pending_write_all : (bytes : List ℕ) (left : Bool) → PollsWriteAll n o bytes left Pending o (Some (WriteAll bytes)) → PollsWriteAll n o bytes left a o2 p → (a ≡ Pending) × (o2 ≡ o) × (p ≡ Some (WriteAll bytes))
  pending_write_all bytes true h j = (j.0, j.1 ∙ sym h.1, j.2 ∙ sym h.2)
  pending_write_all bytes false h j = (let f = h.0 in absurd cc)

  pending_read : (k : ℕ) (empty : Bool) → PollsRead n o k empty Pending o (Some (Read k)) → PollsRead n o k empty a o2 p → (a ≡ Pending) × (o2 ≡ o) × (p ≡ Some (Read k))
  pending_read k true h j = j
  pending_read k false h j = (let f = h.0 in absurd cc)

  pending_fill : (empty : Bool) → PollsFill n o empty Pending o (Some Fill) → PollsFill n o empty a o2 p → (a ≡ Pending) × (o2 ≡ o) × (p ≡ Some Fill)
  pending_fill true h j = j
  pending_fill false h j = (let f = h.0 in absurd cc)

pub pipe_pending : (n : ℕ) → IdleIsPending (pipe_rules n)
pipe_pending n o (Write bytes) a o2 p h j = pending_write n o a o2 p bytes (is_full n o) h j
pipe_pending n o (WriteAll bytes) a o2 p h j = pending_write_all n o a o2 p bytes (nat_lt (puts n o bytes) (length bytes)) h j
pipe_pending n o (Read k) a o2 p h j = pending_read n o a o2 p k (is_empty o) h j
pipe_pending n o Fill a o2 p h j = pending_fill n o a o2 p (is_empty o) h j
