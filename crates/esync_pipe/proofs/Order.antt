-- What was written comes out, in order, and sizes add up.
use Rattle.std.proofs.Common.{◌≡◌, ℕ, ◌+◌, ◌-◌, min, Bool, true, false, List, [], ◌++◌, length, take, drop, Option, Some, None, refl, sym, ap, ◌∙◌, subst, append_assoc, append-nil, arith, length-append}
use Rattle.std.specs.Prelude.{Result, Ok, Err, IfSome, nat_lt}
use Rattle.std.proofs.lemmas.List.{take-append-drop, drop_at}
use Rattle.esync_base.specs.Ring.{Ringed}
use Rattle.esync_base.specs.ListedLaws.{unequal_number}
use Rattle.esync_machine.specs.Account.{ask_of}
use Rattle.esync_machine.specs.AccountLaws.{of_any_kind, asked_at_first, ask_of-started, ask_of-other, KeepsEach, keeps_each, told_requests, IsTold}
use Rattle.esync_machine.specs.SizesLaws.{TellsSizes, sizes_requests}
use Rattle.esync_machine.specs.Runs.{GoodRun}
use Rattle.esync_machine.specs.Object.{Object, requests_meaning}
use Rattle.esync_machine.specs.Rules.{reach_of}
use Rattle.esync_machine.specs.Wakings.{Wakings}
use Rattle.esync_machine.specs.declared.run.Reply.{Reply}
use Rattle.esync_machine.specs.declared.primitive.Answer.{Answer}
use Rattle.esync_machine.specs.declared.primitive.Answer.TheVariants.{Done, Pending, NoSuch, NoMemory, Gives}
use Rattle.esync_machine.specs.declared.primitive.Reach.TheVariants.{Number as AtNumber}
use Rattle.esync_machine.specs.declared.primitive.Command.{Command}
use Rattle.esync_machine.specs.declared.primitive.Command.TheVariants.{Start, Poll, End, Call}
use Rattle.esync_pipe.specs.Pipe.{behind, without, puts, shown, is_empty, is_full, Writes}
use Rattle.esync_pipe.specs.PipeRules.{pipe_rules, taken, Polls, PollsWrite, PollsWriteAll, PollsRead, PollsFill, TakesOut, Fills, Consumes, Calls}
use Rattle.esync_pipe.specs.PipeOrder.{Account, after, room_for, asked_then, asked_meanwhile, at_first, IsHeld, InOrder, SizesAddUp}
use Rattle.esync_pipe.specs.declared.pipe.TryReadError.{TryReadError}
use Rattle.esync_pipe.specs.declared.pipe.TryWriteError.{TryWriteError}
use Rattle.esync_pipe.specs.declared.pipe.machine.PipeAsk.{PipeAsk}
use Rattle.esync_pipe.specs.declared.pipe.machine.PipeAsk.TheVariants.{Write, WriteAll, Read, Fill}
use Rattle.esync_pipe.specs.declared.pipe.machine.PipeCall.{PipeCall}
use Rattle.esync_pipe.specs.declared.pipe.machine.PipeCall.TheVariants.{TryWrite, TryRead, TryFill, Consume, Clear, Len, FreeCapacity}
use Rattle.esync_pipe.specs.declared.pipe.machine.PipeHeard.{PipeHeard}
use Rattle.esync_pipe.specs.declared.pipe.machine.PipeHeard.TheVariants.{TryWrote, HasTriedRead, Number}

-- the bytes that are held are those that were written and not taken
abbrev IsInOrder : Ringed ℕ → Account → Type 0
IsInOrder o k = k.taken ++ o.items ≡ k.written

-- the account has what the request asks for
abbrev IsKnown : Account → ℕ → PipeAsk (List ℕ) → Type 0
IsKnown k r ask = ask_of k.asked r ≡ Some ask

more_written : (o o2 : Ringed ℕ) (k : Account) (bytes : List ℕ) → o2 ≡ behind o bytes → IsInOrder o k → k.taken ++ o2.items ≡ k.written ++ bytes
more_written o o2 k bytes e order = ap (λ (x : Ringed ℕ). k.taken ++ x.items) e ∙ sym (append_assoc k.taken o.items bytes) ∙ ap (λ l. l ++ bytes) order

more_taken : (n : ℕ) (o o2 : Ringed ℕ) (k : Account) (count : ℕ) → o2 ≡ without n o count → IsInOrder o k → (k.taken ++ take count o.items) ++ o2.items ≡ k.written
more_taken n o o2 k count e order =
    ap (λ (x : Ringed ℕ). (k.taken ++ take count o.items) ++ x.items) e ∙ append_assoc k.taken (take count o.items) (drop count o.items)
    ∙ ap (λ l. k.taken ++ l) (take-append-drop count o.items) ∙ order

same_held : (o o2 : Ringed ℕ) (k : Account) → o2 ≡ o → IsInOrder o k → IsInOrder o2 k
same_held o o2 k e order = ap (λ (x : Ringed ℕ). k.taken ++ x.items) e ∙ order

-- what is held is told
held-told : (o : Ringed ℕ) (k : Account) → IsInOrder o k → o.items ≡ drop (length k.taken) k.written
held-told o k order = sym (drop_at k.taken o.items (length k.taken) refl) ∙ ap (drop (length k.taken)) order

length-told : (o : Ringed ℕ) (k : Account) → IsInOrder o k → length k.taken + length o.items ≡ length k.written
length-told o k order = sym (length-append k.taken o.items) ∙ ap length order

room-told : (n : ℕ) (o : Ringed ℕ) (k : Account) (bytes : List ℕ) → IsInOrder o k → room_for n k bytes ≡ puts n o bytes
room-told n o k bytes order =
    let l = length-told o k order in
    ap (λ m. min (length bytes) (n - m)) (let e : length k.written - length k.taken ≡ length o.items = omega arith in e)

module _ (W : Type 0) (n : ℕ) where
  refused : (k : Account) (c : Command (PipeAsk (List ℕ)) W (PipeCall (List ℕ))) → after n k c NoSuch ≡ k
  refused k (Start r ask) = refl
  refused k (Poll r w) = refl
  refused k (End r) = refl
  refused k (Call (TryWrite bytes)) = refl
  refused k (Call (TryRead count)) = refl
  refused k (Call TryFill) = refl
  refused k (Call (Consume count)) = refl
  refused k (Call Clear) = refl
  refused k (Call Len) = refl
  refused k (Call FreeCapacity) = refl

  -- what a poll keeps
  abbrev Polled : Account → ℕ → W → Answer (PipeHeard (List ℕ)) → Ringed ℕ → Option (PipeAsk (List ℕ)) → Type 0
  Polled k r w a o2 p =
      let k2 = after n {W = W} k (Poll r w) a in
      IsInOrder o2 k2 × IfSome p (λ x. IsKnown k2 r x)

  module _ (o o2 : Ringed ℕ) (k : Account) (order : IsInOrder o k) where
    module _ (r : ℕ) (w : W) (a : Answer (PipeHeard (List ℕ))) (p : Option (PipeAsk (List ℕ))) where
      polled_write : (bytes : List ℕ) (is : Bool) → IsKnown k r (Write bytes) → PollsWrite n o bytes is a o2 p → Polled k r w a o2 p
      polled_write bytes true known t = rw (t.0, t.2) (rw known (same_held o o2 (record k { written = k.written ++ [] }) t.1 (order ∙ sym (append-nil k.written)), known))
      polled_write bytes false known t = rw (t.0, t.2) (rw known (more_written o o2 k (take (puts n o bytes) bytes) t.1 order, tt))

      polled_write_all : (bytes : List ℕ) (is : Bool) → IsKnown k r (WriteAll bytes) → PollsWriteAll n o bytes is a o2 p → Polled k r w a o2 p
      polled_write_all bytes true known t = rw (t.0, t.2) (rw (known, room-told n o k bytes order) (more_written o o2 k (take (puts n o bytes) bytes) t.1 order, ask_of-started k.asked r (WriteAll (drop (puts n o bytes) bytes))))
      polled_write_all bytes false known t = rw (t.0, t.2) (rw known (more_written o o2 k bytes t.1 order, tt))

      polled_read : (count : ℕ) (is : Bool) → IsKnown k r (Read count) → PollsRead n o count is a o2 p → Polled k r w a o2 p
      polled_read count true known t = rw (t.0, t.2) (rw known (same_held o o2 (record k { written = k.written ++ [] }) t.1 (order ∙ sym (append-nil k.written)), known))
      polled_read count false known t = rw (t.0, t.2) (more_taken n o o2 k (taken o count) t.1 order, tt)

      polled_fill : (is : Bool) → IsKnown k r Fill → PollsFill n o is a o2 p → Polled k r w a o2 p
      polled_fill true known t = rw (t.0, t.2) (rw known (same_held o o2 (record k { written = k.written ++ [] }) t.1 (order ∙ sym (append-nil k.written)), known))
      polled_fill false known t = rw (t.0, t.2) (same_held o o2 k t.1 order, tt)

      polled : (ask : PipeAsk (List ℕ)) → IsKnown k r ask → Polls n o ask a o2 p → Polled k r w a o2 p
      polled (Write bytes) known t = polled_write bytes (is_full n o) known t
      polled (WriteAll bytes) known t = polled_write_all bytes (nat_lt (puts n o bytes) (length bytes)) known t
      polled (Read count) known t = polled_read count (is_empty o) known t
      polled Fill known t = polled_fill (is_empty o) known t

    tried_write : (bytes : List ℕ) (done : Result ℕ TryWriteError) → Writes n o bytes done o2 → IsInOrder o2 (after n {W = W} k (Call (TryWrite bytes)) (Gives (TryWrote done)))
    tried_write bytes (Ok count) t = more_written o o2 k (take count bytes) t.2 order
    tried_write bytes (Err error) t = same_held o o2 k t.1 order

    tried_read : (count : ℕ) (done : Result (List ℕ) TryReadError) → TakesOut n o count done o2 → IsInOrder o2 (after n {W = W} k (Call (TryRead count)) (Gives (HasTriedRead done)))
    tried_read count (Ok bytes) t = rw t.1 (more_taken n o o2 k (taken o count) t.2 order)
    tried_read count (Err error) t = same_held o o2 k t.1 order

    tried_fill : (done : Result (List ℕ) TryReadError) → Fills n o done o2 → IsInOrder o2 k
    tried_fill (Ok bytes) t = same_held o o2 k t.2 order
    tried_fill (Err error) t = same_held o o2 k t.1 order

    consumed : (count : ℕ) (is : Bool) (a : Answer (PipeHeard (List ℕ))) → Consumes n o count is a o2 → IsInOrder o2 (after n {W = W} k (Call (Consume count)) a)
    consumed count true a t = rw t.0 (same_held o o2 k t.1 order)
    consumed count false a t = rw t.0 (ap (λ l. (k.taken ++ take count l) ++ o2.items) (sym (held-told o k order)) ∙ more_taken n o o2 k count t.1 order)

    called : (call : PipeCall (List ℕ)) (a : Answer (PipeHeard (List ℕ))) → Calls n o call a o2 → IsInOrder o2 (after n {W = W} k (Call call) a)
    called (TryWrite bytes) a t = rw t.1 (tried_write bytes t.0 t.2)
    called (TryRead count) a t = rw t.1 (tried_read count t.0 t.2)
    called TryFill a t = rw t.1 (tried_fill t.0 t.2)
    called (Consume count) a t = consumed count (nat_lt (length (shown n o)) count) a t
    called Clear a t =
        let taken = k.taken ++ drop (length k.taken) k.written in
        rw t.0 (ap (λ (x : Ringed ℕ). taken ++ x.items) t.1 ∙ append-nil taken ∙ ap (λ (l : List ℕ). k.taken ++ l) (sym (held-told o k order)) ∙ order)
    called Len a t = rw t.0 (same_held o o2 k t.1 order)
    called FreeCapacity a t = rw t.1 (same_held o o2 k t.3 order)

  meanwhile-other : (k : Account) (s r : ℕ) (ask : Option (PipeAsk (List ℕ))) → (s ≡ r → ⊥) → ask_of (asked_meanwhile n k s ask) r ≡ ask_of k.asked r
  meanwhile-other k s r (Some (WriteAll bytes)) ne = rw (unequal_number s r ne) refl
  meanwhile-other k s r (Some (Write bytes)) ne = refl
  meanwhile-other k s r (Some (Read count)) ne = refl
  meanwhile-other k s r (Some Fill) ne = refl
  meanwhile-other k s r None ne = refl

  then-other : (k : Account) (c : Command (PipeAsk (List ℕ)) W (PipeCall (List ℕ))) (a : Answer (PipeHeard (List ℕ))) (r : ℕ) → (reach_of (pipe_rules n) c ≡ AtNumber r → ⊥) → ask_of (asked_then n k c a) r ≡ ask_of k.asked r
  then-other k (Poll s w) Pending r ne = meanwhile-other k s r (ask_of k.asked s) (λ e. ne (ap AtNumber e))
  then-other k (Poll s w) Done r ne = refl
  then-other k (Poll s w) NoSuch r ne = refl
  then-other k (Poll s w) NoMemory r ne = refl
  then-other k (Poll s w) (Gives heard) r ne = refl
  then-other k (Start s ask) a r ne = (let c : Command (PipeAsk (List ℕ)) W (PipeCall (List ℕ)) = Start s ask in ask_of-other (pipe_rules n) k.asked c a r ne)
  then-other k (End s) a r ne = refl
  then-other k (Call call) a r ne = refl

  keeps : KeepsEach (pipe_rules n) (λ c. Unit {0}) (after n {W = W}) IsInOrder IsKnown
  keeps = record {
    refused = refused;
    starts = λ o k r ask h begins order. (order, ask_of-started k.asked r ask ∙ sym begins);
    polls = λ o o2 k r w ask a p t order known. polled o o2 k order r w a p ask known t;
    ends = λ o o2 k r ask e order known. same_held o o2 k e order;
    calls = λ o o2 k call r p p2 a reach t order known. absurd cc;
    alone = λ o o2 k call p a none t order. called o o2 k order call a t.0;
    others = λ k c a r ask ne known. then-other k c a r ne ∙ known;
  }

  tells : TellsSizes (pipe_rules n) (after n {W = W}) Len FreeCapacity Number n IsHeld IsInOrder IsKnown
  tells = record {
    held = λ o o2 k p p2 len calls order. (let t = calls.0.0 in let l = length-told o k order in let e : len ≡ length o.items = cc in subst (λ x. IsHeld k x) (sym e) (omega arith));
    free = λ o o2 k p p2 free calls order. (let t = calls.0.1 in let f = calls.0.2 in let l = length-told o k order in let e : free ≡ calls.0.0 = cc in (length o.items, omega arith, subst (λ x. x + length o.items ≡ n) (sym e) f));
  }

  module _ (H : Wakings (Ringed ℕ) (PipeAsk (List ℕ)) (PipeCall (List ℕ)) (PipeHeard (List ℕ)) W) (eq : W → W → Bool) (K : ℕ) (o o2 : Object (Ringed ℕ) (PipeAsk (List ℕ))) (g g2 : H.Registered) (cs : List (Command (PipeAsk (List ℕ)) W (PipeCall (List ℕ)))) (as' : List (Reply (Answer (PipeHeard (List ℕ))) W K)) (run : GoodRun (requests_meaning (pipe_rules n) H eq K) o g cs as' o2 g2) where
    told_first : IsTold (pipe_rules n) (λ c. Unit {0}) (after n {W = W}) IsInOrder IsKnown o (at_first n o.requests o.core.items)
    told_first = record {
      core = refl;
      here = asked_at_first o.requests;
    }

    pub in_order : InOrder n o.requests o.core.items cs as' o2.core.items
    in_order = (told_requests (pipe_rules n) (λ c. Unit {0}) (after n) H eq K (keeps_each (pipe_rules n) (λ c. Unit {0}) (after n) keeps) o o2 g g2 (at_first n o.requests o.core.items) cs as' (of_any_kind cs) run told_first).core

    pub sizes_add_up : SizesAddUp n o.requests o.core.items cs as'
    sizes_add_up = sizes_requests (pipe_rules n) (after n) Len FreeCapacity Number n IsHeld IsInOrder IsKnown tells H eq K keeps o o2 g g2 (at_first n o.requests o.core.items) cs as' run told_first
