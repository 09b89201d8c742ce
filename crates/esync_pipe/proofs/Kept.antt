-- What the steps of a pipe keep for its requests.
use Rattle.std.proofs.Common.{◌≡◌, ℕ, zero, suc, ◌+◌, ◌-◌, ◌<◌, ◌≤◌, ◌&&◌, Bool, true, false, not, List, take, drop, [], ◌∷◌, ◌++◌, length, Option, Some, None, nat_lt, ◌⊎◌, inl, inr, refl, ap, subst, sym, ◌∙◌, arith}
use Rattle.std.specs.Prelude.{Result, Ok, Err, is_ok}
use Rattle.std.specs.List.{list_any}
use Rattle.std.proofs.lemmas.Bool.Decides.{nat_tests}
use Rattle.std.proofs.lemmas.List.{length-take-le, take_at, take_all, append_assoc, length-append, length-drop, length-take}
use Rattle.esync_base.specs.Ring.{Ringed}
use Rattle.esync_base.specs.Registration.{IsAmong, registered_if, displaced_if}
use Rattle.esync_base.specs.RegistrationLaws.{has_registered, kept_or_displaced_if, not_displaced, among-kept}
use Rattle.esync_base.specs.ListedLaws.{or_second, same_number}
use Rattle.esync_machine.specs.Wakings.{Handed, IsHanded, unless_refused, called}
use Rattle.esync_machine.specs.declared.primitive.Answer.{Answer}
use Rattle.esync_machine.specs.declared.primitive.Answer.TheVariants.{Pending}
use Rattle.esync_pipe.specs.Piped.{Slots}
use Rattle.esync_pipe.specs.Pipe.{behind, without, puts, shown, is_empty, is_full, out_if, left_if, waker_if, Writes, slots_after_write, wakes_of_write, slots_after_read, wakes_of_read, slots_after_fill, wakes_of_fill, slots_after_write_all, wakes_of_write_all}
use Rattle.esync_pipe.specs.PipeRules.{TakesOut, Fills, Consumes, Polls, PollsWrite, PollsWriteAll, PollsRead, PollsFill, Calls, poll_hands, pipe_wakings}
use Rattle.esync_pipe.specs.PipeLaws.{OwesRoom, OwesBytes, OwesFor}
use Rattle.esync_pipe.specs.declared.pipe.TryReadError.{TryReadError}
use Rattle.esync_pipe.specs.declared.pipe.TryWriteError.{TryWriteError}
use Rattle.esync_pipe.specs.declared.pipe.machine.PipeAsk.{PipeAsk}
use Rattle.esync_pipe.specs.declared.pipe.machine.PipeAsk.TheVariants.{Write, WriteAll, Read, Fill}
use Rattle.esync_pipe.specs.declared.pipe.machine.PipeCall.{PipeCall}
use Rattle.esync_pipe.specs.declared.pipe.machine.PipeCall.TheVariants.{TryWrite, TryRead, TryFill, Consume, Clear, Len, FreeCapacity}
use Rattle.esync_pipe.specs.declared.pipe.machine.PipeHeard.{PipeHeard}

pub from_none : {W : Type 0} (old new xs : List W) → new ≡ old ++ xs → old ≡ [] → new ≡ xs
from_none old new xs e h = e ∙ ap (λ l. l ++ xs) h

pub not-full : (n : ℕ) (o : Ringed ℕ) → length o.items < n → is_full n o ≡ false
not-full n o h = grind (arith, nat_tests)

pub full : (n : ℕ) (o : Ringed ℕ) → length o.items ≡ n → is_full n o ≡ true
full n o h = grind (arith, nat_tests)

pub not-empty : (o : Ringed ℕ) → 0 < length o.items → is_empty o ≡ false
not-empty o h = grind (arith, nat_tests)

pub empty : (o : Ringed ℕ) → length o.items ≡ 0 → is_empty o ≡ true
empty o h = grind (arith, nat_tests)

-- what a row of m bytes shows that were read into the front of another
pub row-read : (items xs ys : List ℕ) (m n : ℕ) → n ≤ m → n ≤ length items → take m (take n ((take n items ++ xs) ++ ys)) ≡ take n items
row-read items xs ys m n small there =
    let l = length-take-le n items there in
    ap (λ t. take m (take n t)) (append_assoc (take n items) xs ys)
    ∙ ap (take m) (take_at (take n items) (xs ++ ys) n l)
    ∙ take_all m (take n items) (omega arith)

-- a row of l bytes shows all that stand one behind the other
pub row-shown : (n l : ℕ) (o : Ringed ℕ) → n ≤ l → take l (shown n o) ≡ shown n o
row-shown n l o h = take_all l (shown n o) (let k = length-take (n - o.front) o.items in grind (arith, k, nat_tests))

-- whether there was something to read is told by the answer
pub taken_if : (n : ℕ) (o o2 : Ringed ℕ) (k : ℕ) (r : Result (List ℕ) TryReadError) → TakesOut n o k r o2 → is_ok r ≡ not (is_empty o)
taken_if n o o2 k (Ok bytes) h = sym (ap not h.0)
taken_if n o o2 k (Err e) h = sym (ap not h.0)

-- whether there was room is told by the answer
pub written_if : (n : ℕ) (o o2 : Ringed ℕ) (bytes : List ℕ) (r : Result ℕ TryWriteError) → Writes n o bytes r o2 → is_ok r ≡ not (is_full n o)
written_if n o o2 bytes (Ok k) h = sym (ap not (not-full n o h.0))
written_if n o o2 bytes (Err e) h = sym (ap not (full n o h.0))

-- a number is above 0, and something else holds
pub and_then : {f e : Bool} {k : ℕ} → 0 < k → f ≡ e → f ≡ (nat_lt 0 k && e)
and_then {f} {e} {k} h is = let t : nat_lt 0 k ≡ true = grind (arith, nat_tests) in rw t is

pub and_else : (f e : Bool) (k : ℕ) → k ≤ 0 → f ≡ nat_lt 0 k → f ≡ (nat_lt 0 k && e)
and_else f e k h is = let t : nat_lt 0 k ≡ false = grind (arith, nat_tests) in let i = rw t at is in rw t i

puts-full : (n : ℕ) (o : Ringed ℕ) (bytes : List ℕ) → is_full n o ≡ true → puts n o bytes ≡ 0
puts-full n o bytes h = let e = same_number (length o.items) n h in grind (arith, nat_tests)

module _ {W : Type 0} (eq : W → W → Bool) (n : ℕ) where
  -- what is owed for room and for bytes is handed out, or owed still
  record Keeps (o : Ringed ℕ) (s : Slots W) (wakes : List W) (o2 : Ringed ℕ) (s2 : Slots W) : Type 0 where
    room : (v : W) → OwesRoom eq n o s v → IsAmong eq v wakes ⊎ OwesRoom eq n o2 s2 v
    bytes : (v : W) → OwesBytes eq n o s v → IsAmong eq v wakes ⊎ OwesBytes eq n o2 s2 v

  keeps_all : (o o2 : Ringed ℕ) (s s2 : Slots W) (wakes : List W) → Keeps o s wakes o2 s2 → (ask : PipeAsk (List ℕ)) (v : W) → OwesFor eq n o s ask v → IsAmong eq v wakes ⊎ OwesFor eq n o2 s2 ask v
  keeps_all o o2 s s2 wakes k (Write bytes) v h = k.room v h
  keeps_all o o2 s s2 wakes k (WriteAll bytes) v h = elim (k.room v h.1) [ inl x ↦ inl x | inr x ↦ inr (h.0, x) ]
  keeps_all o o2 s s2 wakes k (Read count) v h = k.bytes v h
  keeps_all o o2 s s2 wakes k Fill v h = k.bytes v h

  kept_same : (o o2 : Ringed ℕ) (s : Slots W) → o2 ≡ o → Keeps o s [] o2 s
  kept_same o o2 s e = record {
    room = λ v h. inr (subst (λ x. OwesRoom eq n x s v) (sym e) h);
    bytes = λ v h. inr (subst (λ x. OwesBytes eq n x s v) (sym e) h);
  }

  kept_writers : (o o2 : Ringed ℕ) (s : Slots W) (w : Option W) → o2 ≡ o → Keeps o s (displaced_if eq 1 s.writers w) o2 (record s { writers = registered_if eq 1 s.writers w })
  kept_writers o o2 s w e = record {
    room = λ v h. elim (kept_or_displaced_if eq 1 s.writers v w h.1) [ inl x ↦ inl x | inr x ↦ inr (subst (λ y. is_full n y ≡ true) (sym e) h.0, x) ];
    bytes = λ v h. inr (subst (λ x. OwesBytes eq n x s v) (sym e) h);
  }

  kept_readers : (o o2 : Ringed ℕ) (s : Slots W) (w : Option W) → o2 ≡ o → Keeps o s (displaced_if eq 1 s.readers w) o2 (record s { readers = registered_if eq 1 s.readers w })
  kept_readers o o2 s w e = record {
    room = λ v h. inr (subst (λ x. OwesRoom eq n x s v) (sym e) h);
    bytes = λ v h. elim (kept_or_displaced_if eq 1 s.readers v w h.1) [ inl x ↦ inl x | inr x ↦ inr (subst (λ y. is_empty y ≡ true) (sym e) h.0, x) ];
  }

  -- by a write into a pipe that isn't full, and by a read from one that isn't empty
  kept_written : (o o2 : Ringed ℕ) (s : Slots W) → is_full n o ≡ false → Keeps o s (out_if (is_empty o) s.readers) o2 (record s { readers = left_if (is_empty o) s.readers })
  kept_written o o2 s e = record {
    room = λ v h. absurd (let f = sym e ∙ h.0 in cc);
    bytes = λ v h. inl (rw h.0 h.1);
  }

  kept_read : (o o2 : Ringed ℕ) (s : Slots W) → is_empty o ≡ false → Keeps o s (out_if (is_full n o) s.writers) o2 (record s { writers = left_if (is_full n o) s.writers })
  kept_read o o2 s e = record {
    room = λ v h. inl (rw h.0 h.1);
    bytes = λ v h. absurd (let f = sym e ∙ h.0 in cc);
  }

  among-behind : (us vs : List W) (w : W) → IsAmong eq w vs → IsAmong eq w (us ++ vs)
  among-behind [] vs w h = h
  among-behind (u ∷ us) vs w h = or_second (eq u w) (list_any (λ v. eq v w) (us ++ vs)) (among-behind us vs w h)

  -- the wakers and the slots of a write of all, as those of who fills an empty pipe and of who waits
  kept_filled : (o o2 : Ringed ℕ) (s : Slots W) (k : ℕ) (w : Option W) → (is_full n o ≡ true → is_full n o2 ≡ true) → (k ≡ 0 → is_empty o ≡ true → is_empty o2 ≡ true) → Keeps o s (out_if (nat_lt 0 k && is_empty o) s.readers ++ displaced_if eq 1 s.writers w) o2 (record { readers = left_if (nat_lt 0 k && is_empty o) s.readers; writers = registered_if eq 1 s.writers w })
  kept_filled o o2 s zero w full empty = record {
    room = λ v h. elim (kept_or_displaced_if eq 1 s.writers v w h.1) [ inl x ↦ inl x | inr x ↦ inr (full h.0, x) ];
    bytes = λ v h. inr (empty refl h.0, h.1);
  }
  kept_filled o o2 s (suc k) w full empty = record {
    room = λ v h. elim (kept_or_displaced_if eq 1 s.writers v w h.1) [ inl x ↦ inl (among-behind (out_if (nat_lt 0 (suc k) && is_empty o) s.readers) (displaced_if eq 1 s.writers w) v x) | inr x ↦ inr (full h.0, x) ];
    bytes = λ v h. inl (let some : nat_lt 0 (suc k) ≡ true = grind (arith, nat_tests) in rw (some, h.0) (among-kept eq s.readers (displaced_if eq 1 s.writers w) v h.1));
  }

module _ {W : Type 0} (eq : W → W → Bool) (n : ℕ) (o o2 : Ringed ℕ) (s : Slots W) where
  kept_consumed : (k : ℕ) → o2 ≡ without n o k → Keeps eq n o s (out_if (nat_lt 0 k && is_full n o) s.writers) o2 (record s { writers = left_if (nat_lt 0 k && is_full n o) s.writers })
  kept_consumed zero e = record {
    room = λ v h. inr (subst (λ x. is_full n x ≡ true) (sym e) h.0, h.1);
    bytes = λ v h. inr (subst (λ x. is_empty x ≡ true) (sym e) h.0, h.1);
  }
  kept_consumed (suc k) e = record {
    room = λ v h. inl (let some : nat_lt 0 (suc k) ≡ true = grind (arith, nat_tests) in rw (some, h.0) h.1);
    bytes = λ v h. inr (subst (λ x. is_empty x ≡ true) (sym e) (empty (without n o (suc k)) (let d = length-drop (suc k) o.items in let z = same_number (length o.items) 0 h.0 in omega arith)), h.1);
  }

  -- by a call
  called_write : (bytes : List ℕ) (done : Result ℕ TryWriteError) → Writes n o bytes done o2 → (full : Bool) → is_full n o ≡ full → Keeps eq n o s (wakes_of_write eq o None (not full) s) o2 (slots_after_write eq o None (not full) s)
  called_write bytes (Ok k) h true e = absurd (let f = sym e ∙ not-full n o h.0 in cc)
  called_write bytes (Ok k) h false e = kept_written eq n o o2 s e
  called_write bytes (Err x) h true e = kept_writers eq n o o2 s None h.1
  called_write bytes (Err x) h false e = absurd (let f = sym e ∙ full n o h.0 in cc)

  called_read : (k : ℕ) (done : Result (List ℕ) TryReadError) → TakesOut n o k done o2 → (is : Bool) → is_empty o ≡ is → Keeps eq n o s (wakes_of_read eq n o None (not is) s) o2 (slots_after_read eq n o None (not is) s)
  called_read k (Ok bytes) h true e = absurd (let f = sym e ∙ h.0 in cc)
  called_read k (Ok bytes) h false e = kept_read eq n o o2 s e
  called_read k (Err x) h true e = kept_readers eq n o o2 s None h.1
  called_read k (Err x) h false e = absurd (let f = sym e ∙ h.0 in cc)

  called_fill : (done : Result (List ℕ) TryReadError) → Fills n o done o2 → o2 ≡ o
  called_fill (Ok bytes) h = h.2
  called_fill (Err x) h = h.1

  called_consume : (k : ℕ) (is : Bool) (a : Answer (PipeHeard (List ℕ))) → Consumes n o k is a o2 → Keeps eq n o s (called (pipe_wakings eq n) o s (Consume k) None a).wakes o2 (called (pipe_wakings eq n) o s (Consume k) None a).after
  called_consume k true a h = rw h.0 (kept_same eq n o o2 s h.1)
  called_consume k false a h = rw h.0 (kept_consumed k h.1)

  called_kept : (call : PipeCall (List ℕ)) (a : Answer (PipeHeard (List ℕ))) → Calls n o call a o2 → Keeps eq n o s (called (pipe_wakings eq n) o s call None a).wakes o2 (called (pipe_wakings eq n) o s call None a).after
  called_kept (TryWrite bytes) a h = rw h.1 (called_write bytes h.0 h.2 (is_full n o) refl)
  called_kept (TryRead k) a h = rw h.1 (called_read k h.0 h.2 (is_empty o) refl)
  called_kept TryFill a h = rw h.1 (kept_same eq n o o2 s (called_fill h.0 h.2))
  called_kept (Consume k) a h = called_consume k (nat_lt (length (shown n o)) k) a h
  called_kept Clear a h = rw h.0 (record { room = λ v x. inl x.1; bytes = λ v x. inr (subst (λ y. is_empty y ≡ true) (sym h.1) refl, x.1) })
  called_kept Len a h = rw h.0 (kept_same eq n o o2 s h.1)
  called_kept FreeCapacity a h = rw h.1 (kept_same eq n o o2 s h.3)

  pub called_keeps : (call : PipeCall (List ℕ)) (a : Answer (PipeHeard (List ℕ))) → Calls n o call a o2 → (wakes : List W) (s2 : Slots W) → IsHanded (called (pipe_wakings eq n) o s call None a) wakes s2 → (ask : PipeAsk (List ℕ)) (v : W) → OwesFor eq n o s ask v → IsAmong eq v wakes ⊎ OwesFor eq n o2 s2 ask v
  called_keeps call a h wakes s2 e ask v owed = rw (e.0, e.1) (keeps_all eq n o o2 s _ _ (called_kept call a h) ask v owed)

  -- by a poll
  module _ (a : Answer (PipeHeard (List ℕ))) (p : Option (PipeAsk (List ℕ))) (w : W) where
    polled_write : (bytes : List ℕ) (is : Bool) → is_full n o ≡ is → PollsWrite n o bytes is a o2 p → Keeps eq n o s (wakes_of_write eq o (Some w) (not is) s) o2 (slots_after_write eq o (Some w) (not is) s)
    polled_write bytes true e h = kept_writers eq n o o2 s (Some w) h.1
    polled_write bytes false e h = kept_written eq n o o2 s e

    length-behind : (bytes : List ℕ) → o2 ≡ behind o bytes → length o2.items ≡ length o.items + length bytes
    length-behind bytes e = ap (λ (x : Ringed ℕ). length x.items) e ∙ length-append o.items bytes

    polled_write_all : (bytes : List ℕ) (is : Bool) → nat_lt (puts n o bytes) (length bytes) ≡ is → PollsWriteAll n o bytes is a o2 p → Keeps eq n o s (wakes_of_write_all eq o (puts n o bytes) (length bytes) w s) o2 (slots_after_write_all eq o (puts n o bytes) (length bytes) w s)
    polled_write_all bytes true e h =
        kept_filled eq n o o2 s (puts n o bytes) (waker_if (nat_lt (puts n o bytes) (length bytes)) w) (λ f. h.3)
        (λ z f. empty o2 (let l = length-behind (take (puts n o bytes) bytes) h.1 in let t = length-take (puts n o bytes) bytes in let y = same_number (length o.items) 0 f in let m : length (take (puts n o bytes) bytes) ≡ 0 = grind (arith, nat_tests) in omega arith))
    polled_write_all bytes false e h =
        kept_filled eq n o o2 s (puts n o bytes) (waker_if (nat_lt (puts n o bytes) (length bytes)) w)
        (λ f. full n o2 (let l = length-behind bytes h.1 in let z = puts-full n o bytes f in let y = same_number (length o.items) n f in let m : length bytes ≡ 0 = grind (arith, nat_tests) in omega arith))
        (λ z f. empty o2 (let l = length-behind bytes h.1 in let y = same_number (length o.items) 0 f in let m : length bytes ≡ 0 = grind (arith, nat_tests) in omega arith))

    polled_read : (k : ℕ) (is : Bool) → is_empty o ≡ is → PollsRead n o k is a o2 p → Keeps eq n o s (wakes_of_read eq n o (Some w) (not is) s) o2 (slots_after_read eq n o (Some w) (not is) s)
    polled_read k true e h = kept_readers eq n o o2 s (Some w) h.1
    polled_read k false e h = kept_read eq n o o2 s e

    polled_fill : (is : Bool) → PollsFill n o is a o2 p → Keeps eq n o s (wakes_of_fill eq (Some w) (not is) s) o2 (slots_after_fill eq (Some w) (not is) s)
    polled_fill true h = kept_readers eq n o o2 s (Some w) h.1
    polled_fill false h = kept_same eq n o o2 s h.1

    polled_kept : (ask : PipeAsk (List ℕ)) → Polls n o ask a o2 p → Keeps eq n o s (poll_hands eq n o s ask w).wakes o2 (poll_hands eq n o s ask w).after
    polled_kept (Write bytes) h = polled_write bytes (is_full n o) refl h
    polled_kept (WriteAll bytes) h = polled_write_all bytes (nat_lt (puts n o bytes) (length bytes)) refl h
    polled_kept (Read k) h = polled_read k (is_empty o) refl h
    polled_kept Fill h = polled_fill (is_empty o) h

    -- no Pending poll that leaves all as it was hands out its own waker
    abbrev Quiet : PipeAsk (List ℕ) → List W → Type 0
    Quiet ask wakes = a ≡ Pending → o2 ≡ o → p ≡ Some ask → IsAmong eq w wakes → ⊥

    quiet_write : (bytes : List ℕ) (is : Bool) → PollsWrite n o bytes is a o2 p → Quiet (Write bytes) (wakes_of_write eq o (Some w) (not is) s)
    quiet_write bytes true h pending same stays among = not_displaced eq 1 s.writers w among
    quiet_write bytes false h pending same stays among = (let f = sym h.0 ∙ pending in cc)

    quiet_write_all : (bytes : List ℕ) (is : Bool) → nat_lt (puts n o bytes) (length bytes) ≡ is → PollsWriteAll n o bytes is a o2 p → Quiet (WriteAll bytes) (wakes_of_write_all eq o (puts n o bytes) (length bytes) w s)
    quiet_write_all bytes true e h pending same stays among =
        let rest : Some (WriteAll (drop (puts n o bytes) bytes)) ≡ Some (WriteAll bytes) = sym h.2 ∙ stays in
        let all : drop (puts n o bytes) bytes ≡ bytes = cc in
        let d = length-drop (puts n o bytes) bytes in
        let l = ap length all in
        let none : puts n o bytes ≡ 0 = grind (arith, nat_tests) in
        let m = rw (e, none) at among in
        not_displaced eq 1 s.writers w m
    quiet_write_all bytes false e h pending same stays among = (let f = sym h.0 ∙ pending in cc)

    quiet_read : (k : ℕ) (is : Bool) → PollsRead n o k is a o2 p → Quiet (Read k) (wakes_of_read eq n o (Some w) (not is) s)
    quiet_read k true h pending same stays among = not_displaced eq 1 s.readers w among
    quiet_read k false h pending same stays among = (let f = sym h.0 ∙ pending in cc)

    quiet_fill : (is : Bool) → PollsFill n o is a o2 p → Quiet Fill (wakes_of_fill eq (Some w) (not is) s)
    quiet_fill true h pending same stays among = not_displaced eq 1 s.readers w among
    quiet_fill false h pending same stays among = (let f = sym h.0 ∙ pending in cc)

    quiet : (ask : PipeAsk (List ℕ)) → Polls n o ask a o2 p → Quiet ask (poll_hands eq n o s ask w).wakes
    quiet (Write bytes) h = quiet_write bytes (is_full n o) h
    quiet (WriteAll bytes) h = quiet_write_all bytes (nat_lt (puts n o bytes) (length bytes)) refl h
    quiet (Read k) h = quiet_read k (is_empty o) h
    quiet Fill h = quiet_fill (is_empty o) h

    -- who hears Pending is owed
    abbrev Owed : Slots W → Type 0
    Owed s2 = (ask : PipeAsk (List ℕ)) × (p ≡ Some ask) × OwesFor eq n o2 s2 ask w

    module _ (same : (x : W) → eq x x ≡ true) (pending : a ≡ Pending) where
      owed_write : (bytes : List ℕ) (is : Bool) → is_full n o ≡ is → PollsWrite n o bytes is a o2 p → Owed (slots_after_write eq o (Some w) (not is) s)
      owed_write bytes true e h = (Write bytes, h.2, (ap (is_full n) h.1 ∙ e, has_registered eq same 1 s.writers w))
      owed_write bytes false e h = absurd (let f = sym h.0 ∙ pending in cc)

      owed_write_all : (bytes : List ℕ) (is : Bool) → nat_lt (puts n o bytes) (length bytes) ≡ is → PollsWriteAll n o bytes is a o2 p → Owed (slots_after_write_all eq o (puts n o bytes) (length bytes) w s)
      owed_write_all bytes true e h =
          let d = length-drop (puts n o bytes) bytes in
          let some : nat_lt 0 (length (drop (puts n o bytes) bytes)) ≡ true = grind (arith, nat_tests) in
          (WriteAll (drop (puts n o bytes) bytes), h.2, (some, (h.3, rw e (has_registered eq same 1 s.writers w))))
      owed_write_all bytes false e h = absurd (let f = sym h.0 ∙ pending in cc)

      owed_read : (k : ℕ) (is : Bool) → is_empty o ≡ is → PollsRead n o k is a o2 p → Owed (slots_after_read eq n o (Some w) (not is) s)
      owed_read k true e h = (Read k, h.2, (ap is_empty h.1 ∙ e, has_registered eq same 1 s.readers w))
      owed_read k false e h = absurd (let f = sym h.0 ∙ pending in cc)

      owed_fill : (is : Bool) → is_empty o ≡ is → PollsFill n o is a o2 p → Owed (slots_after_fill eq (Some w) (not is) s)
      owed_fill true e h = (Fill, h.2, (ap is_empty h.1 ∙ e, has_registered eq same 1 s.readers w))
      owed_fill false e h = absurd (let f = sym h.0 ∙ pending in cc)

      owed : (ask : PipeAsk (List ℕ)) → Polls n o ask a o2 p → Owed (poll_hands eq n o s ask w).after
      owed (Write bytes) h = owed_write bytes (is_full n o) refl h
      owed (WriteAll bytes) h = owed_write_all bytes (nat_lt (puts n o bytes) (length bytes)) refl h
      owed (Read k) h = owed_read k (is_empty o) refl h
      owed Fill h = owed_fill (is_empty o) refl h

    pub polled_keeps : (ask : PipeAsk (List ℕ)) → Polls n o ask a o2 p → (wakes : List W) (s2 : Slots W) → IsHanded (poll_hands eq n o s ask w) wakes s2 → (other : PipeAsk (List ℕ)) (v : W) → OwesFor eq n o s other v → IsAmong eq v wakes ⊎ OwesFor eq n o2 s2 other v
    polled_keeps ask h wakes s2 e other v owes = rw (e.0, e.1) (keeps_all eq n o o2 s _ _ (polled_kept ask h) other v owes)

    pub polled_quiet : (ask : PipeAsk (List ℕ)) → Polls n o ask a o2 p → (wakes : List W) (s2 : Slots W) → IsHanded (poll_hands eq n o s ask w) wakes s2 → a ≡ Pending → o2 ≡ o → p ≡ Some ask → IsAmong eq w wakes → ⊥
    polled_quiet ask h wakes s2 e pending same stays among = quiet ask h pending same stays (subst (λ l. IsAmong eq w l) e.0 among)

    pub polled_owed : ((x : W) → eq x x ≡ true) → (ask : PipeAsk (List ℕ)) → Polls n o ask a o2 p → (wakes : List W) (s2 : Slots W) → IsHanded (poll_hands eq n o s ask w) wakes s2 → a ≡ Pending → (rest : PipeAsk (List ℕ)) × (p ≡ Some rest) × OwesFor eq n o2 s2 rest w
    polled_owed same ask h wakes s2 e pending = (let t = owed same pending ask h in (t.0, t.1, subst (λ x. OwesFor eq n o2 x t.0 w) (sym e.1) t.2))

-- no poll is refused
module _ {G W : Type 0} (n : ℕ) (o o2 : Ringed ℕ) (a : Answer (PipeHeard (List ℕ))) (p : Option (PipeAsk (List ℕ))) (g : G) (h : Handed G W) where
  told_write : (bytes : List ℕ) (is : Bool) → PollsWrite n o bytes is a o2 p → unless_refused a g h ≡ h
  told_write bytes true t = rw t.0 refl
  told_write bytes false t = rw t.0 refl

  told_write_all : (bytes : List ℕ) (is : Bool) → PollsWriteAll n o bytes is a o2 p → unless_refused a g h ≡ h
  told_write_all bytes true t = rw t.0 refl
  told_write_all bytes false t = rw t.0 refl

  told_read : (k : ℕ) (is : Bool) → PollsRead n o k is a o2 p → unless_refused a g h ≡ h
  told_read k true t = rw t.0 refl
  told_read k false t = rw t.0 refl

  told_fill : (is : Bool) → PollsFill n o is a o2 p → unless_refused a g h ≡ h
  told_fill true t = rw t.0 refl
  told_fill false t = rw t.0 refl

  pub not_refused : (ask : PipeAsk (List ℕ)) → Polls n o ask a o2 p → unless_refused a g h ≡ h
  not_refused (Write bytes) t = told_write bytes (is_full n o) t
  not_refused (WriteAll bytes) t = told_write_all bytes (nat_lt (puts n o bytes) (length bytes)) t
  not_refused (Read k) t = told_read k (is_empty o) t
  not_refused Fill t = told_fill (is_empty o) t
