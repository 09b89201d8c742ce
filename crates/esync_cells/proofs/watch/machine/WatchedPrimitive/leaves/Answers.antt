use Rattle.std.proofs.Common.{◌≡◌, ℕ, false, refl, arith, rules}
use Rattle.std.specs.Prelude.{nat_eq}
use Rattle.std.proofs.lemmas.Bool.Decides.{nat_tests}
use Rattle.esync_base.specs.ListedLaws.{equal_number}
use Rattle.esync_cells.specs.WatchRules.{Watch, watch_of, leaves}
use Rattle.esync_cells.specs.declared.watch.machine.Await.{Await}
use Rattle.esync_cells.specs.declared.watch.machine.WatchCall.{WatchCall}
use Rattle.esync_cells.specs.declared.watch.machine.WatchCall.TheVariants.{Receiver, Anon, Leave, Clear, Send, Modify, ModifyIf, TryGet, Read, Id, Contains}
use Rattle.esync_cells.proofs.watch.machine.WatchedPrimitive.leaves.Goals as goal

-- nobody leaves by another call
nobody_leaves : {T C J : Type 0} (o : Watch T) (call : WatchCall T C J) (held : Await J) → ((h : ℕ) → call ≡ Leave h → ⊥) → false ≡ leaves o call held
nobody_leaves o (Leave h) held other = absurd (other h refl)
nobody_leaves o (Receiver h) held other = refl
nobody_leaves o (Anon h) held other = refl
nobody_leaves o Clear held other = refl
nobody_leaves o (Send value) held other = refl
nobody_leaves o (Modify change) held other = refl
nobody_leaves o (ModifyIf change) held other = refl
nobody_leaves o TryGet held other = refl
nobody_leaves o (Read h read) held other = refl
nobody_leaves o Id held other = refl
nobody_leaves o Contains held other = refl

unequal_number : (a b : ℕ) → (a ≡ b → ⊥) → nat_eq a b ≡ false
unequal_number a b other = grind (arith, nat_tests)

pub returns-then-held-h : goal.returns-then-held-h
returns-then-held-h g c =
    rw (c.in-Leave.is, equal_number c.args.held.now.receiver c.in-Leave.h c.if-held-h.true, ← c.self.view_is) (search rules)

pub returns-else-held-h : goal.returns-else-held-h
returns-else-held-h g c = rw (c.in-Leave.is, unequal_number c.args.held.now.receiver c.in-Leave.h c.if-held-h.false) refl

pub returns-in_default : goal.returns-in_default
returns-in_default g c = nobody_leaves (watch_of c.args.self.now) c.args.call.now c.args.held.now c.in_default.not-Leave
