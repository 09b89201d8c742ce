-- The laws that the steps of a watch keep.
use Rattle.std.specs.Prelude.{◌≡◌, ℕ, Bool, List, Option, Some, None, Result, Ok, Err, refl}
use Rattle.std.proofs.Common.{subst, sym}
use Rattle.std.specs.declared.alloc.AllocError.{AllocError}
use Rattle.esync_machine.specs.Rules.{IsIdle, IdleIsPending}
use Rattle.esync_machine.specs.declared.primitive.Answer.{Answer}
use Rattle.esync_machine.specs.declared.primitive.Answer.TheVariants.{Pending}
use Rattle.esync_cells.specs.Watch.{Answers}
use Rattle.esync_cells.specs.Receivers.{seen_at}
use Rattle.esync_cells.specs.WatchRules.{Watch, watch_rules, sought, PollsAs, OwesNews}
use Rattle.esync_cells.specs.declared.watch.machine.Await.{Await}
use Rattle.esync_cells.specs.declared.watch.machine.WatchHeard.{WatchHeard}

module _ {T C J : Type 0} (n : ℕ) (IsClone : T → T → Type 0) (IsInfallible : T → Type 0) (changed : C → Option T → Option T) (tells : C → Option T → Bool) (passes : J → T → Bool) where
  pub watch_idle : {W : Type 0} (eq : W → W → Bool) (o : Watch T) (g : List W) (h : Await J) (w : W) → OwesNews passes eq o g h w → IsIdle (watch_rules n IsClone IsInfallible changed tells passes) o h
  watch_idle eq o g h w owes = (Ok None, subst (λ x. Answers {E = AllocError} IsClone IsInfallible x (Ok None)) (sym owes.0) tt, (refl, refl, refl))

  -- a poll that may be answered Pending finds nothing
  finds_nothing : (o : Watch T) (h : Await J) (x : Option T) (got : Result (Option T) AllocError) → Answers IsClone IsInfallible x got → PollsAs IsClone IsInfallible passes got o h Pending o (Some h) → x ≡ None
  finds_nothing o h x (Ok (Some v)) is polls = (let e = polls.0 in absurd cc)
  finds_nothing o h None (Ok None) is polls = refl
  finds_nothing o h (Some v) (Ok None) is polls = absurd is
  finds_nothing o h x (Err e) is polls = (let f = polls.0 in absurd cc)

  -- a poll that finds nothing waits
  pub only_waits : (o : Watch T) (h : Await J) (a : Answer (WatchHeard T)) (o2 : Watch T) (p : Option (Await J)) (got : Result (Option T) AllocError) → Answers IsClone IsInfallible None got → PollsAs IsClone IsInfallible passes got o h a o2 p → (a ≡ Pending) × (o2 ≡ o) × (p ≡ Some h)
  only_waits o h a o2 p (Ok (Some v)) is polls = absurd is
  only_waits o h a o2 p (Ok None) is polls = polls
  only_waits o h a o2 p (Err e) is polls = absurd is

  pub watch_pending : IdleIsPending (watch_rules n IsClone IsInfallible changed tells passes)
  watch_pending o h a o2 p idle polls =
      let nothing = finds_nothing o h (sought passes o.value o.version (seen_at o.receivers h.receiver) h.read) idle.0 idle.1 idle.2 in
      only_waits o h a o2 p polls.0 (subst (λ x. Answers IsClone IsInfallible x polls.0) nothing polls.1) polls.2
