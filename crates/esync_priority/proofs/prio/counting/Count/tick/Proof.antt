-- `tick` makes the number greater by one; the counter has no bytes that could change.
use Rattle.std.proofs.Common.{ℕ, List, [], ◌∷◌, ◌++◌, ◌+◌, ◌≡◌, refl, sym, subst}
use mir.Val.{Val, vptr, vunit}
use base.Logic.{SProp, ent, emp, id⊢}
use base.Fml.{ftrue, flft}
use prog.Wp.{WpFn}
use types.Kit.{‵, raw, ◌⊛◌, ◌$◌, ◌∵◌, !, qed, by, move, keep, split, join, fsplit, fsplit3, fjoin, fjoin3, suffices, use0, feq_i}
use types.Run.{of_opd, unit_lit, returns, enter}
use types.ByLocal.{alloc_all, pass_all, free_all, look_at, sets}
use contract.Monad.{fact, fact_i}
use contract.Running.{tables}
use denote.RattleType.{RattleType, owns}
use denote.Signature.{types_at, plain}
use denote.Steps.{nothing, opens, closes}
use denote.Triple.Walked.{Stays, walk_of, stay_ref, Goes-ref}
use Rattle.std.proofs.raw_atomic.Walks.{proved_at, leaves}
use Rattle.esync_priority.specs.contracts.prio.counting.Count as made
use Rattle.esync_priority.specs.contracts.prio.counting.Count.tick.{ended, clauses}
use Rattle.esync_priority.specs.contracts.prio.counting.Count.tick.Key.{name as #self}
use Rattle.esync_priority.proofs.prio.counting.Count.tick.Statement.{statement}
use Rattle.esync_priority.proofs.prio.counting.Count.tick.Code as code

pub tick_spec : {M : Type 1} → statement M
tick_spec 𝓤 𝓛 𝓜 𝓡 wired =
    let H = 𝓛.H in let 𝓣 = tables 𝓤 H 𝓜 𝓡 𝓡.env in let c = clauses 𝓛 𝓜.mem 𝓡.returns in let R : RattleType = made.the_row in
    let fn = code.function in
    let hs : Stays ended.signature.params ended.kept = (stay_ref (0 ∷ []) tt (plain (λ _. R)), tt) in
    proved_at 𝓛 ended hs c 𝓜 𝓡 (Goes-ref 𝓛 1 0 tt (plain (λ _. R)), tt) #self fn (code.unfolded 𝓤 H 𝓜 𝓡 wired) (λ z are.
    let κs = z.0.0 in let qs = z.0.1 in let Post : Val → SProp 𝓤 = (walk_of 𝓛 ended hs c).post z in let Run : List Val → SProp 𝓤 = λ ws. WpFn 𝓤 H 𝓣.C 𝓣.Λ fn ws Post in
    let b : ℕ = z.0.3.0.ref_ptr.0 in let o : ℕ = z.0.3.0.ref_ptr.1 in let h : R.Denot = z.0.3.0.now in let h' : R.Denot = record { seal = h.seal; number = h.number + 1 } in
    let Told : Type 0 = h.number + 1 ≡ h.number + 1 in
    qed 𝓛 (((‵ (flft κs.0 qs.0) ⊛ ‵ ftrue) ⊛ ‵ (owns (types_at ended.signature.params κs) z.0.3 z.0.4)) ∷ raw ((c κs z.0.3).requires z.1) ∷ []) ∵
    split ! $ split ! $ move ! (2 ∷ []) $ fsplit ! $ fsplit3 ! $ keep ! (1 ∷ 2 ∷ 4 ∷ 5 ∷ []) $
    suffices ! (Run (vptr b o ∷ [])) (subst (λ (us : List Val). ent 𝓤 (Run (vptr b o ∷ [])) (Run us)) (sym (λ i. are.0.0 i ++ [])) (id⊢ 𝓤 (Run (vptr b o ∷ [])))) $
    enter ! 𝓣.C 𝓣.Λ fn (vptr b o ∷ []) Post $ alloc_all ! (λ l. pass_all ! refl ((tt, tt), tt) $
    opens ! tt R b o (λ ts. closes ! tt R h' ts b o $ feq_i ! (List Val) z.0.4.0 (vptr b o ∷ []) are.0.0 $ fjoin3 ! $ nothing ! $ move ! (1 ∷ 0 ∷ []) $ fjoin ! $ move ! (1 ∷ 2 ∷ []) $ join ! $
    sets ! (of_opd ! (unit_lit !)) refl (tt, tt) $ use0 𝓛 (raw (fact 𝓤 Told)) (fact_i 𝓤 Told (emp 𝓤) refl) $ feq_i ! (List Val) (vunit ∷ []) (vunit ∷ []) refl $
    returns ! (look_at ! 0 refl) $ free_all ! refl $ keep ! (2 ∷ 3 ∷ 0 ∷ 1 ∷ []) $ by ! (leaves 𝓛 ended hs c z vunit tt (h', tt) (tt, tt)))))
