-- `take` reads the item and keeps its bytes. Assumes `Logic`.
use Rattle.std.proofs.Common.{ℕ, List, [], ◌∷◌, ◌++◌, T, ◌&&◌, true, refl, Option, None}
use mir.Syntax.{Fn, Ty}
use mir.Val.{Val, vptr, has_ty, WT}
use mir.MapTy.{inst_fn}
use base.Fraction.{full_share}
use base.Logic.{SProp}
use base.Fml.{Lft, Share, ftrue, fat, flft}
use prog.Wp.{Env, WpFn}
use contract.Monad.{fact}
use contract.Running.{tables}
use types.Kit.{‵, raw, ◌⊛◌, prop, at_ret, ◌$◌, ◌∵◌, !, qed, move, keep, drop, use1, split, join, rewrite, regoal, fsplit, fsplit3, fjoin, fjoin3, fpack, feq_i, suffices, done}
use types.Part.{whole, sub, look_in}
use types.Run.{stop, fld, load, addr, of_opd, first, blocks, exec, returns, enter}
use types.ByLocal.{alloc_all, pass_all, free_all, look_at, get, through, sets, sets_last, env}
use denote.Laws.{Typed}
use denote.Memory.{cell_at, lone}
use denote.RattleType.{RattleType, owns}
use denote.Param.{param, layout}
use denote.Signature.{types_at, plain}
use denote.Steps.{nothing, heard, opens, closes}
use denote.Struct.Members.{Member}
use denote.Triple.Walked.{Stays, stay_ref, walk_of, ends_at, Goes-ref}
use Rattle.core.proofs.alloc.Shapes.{after}
use Rattle.core.proofs.cell.Inside.{round, unwraps}
use Rattle.core.proofs.mem.Facts.{says_two}
use Rattle.core.proofs.mem.Param.{El, args, lawful}
use Rattle.std.proofs.ResultValues.{and_tt}
use Rattle.std.proofs.raw_atomic.Walks.{proved_at}
use Rattle.std.specs.Option.{IsSome}
use Rattle.esync_rows.proofs.Held.{some_of}
use Rattle.esync_rows.specs.contracts.place.Place as place
use Rattle.esync_rows.specs.contracts.place.Place.TheInside as inside
use Rattle.esync_rows.specs.contracts.place.Place.take.{ended, clauses}
use Rattle.esync_rows.specs.contracts.place.Place.take.Key.{name as #self}
use Rattle.esync_rows.proofs.place.Place.take.Statement.{statement}
use Rattle.esync_rows.proofs.place.Place.take.Code as code

pub take_spec : {M : Type 1} → statement M
take_spec 𝓤 𝓛 𝓜 𝓡 wired X L =
    let H = 𝓛.H in
    let 𝓣 = tables 𝓤 H 𝓜 𝓡 𝓡.env in
    let R : RattleType = param 0 X in
    let E : El = record { row = X; laws = L } in
    let m : Member = record { row = R; ty = layout X } in
    let En = ended X in
    let c = clauses X 𝓛 𝓜.mem 𝓡.returns in
    let fn : Fn = inst_fn (args E) code.function in
    let Row : RattleType = place.the_row R in
    let F : RattleType = inside.the_row R in
    let τ : Ty = lone F.mir in
    let itself = plain (λ _. Row) in
    let hs : Stays En.signature.params En.kept = (stay_ref (0 ∷ []) tt itself, tt) in
    proved_at 𝓛 En hs c 𝓜 𝓡 (Goes-ref 𝓛 2 0 tt itself, tt) (#self (args E)) fn (code.unfolded 𝓤 H 𝓜 𝓡 wired (X, tt)) (λ z are.
    let κ : Lft = z.0.0.0 in
    let q : Share = z.0.1.0 in
    let κ₁ : Lft = z.0.0.1.0 in
    let q₁ : Share = z.0.1.1.0 in
    let b : ℕ = z.0.3.0.ref_ptr.0 in
    let o : ℕ = z.0.3.0.ref_ptr.1 in
    let h : Option X.Denot = z.0.3.0.now in
    let Post : Val → SProp 𝓤 = (walk_of 𝓛 En hs c).post z in
    qed 𝓛 (((‵ (flft κ q) ⊛ ‵ (flft κ₁ q₁) ⊛ ‵ ftrue) ⊛ ‵ (owns (types_at En.signature.params z.0.0) z.0.3 z.0.4)) ∷ (raw (fact 𝓤 _) ⊛ raw (fact 𝓤 (IsSome h))) ∷ []) ∵
    move ! (1 ∷ []) $ split ! $ drop ! $ heard ! (IsSome h) (λ ok.
    let found = some_of h ok in
    let x : X.Denot = found.0 in
    split ! $ split ! $ move ! (2 ∷ []) $ fsplit ! $ fsplit3 ! $ keep ! (1 ∷ 2 ∷ 4 ∷ 5 ∷ []) $
    regoal ! (λ (us : List Val). prop (WpFn 𝓤 H 𝓣.C 𝓣.Λ fn us Post)) (λ i. are.0.0 i ++ []) refl $
    enter ! 𝓣.C 𝓣.Λ fn (vptr b o ∷ []) Post $ alloc_all ! (λ l. pass_all ! refl ((tt, tt), tt) $
    let Ev : Env 𝓤 H = env fn.locals l in
    opens ! tt Row {h = h} b o (λ vs. move ! (1 ∷ []) $
    rewrite ! 0 (λ (d : Option X.Denot). ‵ (Row.own_val d vs)) found.1 refl $ fsplit ! $ drop ! $
    unwraps m ! (lawful E 𝓛) [] [] x vs (λ v good e.
    let typed : T (has_ty (layout X) v && true) × WT (round v) = (and_tt (has_ty (layout X) v) good.0, (good.1, tt)) in
    rewrite ! 1 (λ (us : List Val). ‵ (cell_at full_share Row.mir us b o)) e refl $ move ! (1 ∷ []) $
    use1 𝓛 (‵ (fat full_share τ b o (round v))) (𝓛.laws.raw_at full_share τ b o (round v)) $
    sets ! (addr ! (through ! refl (fld ! refl (stop !)))) refl (tt, tt) $
    first ! $ blocks ! $
    sets_last ! (of_opd ! (load ! (through ! refl (stop !)) (look_in ! 0 (sub ! 0 refl (whole !))))) refl good $
    exec ! 𝓣.C 𝓣.Λ Ev (after 2 fn.body) (at_ret Ev Post) $
    sets ! (of_opd ! (get ! refl)) refl good $
    use1 𝓛 (‵ (cell_at full_share Row.mir (round v ∷ []) b o)) (𝓛.laws.at_raw full_share τ b o (round v)) $
    nothing ! $ nothing ! $ fpack ! (Typed F.mir (round v ∷ [])) (λ _. ftrue) (typed, tt) $ fjoin ! $
    move ! (1 ∷ 0 ∷ 3 ∷ 4 ∷ 5 ∷ []) $ closes ! tt Row None (round v ∷ []) b o $
    returns ! (look_at ! 0 refl) $ free_all ! refl $
    suffices ! _ (ends_at 𝓛 En hs c z v x (None, tt) (tt, tt)) $ says_two ! (found.1, refl) $
    feq_i ! (List Val) z.0.4.0 (vptr b o ∷ []) are.0.0 $ fjoin3 ! $ nothing ! $ move ! (1 ∷ 0 ∷ []) $ fjoin ! $
    move ! (1 ∷ 3 ∷ []) $ join ! $ keep ! (0 ∷ 1 ∷ 2 ∷ []) $ done !)))))
