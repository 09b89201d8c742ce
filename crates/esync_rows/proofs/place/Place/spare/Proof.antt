-- `spare` reads the bytes. Assumes `Logic`.
use Rattle.std.proofs.Common.{ℕ, List, [], ◌∷◌, ◌++◌, refl, Option, None}
use mir.Syntax.{Fn, Ty}
use mir.Val.{Val, vptr}
use mir.MapTy.{inst_fn}
use base.Fraction.{full_share}
use base.Logic.{SProp}
use base.Fml.{Fml, Lft, Share, ftrue, flft}
use prog.Wp.{Env, WpFn}
use contract.Monad.{fact}
use contract.Running.{tables}
use types.Kit.{‵, raw, ◌⊛◌, prop, at_ret, ◌$◌, ◌∵◌, !, qed, move, keep, drop, split, join, rewrite, regoal, fsplit, fsplit3, fjoin, fjoin3, fpack, fpick, feq_i, suffices, done}
use types.Run.{stop, load, look_raw, addr, of_opd, first, blocks, exec, returns, enter}
use types.ByLocal.{alloc_all, pass_all, free_all, look_at, get, through, sets, sets_last, env}
use denote.Laws.{Typed}
use denote.Memory.{cell_at, lone}
use denote.RattleType.{RattleType, owns}
use denote.Param.{param}
use denote.Signature.{types_at, plain}
use denote.Steps.{nothing, opens, closes}
use denote.Triple.Walked.{Stays, stay_ref, walk_of, ends_at, Goes-ref}
use Rattle.core.proofs.alloc.Shapes.{after}
use Rattle.core.proofs.cell.Inside.{one}
use Rattle.core.proofs.mem.Facts.{says_two}
use Rattle.core.proofs.mem.Param.{El, args}
use Rattle.std.proofs.raw_atomic.Walks.{proved_at}
use Rattle.esync_rows.specs.contracts.place.Place as place
use Rattle.esync_rows.specs.Place.{place_owns}
use Rattle.esync_rows.specs.contracts.place.Place.TheInside as inside
use Rattle.esync_rows.specs.contracts.place.Place.spare.{ended, clauses}
use Rattle.esync_rows.specs.contracts.place.Place.spare.Key.{name as #self}
use Rattle.esync_rows.proofs.place.Place.spare.Statement.{statement}
use Rattle.esync_rows.proofs.place.Place.spare.Code as code

pub spare_spec : {M : Type 1} → statement M
spare_spec 𝓤 𝓛 𝓜 𝓡 wired X L =
    let H = 𝓛.H in
    let 𝓣 = tables 𝓤 H 𝓜 𝓡 𝓡.env in
    let R : RattleType = param 0 X in
    let E : El = record { row = X; laws = L } in
    let En = ended X in
    let c = clauses X 𝓛 𝓜.mem 𝓡.returns in
    let fn : Fn = inst_fn (args E) code.function in
    let Row : RattleType = place.the_row R in
    let F : RattleType = inside.the_row R in
    let τ : Ty = lone F.mir in
    let itself = plain (λ _. Row) in
    let hs : Stays En.signature.params En.kept = (stay_ref (0 ∷ []) tt itself, tt) in
    proved_at 𝓛 En hs c 𝓜 𝓡 (Goes-ref 𝓛 2 0 tt itself, tt) (#self (args E)) fn (code.unfolded 𝓤 H 𝓜 𝓡 wired (X, tt)) (λ z are.
    let κ : Lft = z.0.0.0 in
    let q : Share = z.0.1.0 in
    let κ₁ : Lft = z.0.0.1.0 in
    let q₁ : Share = z.0.1.1.0 in
    let b : ℕ = z.0.3.0.ref_ptr.0 in
    let o : ℕ = z.0.3.0.ref_ptr.1 in
    let h : Option X.Denot = z.0.3.0.now in
    let Post : Val → SProp 𝓤 = (walk_of 𝓛 En hs c).post z in
    let holds : Option X.Denot → List Val → Fml = λ d vs. place_owns (λ x. F.own_val (record { item = x }) vs) d in
    qed 𝓛 (((‵ (flft κ q) ⊛ ‵ (flft κ₁ q₁) ⊛ ‵ ftrue) ⊛ ‵ (owns (types_at En.signature.params z.0.0) z.0.3 z.0.4)) ∷ (raw (fact 𝓤 _) ⊛ ‵ ftrue) ∷ []) ∵
    move ! (1 ∷ []) $ drop ! $
    split ! $ split ! $ move ! (2 ∷ []) $ fsplit ! $ fsplit3 ! $ keep ! (1 ∷ 2 ∷ 4 ∷ 5 ∷ []) $
    regoal ! (λ (us : List Val). prop (WpFn 𝓤 H 𝓣.C 𝓣.Λ fn us Post)) (λ i. are.0.0 i ++ []) refl $
    enter ! 𝓣.C 𝓣.Λ fn (vptr b o ∷ []) Post $ alloc_all ! (λ l. pass_all ! refl ((tt, tt), tt) $
    let Ev : Env 𝓤 H = env fn.locals l in
    opens ! tt Row {h = h} b o (λ vs. move ! (1 ∷ []) $ fsplit ! $ fpick ! (λ t. drop ! $
    let lies = one τ vs t in
    let v : Val = lies.0 in
    let good = lies.2 in
    rewrite ! 0 (λ (us : List Val). ‵ (holds h us)) lies.1 refl $
    rewrite ! 1 (λ (us : List Val). ‵ (cell_at full_share Row.mir us b o)) lies.1 refl $ move ! (1 ∷ []) $
    sets ! (addr ! (through ! refl (stop !))) refl (tt, tt) $
    first ! $ blocks ! $
    sets_last ! (of_opd ! (load ! (through ! refl (stop !)) (look_raw ! 0 refl))) refl good $
    exec ! 𝓣.C 𝓣.Λ Ev (after 2 fn.body) (at_ret Ev Post) $
    sets ! (of_opd ! (get ! refl)) refl good $
    move ! (1 ∷ []) $
    nothing ! $ fpack ! (Typed F.mir (v ∷ [])) (λ _. ftrue) (good, tt) $ fjoin ! $
    move ! (1 ∷ 0 ∷ 2 ∷ 3 ∷ 4 ∷ []) $ closes ! tt Row h (v ∷ []) b o $
    returns ! (look_at ! 0 refl) $ free_all ! refl $
    suffices ! _ (ends_at 𝓛 En hs c z v None (h, tt) (tt, tt)) $ says_two ! (refl, refl) $
    feq_i ! (List Val) z.0.4.0 (vptr b o ∷ []) are.0.0 $ fjoin3 ! $ nothing ! $ move ! (1 ∷ 0 ∷ []) $ fjoin ! $
    move ! (1 ∷ 2 ∷ []) $ join ! $
    nothing ! $ nothing ! $ fpack ! (Typed F.mir (v ∷ [])) (λ _. ftrue) (good, tt) $ fjoin ! $
    keep ! (1 ∷ 2 ∷ 0 ∷ []) $ done !))))
