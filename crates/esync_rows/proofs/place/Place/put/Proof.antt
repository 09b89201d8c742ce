-- `put` writes the item over the bytes. Assumes `Logic`.
use Rattle.std.proofs.Common.{◌≡◌, ℕ, List, [], ◌∷◌, ◌++◌, T, ◌&&◌, true, refl, Option, Some, None}
use mir.Syntax.{Fn, Ty}
use mir.Val.{Val, vptr, vunit, has_ty, WT}
use mir.MapTy.{inst_fn}
use base.Fraction.{full_share}
use base.Logic.{SProp}
use base.Fml.{Lft, Share, ftrue, fat, flft}
use prog.Wp.{Env, WpFn}
use contract.Monad.{fact}
use contract.Running.{tables}
use types.Kit.{‵, raw, ◌⊛◌, prop, at_ret, ◌$◌, ◌∵◌, !, qed, move, keep, drop, use1, split, join, rewrite, regoal, fsplit, fsplit3, fjoin, fjoin3, fpack, fpick, feq_i, suffices, done}
use types.Part.{whole, sub, store_in}
use types.Run.{stop, fld, addr, of_opd, unit_lit, assigns_last, first, blocks, exec, returns, enter}
use types.ByLocal.{alloc_all, pass_all, free_all, look_at, get, through, sets, env}
use denote.Exit.{no}
use mathlib.Core.Path.{ap, ◌∙◌}
use denote.Laws.{Typed}
use denote.Memory.{cell_at, lone}
use denote.RattleType.{RattleType, owns}
use denote.Param.{param, layout}
use denote.Signature.{types_at, plain}
use denote.Steps.{nothing, heard, opens, closes}
use denote.Struct.Members.{Member}
use denote.Triple.Walked.{Stays, stay_ref, stay_dropped, walk_of, ends_at, Goes-ref, Goes-dropped}
use Rattle.core.proofs.alloc.Shapes.{after}
use Rattle.core.proofs.cell.Inside.{round, wraps, one}
use denote.Triple.Walked.{says}
use Rattle.core.proofs.mem.Param.{El, args, lawful, Good, one as one_item}
use Rattle.std.proofs.ResultValues.{and_tt}
use Rattle.std.proofs.raw_atomic.Walks.{proved_at}
use Rattle.esync_rows.proofs.Held.{round_of}
use Rattle.esync_rows.specs.contracts.place.Place as place
use Rattle.esync_rows.specs.contracts.place.Place.TheInside as inside
use Rattle.esync_rows.specs.contracts.place.Place.put.{ended, clauses}
use Rattle.esync_rows.specs.contracts.place.Place.put.Key.{name as #self}
use Rattle.esync_rows.proofs.place.Place.put.Statement.{statement}
use Rattle.esync_rows.proofs.place.Place.put.Code as code

pub put_spec : {M : Type 1} → statement M
put_spec 𝓤 𝓛 𝓜 𝓡 wired X L =
    let H = 𝓛.H in
    let 𝓣 = tables 𝓤 H 𝓜 𝓡 𝓡.env in
    let R : RattleType = param 0 X in
    let E : El = record { row = X; laws = L } in
    let m : Member = record { row = R; ty = layout X } in
    let En = ended X in
    let c = clauses X 𝓛 𝓜.mem 𝓡.returns in
    let fn : Fn = inst_fn (args E) code.function in
    let Row : RattleType = place.the_row R in
    let F : RattleType = inside.the_row R in
    let τ : Ty = lone F.mir in
    let itself = plain (λ _. Row) in
    let item = plain (λ _. R) in
    let hs : Stays En.signature.params En.kept = (stay_ref (0 ∷ []) tt itself, (stay_dropped item no, tt)) in
    proved_at 𝓛 En hs c 𝓜 𝓡 (Goes-ref 𝓛 2 0 tt itself, (Goes-dropped 𝓛 2 item no (λ κs x f. refl), tt)) (#self (args E)) fn (code.unfolded 𝓤 H 𝓜 𝓡 wired (X, tt)) (λ z are.
    let κ : Lft = z.0.0.0 in
    let q : Share = z.0.1.0 in
    let κ₁ : Lft = z.0.0.1.0 in
    let q₁ : Share = z.0.1.1.0 in
    let b : ℕ = z.0.3.0.ref_ptr.0 in
    let o : ℕ = z.0.3.0.ref_ptr.1 in
    let h : Option X.Denot = z.0.3.0.now in
    let x : X.Denot = z.0.3.1.0 in
    let got = one_item E z.0.4.1.0 ((lawful E 𝓛).typed x z.0.4.1.0 are.1.0) in
    let w : Val = got.0 in
    let good : Good E w = got.2 in
    let typed : T (has_ty (layout X) w && true) × WT (round w) = (and_tt (has_ty (layout X) w) good.0, (good.1, tt)) in
    let Post : Val → SProp 𝓤 = (walk_of 𝓛 En hs c).post z in
    qed 𝓛 (((‵ (flft κ q) ⊛ ‵ (flft κ₁ q₁) ⊛ ‵ ftrue) ⊛ ‵ (owns (types_at En.signature.params z.0.0) z.0.3 z.0.4)) ∷ (raw (fact 𝓤 _) ⊛ raw (fact 𝓤 (h ≡ None))) ∷ []) ∵
    move ! (1 ∷ []) $ split ! $ drop ! $ heard ! (h ≡ None) (λ free.
    split ! $ split ! $ move ! (2 ∷ []) $ fsplit ! $ fsplit3 ! $ move ! (3 ∷ []) $ fsplit ! $
    rewrite ! 0 (λ (us : List Val). ‵ (R.own_val x us)) got.1 refl $ keep ! (3 ∷ 4 ∷ 5 ∷ 0 ∷ 6 ∷ []) $
    regoal ! (λ (us : List Val). prop (WpFn 𝓤 H 𝓣.C 𝓣.Λ fn us Post)) (λ i. are.0.0 i ++ (got.1 i ++ [])) refl $
    enter ! 𝓣.C 𝓣.Λ fn (vptr b o ∷ w ∷ []) Post $ alloc_all ! (λ l. pass_all ! refl ((tt, tt), (good, tt)) $
    let Ev : Env 𝓤 H = env fn.locals l in
    opens ! tt Row {h = h} b o (λ vs. move ! (1 ∷ []) $
    rewrite ! 0 (λ (d : Option X.Denot). ‵ (Row.own_val d vs)) free refl $ fsplit ! $ fpick ! (λ t. drop ! $ drop ! $
    let lies = one τ vs t in
    let shape = round_of (layout X) lies.0 lies.2.0 in
    rewrite ! 0 (λ (us : List Val). ‵ (cell_at full_share Row.mir us b o)) (lies.1 ∙ ap (λ (v : Val). v ∷ []) shape.1) refl $
    use1 𝓛 (‵ (fat full_share τ b o (round shape.0))) (𝓛.laws.raw_at full_share τ b o (round shape.0)) $
    sets ! (addr ! (through ! refl (fld ! refl (stop !)))) refl (tt, tt) $
    first ! $ blocks ! $
    sets ! (of_opd ! (get ! refl)) refl good $
    assigns_last ! (of_opd ! (get ! refl)) (through ! refl (stop !)) (store_in ! 0 (sub ! 0 refl (whole !)) good) $
    exec ! 𝓣.C 𝓣.Λ Ev (after 2 fn.body) (at_ret Ev Post) $
    sets ! (of_opd ! (unit_lit !)) refl (tt, tt) $
    use1 𝓛 (‵ (cell_at full_share Row.mir (round w ∷ []) b o)) (𝓛.laws.at_raw full_share τ b o (round w)) $
    move ! (4 ∷ []) $ use1 𝓛 (‵ (F.own_val (record { item = x }) (round w ∷ []))) (wraps m 𝓛 [] [] x w) $
    nothing ! $ fpack ! (Typed F.mir (round w ∷ [])) (λ _. ftrue) (typed, tt) $ fjoin ! $
    move ! (1 ∷ 0 ∷ 2 ∷ 3 ∷ 4 ∷ []) $ closes ! tt Row (Some x) (round w ∷ []) b o $
    returns ! (look_at ! 0 refl) $ free_all ! refl $
    suffices ! _ (ends_at 𝓛 En hs c z vunit tt (Some x, (tt, tt)) (tt, (tt, tt))) $ says ! refl $
    feq_i ! (List Val) z.0.4.0 (vptr b o ∷ []) are.0.0 $ fjoin3 ! $ nothing ! $ nothing ! $ fjoin ! $ move ! (1 ∷ 0 ∷ []) $ fjoin ! $
    move ! (1 ∷ 2 ∷ []) $ join ! $ feq_i ! (List Val) (vunit ∷ []) (vunit ∷ []) refl $ keep ! (1 ∷ 2 ∷ 0 ∷ []) $ done !)))))
