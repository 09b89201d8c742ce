-- `new` wraps the item. Assumes `Logic`.
use Rattle.std.proofs.Common.{◌≡◌, List, [], ◌∷◌, ◌++◌, T, ◌&&◌, true, refl, sym, subst, Some}
use mir.Syntax.{Fn}
use mir.Val.{Val, has_ty, WT}
use mir.MapTy.{inst_fn}
use base.Logic.{SProp, emp, ent, id⊢}
use base.Fml.{ftrue}
use prog.Wp.{WpFn}
use contract.Monad.{fact, fact_i}
use contract.Running.{tables}
use types.Kit.{‵, raw, ◌⊛◌, ◌$◌, ◌∵◌, !, qed, by, move, keep, drop, use0, use1, split, rewrite, fsplit, fjoin, fpack, suffices}
use types.Part.{agg}
use types.Run.{of_opd, no_more, and_then, returns, enter}
use types.ByLocal.{alloc_all, pass_all, free_all, look_at, get, sets}
use denote.Exit.{no}
use denote.Laws.{Typed}
use denote.RattleType.{RattleType, owns}
use denote.Param.{param, layout}
use denote.Signature.{types_at, plain}
use denote.Steps.{nothing}
use denote.Struct.Members.{Member}
use denote.Triple.Entry.{alive}
use denote.Triple.Walked.{Stays, stay_dropped, walk_of, Goes-dropped}
use Rattle.core.proofs.cell.Inside.{round, wraps}
use Rattle.core.proofs.mem.Param.{El, args, lawful, Good, one}
use Rattle.std.proofs.ResultValues.{and_tt}
use Rattle.std.proofs.raw_atomic.Walks.{proved_at, leaves}
use Rattle.esync_rows.specs.contracts.place.Place.TheInside as inside
use Rattle.esync_rows.specs.contracts.place.Place.new.{ended, clauses}
use Rattle.esync_rows.specs.contracts.place.Place.new.Key.{name as #self}
use Rattle.esync_rows.proofs.place.Place.new.Statement.{statement}
use Rattle.esync_rows.proofs.place.Place.new.Code as code

pub new_spec : {M : Type 1} → statement M
new_spec 𝓤 𝓛 𝓜 𝓡 wired X L =
    let H = 𝓛.H in
    let 𝓣 = tables 𝓤 H 𝓜 𝓡 𝓡.env in
    let R : RattleType = param 0 X in
    let E : El = record { row = X; laws = L } in
    let m : Member = record { row = R; ty = layout X } in
    let En = ended X in
    let c = clauses X 𝓛 𝓜.mem 𝓡.returns in
    let fn : Fn = inst_fn (args E) code.function in
    let item = plain (λ _. R) in
    let hs : Stays En.signature.params En.kept = (stay_dropped item no, tt) in
    let F : RattleType = inside.the_row R in
    proved_at 𝓛 En hs c 𝓜 𝓡 (Goes-dropped 𝓛 1 item no (λ κs x f. refl), tt) (#self (args E)) fn (code.unfolded 𝓤 H 𝓜 𝓡 wired (X, tt)) (λ z are.
    let x : X.Denot = z.0.3.0 in
    let got = one E z.0.4.0 ((lawful E 𝓛).typed x z.0.4.0 are.0) in
    let w : Val = got.0 in
    let good : Good E w = got.2 in
    let v : Val = round w in
    let Post : Val → SProp 𝓤 = (walk_of 𝓛 En hs c).post z in
    let Run : List Val → SProp 𝓤 = λ ws. WpFn 𝓤 H 𝓣.C 𝓣.Λ fn ws Post in
    let typed : T (has_ty (layout X) w && true) × WT v = (and_tt (has_ty (layout X) w) good.0, (good.1, tt)) in
    qed 𝓛 ((raw (alive 𝓛 En.signature z.0.0 z.0.1) ⊛ ‵ (owns (types_at En.signature.params z.0.0) z.0.3 z.0.4)) ∷ (raw (fact 𝓤 _) ⊛ ‵ ftrue) ∷ []) ∵
    move ! (1 ∷ []) $ drop ! $ split ! $ move ! (1 ∷ []) $ fsplit ! $ move ! (1 ∷ []) $ drop ! $
    rewrite ! 0 (λ (ws : List Val). ‵ (R.own_val x ws)) got.1 refl $
    use1 𝓛 (‵ (F.own_val (record { item = x }) (v ∷ []))) (wraps m 𝓛 [] [] x w) $
    nothing ! $ fpack ! (Typed F.mir (v ∷ [])) (λ _. ftrue) (typed, tt) $ fjoin ! $
    suffices ! (Run (w ∷ [])) (subst (λ (ws : List Val). ent 𝓤 (Run (w ∷ [])) (Run ws)) (sym (λ i. got.1 i ++ [])) (id⊢ 𝓤 (Run (w ∷ [])))) $
    enter ! 𝓣.C 𝓣.Λ fn (w ∷ []) Post $ alloc_all ! (λ l. pass_all ! refl (good, tt) $
    sets ! (of_opd ! (get ! refl)) refl good $
    sets ! (agg ! (and_then ! (get ! refl) (no_more !))) refl typed $
    use0 𝓛 (raw (fact 𝓤 (Some x ≡ Some x))) (fact_i 𝓤 (Some x ≡ Some x) (emp 𝓤) refl) $ nothing ! $ nothing ! $ fjoin ! $
    returns ! (look_at ! 0 refl) $ free_all ! refl $ keep ! (3 ∷ 0 ∷ 2 ∷ 1 ∷ []) $
    by ! (leaves 𝓛 En hs c z v (Some x) (tt, tt) (tt, tt))))
