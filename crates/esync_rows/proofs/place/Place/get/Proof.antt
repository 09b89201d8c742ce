-- A `&` to a place that holds an item has one to the item. Assumes `Logic`.
use Rattle.std.proofs.Common.{ℕ, ◌+◌, List, [], ◌∷◌, ◌++◌, refl, Option}
use mir.Syntax.{Fn, Ty}
use mir.Val.{Val, vptr}
use mir.MapTy.{inst_fn}
use base.Logic.{SProp}
use base.Fml.{Lft, Share, ftrue, flft}
use prog.Wp.{WpFn}
use contract.Monad.{fact}
use contract.Running.{tables}
use types.Kit.{‵, raw, ◌⊛◌, prop, ◌$◌, ◌∵◌, !, qed, move, keep, drop, use1, split, join, rewrite, regoal, fsplit, fjoin, feq_i, suffices, done}
use types.Run.{stop, fld, addr, returns, enter}
use types.ByLocal.{alloc_all, pass_all, free_all, look_at, through, sets}
use denote.Exit.{yes}
use base.Logic.{id⊢}
use prog.Memory.{up, align}
use denote.Memory.{hidden_shr}
use denote.Opens.{unhide}
use denote.Builtin.{RefOf}
use denote.Memory.{lone}
use denote.RattleType.{RattleType, owns}
use denote.Param.{param, layout}
use denote.Signature.{types_at, plain}
use denote.Steps.{nothing, heard}
use denote.Triple.Walked.{Stays, stay_dropped, walk_of, ends_at, says, Goes-dropped}
use Rattle.core.proofs.mem.Param.{El, args}
use Rattle.std.proofs.raw_atomic.Walks.{proved_at}
use Rattle.std.specs.Option.{IsSome}
use Rattle.esync_rows.proofs.Held.{some_of}
use Rattle.esync_rows.specs.contracts.place.Place as place
use Rattle.esync_rows.specs.contracts.place.Place.TheInside as inside
use Rattle.esync_rows.specs.contracts.place.Place.get.{ended, clauses}
use Rattle.esync_rows.specs.contracts.place.Place.get.Key.{name as #self}
use Rattle.esync_rows.proofs.place.Place.get.Statement.{statement}
use Rattle.esync_rows.proofs.place.Place.get.Code as code

pub get_spec : {M : Type 1} → statement M
get_spec 𝓤 𝓛 𝓜 𝓡 wired X L =
    let H = 𝓛.H in
    let 𝓣 = tables 𝓤 H 𝓜 𝓡 𝓡.env in
    let R : RattleType = param 0 X in
    let E : El = record { row = X; laws = L } in
    let En = ended X in
    let c = clauses X 𝓛 𝓜.mem 𝓡.returns in
    let fn : Fn = inst_fn (args E) code.function in
    let Row : RattleType = place.the_row R in
    let F : RattleType = inside.the_row R in
    let τ : Ty = lone F.mir in
    let itself = RefOf (0 ∷ []) tt (plain (λ _. Row)) (λ _. tt) in
    let hs : Stays En.signature.params En.kept = (stay_dropped itself yes, tt) in
    proved_at 𝓛 En hs c 𝓜 𝓡 (Goes-dropped 𝓛 2 itself yes (λ κs x f. refl), tt) (#self (args E)) fn (code.unfolded 𝓤 H 𝓜 𝓡 wired (X, tt)) (λ z are.
    let κ : Lft = z.0.0.0 in
    let q : Share = z.0.1.0 in
    let κ₁ : Lft = z.0.0.1.0 in
    let q₁ : Share = z.0.1.1.0 in
    let b : ℕ = z.0.3.0.ref_ptr.0 in
    let o : ℕ = z.0.3.0.ref_ptr.1 in
    let h : Option X.Denot = z.0.3.0.now in
    let e : ℕ = o + up (align (layout X)) 0 in
    let Post : Val → SProp 𝓤 = (walk_of 𝓛 En hs c).post z in
    qed 𝓛 (((‵ (flft κ q) ⊛ ‵ (flft κ₁ q₁) ⊛ ‵ ftrue) ⊛ ‵ (owns (types_at En.signature.params z.0.0) z.0.3 z.0.4)) ∷ (raw (fact 𝓤 _) ⊛ raw (fact 𝓤 (IsSome h))) ∷ []) ∵
    move ! (1 ∷ []) $ split ! $ drop ! $ heard ! (IsSome h) (λ ok.
    let found = some_of h ok in
    let x : X.Denot = found.0 in
    split ! $ split ! $ move ! (2 ∷ []) $ fsplit ! $ fsplit ! $ keep ! (1 ∷ 3 ∷ 4 ∷ []) $
    rewrite ! 0 (λ (d : Option X.Denot). ‵ (hidden_shr Row κ d b o)) found.1 refl $
    unhide ! $ fsplit ! $ fsplit ! $ keep ! (0 ∷ 3 ∷ 4 ∷ []) $
    use1 𝓛 (‵ (hidden_shr R κ x b e)) (id⊢ 𝓤 _) $
    regoal ! (λ (us : List Val). prop (WpFn 𝓤 H 𝓣.C 𝓣.Λ fn us Post)) (λ i. are.0.0 i ++ []) refl $
    enter ! 𝓣.C 𝓣.Λ fn (vptr b o ∷ []) Post $ alloc_all ! (λ l. pass_all ! refl ((tt, tt), tt) $
    sets ! (addr ! (through ! refl (fld ! refl (stop !)))) refl (tt, tt) $
    returns ! (look_at ! 0 refl) $ free_all ! refl $
    suffices ! _ (ends_at 𝓛 En hs c z (vptr b e) (record { ref_ptr = (b, e); now = x }) (tt, tt) (tt, tt)) $ says ! found.1 $
    move ! (1 ∷ 2 ∷ []) $ join ! $ move ! (1 ∷ []) $ feq_i ! (List Val) (vptr b e ∷ []) (vptr b e ∷ []) refl $ fjoin ! $
    nothing ! $ nothing ! $ fjoin ! $ keep ! (2 ∷ 0 ∷ 1 ∷ []) $ done !)))
