-- A `&` to a place that holds an item is a `&` to the field. Assumes `Logic`.
use Rattle.std.proofs.Common.{◌≡◌, ℕ, List, [], ◌∷◌, ◌++◌, sym, subst, Option, Some, None}
use seplogic.Ra.Ura.{Ura}
use mir.Syntax.{Ty}
use base.Fraction.{full_share}
use base.Logic.{ent, sep}
use base.Fml.{Lft, Incl, Incl-trans}
use contract.BorrowLft.{meet_⊑_left}
use ghost.Rules.{Toks, span}
use types.Logic.{Logic, sem, lfts}
use denote.RattleType.{RattleType, RowLaws}
use denote.Laws.{Lawful}
use denote.Memory.{part_of, part_at}
use denote.Shares.{Shares, shares_Struct_from}
use denote.Sharing.{ShrLaws}
use denote.SharingLaws.{nothing_shr_laws}
use denote.Param.{layout}
use denote.Param.Laws.{Laws}
use denote.Struct.Struct.{Struct-row_laws}
use denote.Struct.Members.{Member, row_of, lawful_Lones}
use denote.Struct.Parts.{shape_of}
use denote.Struct.Lending.{Law, Lends-nothing}
use Rattle.esync_rows.specs.contracts.place.Place as C
use Rattle.esync_rows.proofs.place.Place.TheLaw.Statement.{statement}

module _ (m : Member) where
  abbrev At : Option m.row.Denot → ℕ → ℕ → Lft → base.Fml.Fml
  At d b o κ = (C.the_written (row_of m)).shr_at d b o κ

  laws : RowLaws (row_of m) → (d : Option m.row.Denot) (b o : ℕ) → ShrLaws (At d b o)
  laws R (Some x) b o = Struct-row_laws (shape_of [] (m ∷ [])) (R, tt) (x, tt) b o
  laws R None b o = nothing_shr_laws

  lends : {M : Type 1} {𝓤 : Ura M} (𝓛 : Logic 𝓤) → Lawful 𝓛 (row_of m) → (l : Lft) → Shares 𝓛 (row_of m) l → (d : Option m.row.Denot) (κ : Lft) (ts : Toks) (b o : ℕ) → Incl (span ts) l → Incl (span ts) κ
      → ent 𝓤 (sep 𝓤 (𝓛.A.bor κ (part_at (C.the_written (row_of m)) full_share d b o)) (lfts 𝓛 ts)) (𝓛.H.⇛ (sep 𝓤 (sem 𝓛 (At d b o κ)) (lfts 𝓛 ts)))
  unfolding part_of
  lends 𝓛 L l s (Some x) κ ts b o inc sp = shares_Struct_from 𝓛 full_share [] (m ∷ []) (lawful_Lones 𝓛 (m ∷ []) (L, tt)) l (s, tt) (x, tt) κ ts b o inc sp
  lends 𝓛 L l s None κ ts b o inc sp = Lends-nothing 𝓛 (part_at (C.the_written (row_of m)) full_share None b o) l κ ts inc sp

pub shares : (T : RattleType) (L : Laws T) → statement T L
shares T L = let m : Member = record { row = T; ty = layout T } in
    let same : T ≡ row_of m = λ i. record { Denot = T.Denot; mir = L.one i; written = T.written; reaches = T.reaches; lives = T.lives; own_val = T.own_val; exit = T.exit; coded = T.coded; shr_at = T.shr_at } in
    subst (λ (τ : List Ty). Law (C.the_written (record T { mir = τ }))) (sym L.one) (record {
      shr_laws = λ d b o. laws m (subst RowLaws same L.shr_laws) d b o;
      shares = λ M 𝓤 𝓛 d κ ts b o inc sp. lends m 𝓛 (subst (Lawful 𝓛) same (L.lawful 𝓛)) T.lives (subst (λ (R : RattleType). Shares 𝓛 R T.lives) same (L.shares 𝓛)) d κ ts b o
          (Incl-trans inc (Incl-trans (meet_⊑_left (T.lives ++ []) _) (meet_⊑_left T.lives []))) sp;
    })
