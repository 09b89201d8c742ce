-- Receivers of a table, as one is made, leaves, or has seen another version.
use Rattle.std.proofs.Common.{◌≡◌, ℕ, ◌≤◌, true, List, length, Option, Some, None, ◌⊎◌, inl, inr, refl, sym, ap, ◌∙◌, subst}
use Rattle.std.specs.Prelude.{slice_set}
use Rattle.std.proofs.lemmas.List.{length-set, length-replicate}
use Rattle.std.proofs.Math.ListN.{replicate}
use Rattle.esync_base.specs.ListedLaws.{same_or_not}
use Rattle.esync_machine.specs.Numbers.{at_number}
use Rattle.esync_machine.specs.NumbersLaws.{there_of, at_set_here, at_set_other}
use Rattle.esync_machine.specs.Names.{is_free, counted}
use Rattle.esync_machine.specs.NamesLaws.{free_number, counted_alike, used_none, used_some, used_taken, used_freed, used_kept}
use Rattle.esync_cells.specs.Receivers.{is_counted, count, IsCounted, with_seen, with_seen_if}
use Rattle.esync_cells.specs.declared.watch.machine.Seen.{Seen}

-- what is counted is a receiver
pub someone : (p : Option Seen) → is_counted p ≡ true → (s : Seen) × (p ≡ Some s) × (s.is_counted ≡ true)
someone None e = absurd cc
someone (Some s) e = (s, refl, e)

-- if a receiver is counted, the count is at least one
pub one_counted : (h : ℕ) (q : List (Option Seen)) → is_counted (at_number q h) ≡ true → 1 ≤ count q
one_counted h q e = (let s = someone (at_number q h) e in used_some (λ s. s.is_counted) q h s.0 s.1 s.2)

-- a number with a receiver isn't free
pub free_elsewhere : (h t : ℕ) (q : List (Option Seen)) (s : Seen) → is_free h q ≡ true → at_number q t ≡ Some s → h ≡ t → ⊥
free_elsewhere h t q s free there same =
    let some : at_number q h ≡ Some s = ap (at_number q) same ∙ there in
    let none : at_number q h ≡ None = free_number q h free in
    absurd cc

pub counts_none : (n k : ℕ) (q : List (Option Seen)) → k ≡ 0 → q ≡ replicate n None → IsCounted n k q
counts_none n k q e f = (ap length f ∙ length-replicate n None, e ∙ sym (ap count f ∙ used_none (λ s. s.is_counted) n))

-- how many receivers are counted after one is made at a free number, leaves, or has seen another version
module _ (n k h : ℕ) (q q2 : List (Option Seen)) (is : IsCounted n k q) where
  pub counts_joined : (s : Seen) → is_free h q ≡ true → q2 ≡ slice_set q h (Some s) → IsCounted n (counted s.is_counted k) q2
  counts_joined s free e = (ap length e ∙ length-set q h (Some s) ∙ is.0, ap (counted s.is_counted) is.1 ∙ sym (ap count e ∙ used_taken (λ s. s.is_counted) q h s free))

  pub counts_left : (s : Seen) (k2 : ℕ) → at_number q h ≡ Some s → q2 ≡ slice_set q h None → k ≡ counted s.is_counted k2 → IsCounted n k2 q2
  counts_left s k2 there e f = (ap length e ∙ length-set q h None ∙ is.0, counted_alike s.is_counted k2 (count q2) (sym f ∙ is.1 ∙ used_freed (λ s. s.is_counted) q h s there ∙ ap (λ l. counted s.is_counted (count l)) (sym e)))

  pub counts_marked : (s t : Seen) → at_number q h ≡ Some s → t.is_counted ≡ s.is_counted → q2 ≡ slice_set q h (Some t) → IsCounted n k q2
  counts_marked s t there same e = (ap length e ∙ length-set q h (Some t) ∙ is.0, is.1 ∙ sym (ap count e ∙ used_kept (λ s. s.is_counted) q h s t there same))

marked_there : (h v : ℕ) (q : List (Option Seen)) (t : ℕ) (p : Option Seen) → at_number q h ≡ p → (at_number (with_seen_if h v p q) t ≡ at_number q t) ⊎ ((s : Seen) × (at_number q t ≡ Some s) × (at_number (with_seen_if h v p q) t ≡ Some (record s { version = v })))
marked_there h v q t None e = inl refl
marked_there h v q t (Some s) e =
    let after : Option Seen = Some (record s { version = v }) in
    elim (same_or_not h t) [
      | inl same ↦ inr (s, subst (λ n. at_number q n ≡ Some s) same e, subst (λ n. at_number (slice_set q h after) n ≡ after) same (at_set_here q h (Some s) after (there_of q h s e)))
      | inr other ↦ inl (at_set_other q h t after other)
    ]

-- a receiver stays at its number, but may have seen another version
pub at_marked : (h v : ℕ) (q : List (Option Seen)) (t : ℕ) → (at_number (with_seen h v q) t ≡ at_number q t) ⊎ ((s : Seen) × (at_number q t ≡ Some s) × (at_number (with_seen h v q) t ≡ Some (record s { version = v })))
at_marked h v q t = marked_there h v q t (at_number q h) refl
