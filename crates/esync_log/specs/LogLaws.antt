-- Places in a row of positions, a subscriber at another position, and a log in which it caught up.
use Rattle.std.proofs.Common.{◌≡◌, ℕ, zero, suc, ◌-◌, ◌<◌, ◌≤◌, Bool, true, false, List, [], ◌∷◌, length, refl, sym, ◌∙◌, ap, arith}
use Rattle.std.specs.Prelude.{Option, Some, None, is_some, slice_get, slice_set, slice_index_or}
use Rattle.std.proofs.lemmas.Bool.Decides.{nat_tests}
use Rattle.std.proofs.lemmas.List.{set-set, set-get_or, get_or-set_same}
use Rattle.esync_log.specs.Log.{Log, number_of, is_read, oldest, position, is_live, is_last, moved, lags, gap, caught_if, caught, Reads, IsRefused}
use Rattle.esync_log.specs.declared.log.WaitResult.TheVariants.{Lagged}

-- a place with a subscriber is in the row, and has a number
pub place_below : (ps : List (Option ℕ)) (i : ℕ) → is_some (slice_index_or ps i None) ≡ true → i < length ps
place_below [] i e = absurd cc
place_below (q ∷ ps) zero e = omega arith
place_below (q ∷ ps) (suc i) e = omega (arith, place_below ps i e)

pub free_below : (ps : List (Option ℕ)) (i : ℕ) → slice_get ps i ≡ Some None → i < length ps
free_below [] i e = absurd cc
free_below (q ∷ ps) zero e = omega arith
free_below (q ∷ ps) (suc i) e = omega (arith, free_below ps i e)

pub free_there : (ps : List (Option ℕ)) (i : ℕ) → slice_get ps i ≡ Some None → slice_index_or ps i None ≡ None
free_there [] i e = refl
free_there (q ∷ ps) zero e = grind arith
free_there (q ∷ ps) (suc i) e = free_there ps i e

pub some_number : (q : Option ℕ) → is_some q ≡ true → q ≡ Some (number_of q)
some_number None e = absurd cc
some_number (Some p) e = refl

module _ {T : Type 0} (place : ℕ) (log : Log T) where
  -- a subscriber moved twice is where it was moved last
  moved_again : (p q : ℕ) → moved place q (moved place p log) ≡ moved place q log
  moved_again p q = (let f : List (Option ℕ) → Log T = λ ps. record { held = log.held; next = log.next; positions = ps } in ap f (set-set log.positions place (Some p) (Some q)))

  -- a subscriber moved to where it is changes nothing
  moved_there : (p : ℕ) → slice_index_or log.positions place None ≡ Some p → moved place p log ≡ log
  moved_there p e = (let f : List (Option ℕ) → Log T = λ ps. record { held = log.held; next = log.next; positions = ps } in ap (λ q. f (slice_set log.positions place q)) (sym e) ∙ ap f (set-get_or log.positions place None))

  -- a subscriber moved away and back changes nothing
  pub moved_back : (p q : ℕ) → slice_index_or log.positions place None ≡ Some p → moved place p (moved place q log) ≡ log
  moved_back p q e = moved_again q p ∙ moved_there p e

  module _ (live : is_live place log ≡ true) where
    pub moved_at : (q : ℕ) → slice_index_or (moved place q log).positions place None ≡ Some q
    moved_at q = get_or-set_same log.positions place (Some q) None (place_below log.positions place live)

    pub moved_live : (q : ℕ) → is_live place (moved place q log) ≡ true
    moved_live q = ap is_some (moved_at q)

    pub moved_position : (q : ℕ) → position place (moved place q log) ≡ q
    moved_position q = ap number_of (moved_at q)

    -- a subscriber moved to the oldest message doesn't lag
    pub moved_up : (q : ℕ) → q ≡ oldest log → oldest (moved place q log) ≤ position place (moved place q log)
    moved_up q e = omega (arith, moved_position q, e)

    pub moved_down : (q : ℕ) → q ≡ oldest log → position place (moved place q log) ≤ oldest (moved place q log)
    moved_down q e = omega (arith, moved_position q, e)

  -- the other subscribers read what they read before one was moved
  pub moved_last : (n q : ℕ) → is_last place n (moved place q log) ≡ is_last place n log
  moved_last n q = ap (is_read n) (set-set log.positions place (Some q) None)

  -- a clone that is refused once the subscriber was moved
  pub refused_moved : (I : T → Type 0) (n q : ℕ) → IsRefused I place n (moved place q log) → IsRefused I place n log
  refused_moved I n q r = record { from = r.from; shared = sym (moved_last n q) ∙ r.shared; fails = r.fails }

  refused_if : (b : Bool) (I : T → Type 0) (n : ℕ) → IsRefused I place n (caught_if b place log) → IsRefused I place n log
  refused_if true I n r = refused_moved I n (oldest log) r
  refused_if false I n r = r

  pub caught_lagging : position place log < oldest log → caught place log ≡ moved place (oldest log) log
  caught_lagging l = (let e : lags place log ≡ true = grind (arith, nat_tests) in rw e refl)

  pub caught_up : oldest log ≤ position place log → caught place log ≡ log
  caught_up l = (let e : lags place log ≡ false = grind (arith, nat_tests) in rw e refl)

  -- a clone that is refused after the subscriber has caught up
  pub refused_caught : (I : T → Type 0) (n : ℕ) → IsRefused I place n (caught place log) → IsRefused I place n log
  refused_caught I n r = refused_if (lags place log) I n r

  module _ (C : T → T → Type 0) (log2 : Log T) where
    -- a lag was read
    pub lag_read : (k : ℕ) → Reads C place log (Some (Lagged k)) log2 → lags place log ≡ true
    lag_read k r = (let l : position place log < oldest log = r.0 in grind (arith, nat_tests))

    pub lag_gap : (k : ℕ) → Reads C place log (Some (Lagged k)) log2 → Reads C place log (gap (lags place log) (oldest log - position place log)) log2
    lag_gap k r = rw (lag_read k r) (r.0, refl, r.2)

    -- all was read
    pub end_read : Reads C place log None log2 → lags place log ≡ false
    end_read r = (let l : oldest log ≤ position place log = omega (arith, r.0) in grind (arith, nat_tests))

    pub end_gap : Reads C place log None log2 → Reads C place log (gap (lags place log) (oldest log - position place log)) log2
    end_gap r = rw (end_read r) r
